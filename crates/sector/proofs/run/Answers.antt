-- `sector::run` meets its contract: what its three parts leave. A started field's corners are cells, so it can be built.
-- Assumes nothing.
use Rattle.route.specs.Inner.{held_target}
use Rattle.route.proofs.Targets.{held_in}
use Rattle.integration_walks.proofs.Promise.{accepts_started}
use Rattle.sector.proofs.run.Goals as goal

pub build_with_positions-answer-requires : goal.build_with_positions-answer-requires
build_with_positions-answer-requires c =
    let t = c.args.target in
    rw c.start-field.ensures (accepts_started c.args.costs.now (held_target t) c.told-costs (held_in t c.requires))
