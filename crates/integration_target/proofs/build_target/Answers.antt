-- How a target's built field is proved: it is started, and then built without positions; both contracts say what they answer, and a started field's
-- corners are cells (`accepts_started`), so that it may be built. `build_window` starts from a window's cells by another call, and goes the same way.
-- `integration_target::build_target` meets its contract: the started field is one that is built.
-- Assumes nothing.
use mathlib.Core.Path.{ap, ◌∙◌}
use Rattle.route.specs.Inner.{held_target}
use Rattle.route.proofs.Targets.{held_in}
use Rattle.integration_build.specs.Without.{built_without}
use Rattle.integration_walks.proofs.Promise.{accepts_started}
use Rattle.integration_target.proofs.build_target.Goals as goal

pub build_without_positions-requires : goal.build_without_positions-requires
build_without_positions-requires c =
    let t = c.args.target in
    rw c.start-field.ensures (accepts_started c.args.costs.now (held_target t) c.told-costs (held_in t c.requires))

pub returns : goal.returns
returns c = c.build_without_positions.ensures ∙ ap (built_without c.args.costs.now) c.start-field.ensures
