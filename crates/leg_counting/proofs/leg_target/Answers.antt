-- `leg_counting::leg_target` meets its contract: what is made of the step's bytes is what its target is listed as.
-- Assumes nothing.
use Rattle.std.proofs.Common.{refl}
use Rattle.route.proofs.Targets.{seen_is}
use Rattle.leg_counting.specs.Counting.{counting_cells}
use Rattle.leg_counting.proofs.leg_target.Goals as goal

pub returns-in-Some : goal.returns-in-Some
unfolding counting_cells
returns-in-Some c = rw (c.in-Some.is, c.counting_cells.ensures, c.new.ensures) refl

pub returns-in-None : goal.returns-in-None
returns-in-None c = rw c.in-None.is
    (seen_is c.args.step.now c.new-in-None.result c.as_target.result c.new-in-None.ensures c.as_target.ensures c.args.sight _ c.by_sight.ensures)
