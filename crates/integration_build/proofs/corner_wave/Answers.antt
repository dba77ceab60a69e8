-- `integration_build::corner_wave` meets its contract: a turn lists one corner more.
-- Assumes nothing.
use mathlib.Core.Path.{◌∙◌}
use Prim.Native.Nat.{◌<◌}
use native.Mathlib.Omega.{arith}
use borrow.Author.Rules.{rules}
use lib.ListN.{get_or}
use Rattle.integration_field.proofs.Answers.{all_below}
use Rattle.integration_build.proofs.Loops.{corner_listed}
use Rattle.integration_build.proofs.corner_wave.Goals as goal

pub overflow_cast-corner : goal.overflow_cast-corner
overflow_cast-corner c =
    let inside : get_or c.args.corners.now c.loop-corner.corner-index 0 < 100 = all_below c.args.corners.now c.requires.1 _ c.loop-corner-test.true in
    search rules

pub loop-corner-preserved : goal.loop-corner-preserved
loop-corner-preserved c = c.push.ensures ∙ corner_listed _ _ _ c.loop-corner.invariant c.loop-corner-test.true (omega arith)
