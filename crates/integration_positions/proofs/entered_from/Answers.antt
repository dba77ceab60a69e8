-- `integration_positions::entered_from` meets its contract: when the loop ends, the values of all hundred cells are in their places.
-- Assumes nothing.
use mathlib.Core.Path.{◌≡◌}
use native.Mathlib.Omega.{arith}
use Rattle.utilities.proofs.Lists.{filled_all}
use Rattle.integration_positions.proofs.entered_from.Goals as goal

pub returns : goal.returns
returns c =
    let e : c.loop-i.i ≡ 100 = omega arith in
    filled_all 100 _ c.loop-i.entered (rw e at c.loop-i.invariant)
