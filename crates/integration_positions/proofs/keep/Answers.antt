-- `integration_positions::keep` meets its contract: when the loop ends, what all hundred cells keep is in its place.
-- Assumes nothing.
use mathlib.Core.Path.{◌≡◌}
use native.Mathlib.Omega.{arith}
use Rattle.utilities.proofs.Lists.{filled_all}
use Rattle.integration_positions.proofs.keep.Goals as goal

pub returns : goal.returns
returns c =
    let e : c.loop-i.i ≡ 100 = omega arith in
    filled_all 100 _ c.loop-i.left (rw e at c.loop-i.invariant)
