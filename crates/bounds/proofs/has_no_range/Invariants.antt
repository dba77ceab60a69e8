-- `bounds::has_no_range` meets its contract. The loop's invariant: each of the first i cells has a from-to.
-- Assumes nothing.
use Rattle.std.proofs.Common.{◌≡◌, false}
use Rattle.utilities.specs.Lists.{below}
use Rattle.bounds_told.specs.Bounds.{some_of, no_range}
use Rattle.bounds.proofs.has_no_range.Given as goal

abbrev pub invariant-loop-i : goal.invariant-loop-i
invariant-loop-i l = some_of (no_range l.low l.high) (below l.i) ≡ false
