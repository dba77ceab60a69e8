-- The invariant of `mark_walls`: the cells before place i are the definition's.
-- Assumes nothing.
use Rattle.std.proofs.Common.{◌≡◌, ℕ, List, length, take}
use Rattle.integration_started.specs.Sight.{walls}
use Rattle.integration_init.proofs.mark_walls.Given as goal

-- before place i
pub record Marked (costs cells : List ℕ) (i : ℕ) : Type 0 where
  pub full : length cells ≡ 100
  pub same : take i cells ≡ take i (walls costs)

abbrev pub invariant-loop-i : goal.invariant-loop-i
invariant-loop-i l = Marked l.costs l.cells l.i
