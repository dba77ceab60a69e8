-- `window_columns::least_built` meets its contract. The loop's invariant: with what is left of the window from place i on, the least so far is the least.
-- Assumes nothing.
use Rattle.std.proofs.Common.{◌≡◌, ℕ, ◌≤◌, List, take, min}
use lib.Seq.{slice}
use Rattle.window_square.specs.Square.{least_built}
use Rattle.window_columns.proofs.least_built.Given as goal

-- the cells from place i on are left to see
pub record Left (cells places : List ℕ) (count least i : ℕ) : Type 0 where
  pub small : least ≤ 65535
  pub rest : min least (least_built cells (slice i count places)) ≡ least_built cells (take count places)

abbrev pub invariant-loop-i : goal.invariant-loop-i
invariant-loop-i l = Left l.cells l.window.cells l.window.count l.least l.i
