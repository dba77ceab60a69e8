-- How this crate's functions are shown to fill a square: `row_of`, `square_of` and `rows_of` are loops that fill an array place by place, and their
-- invariants say that the first places hold what the definition says (`FilledTo` of `utilities`). `least_built` goes through a window's cells and
-- keeps the least so far.
--
-- `window_columns::square_of` meets its contract. The loop's invariant: the first i rows are filled.
-- Assumes nothing.
use mathlib.Core.List.{List, map}
use Rattle.std.proofs.Common.{ℕ}
use Rattle.utilities.specs.Lists.{below}
use Rattle.utilities.proofs.Lists.{FilledTo}
use Rattle.window_square.specs.Promise.{cost_at}
use Rattle.window_columns.proofs.square_of.Given as goal

-- a row, by the columns
abbrev pub turned : List (List ℕ) → ℕ → List ℕ
turned columns i = map (λ j. cost_at columns j i) (below 8)

abbrev pub invariant-loop-i : goal.invariant-loop-i
invariant-loop-i l = FilledTo 8 (turned l.columns) l.i l.square
