-- `window_columns::row_of` meets its contract. The loop's invariant: the first j places are filled.
-- Assumes nothing.
use Rattle.utilities.proofs.Lists.{FilledTo}
use Rattle.window_square.specs.Promise.{cost_at}
use Rattle.window_columns.proofs.row_of.Given as goal

abbrev pub invariant-loop-j : goal.invariant-loop-j
invariant-loop-j l = FilledTo 8 (λ k. cost_at l.columns k l.i) l.j l.row
