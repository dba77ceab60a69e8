-- `window_columns::rows_of` meets its contract. The loop's invariant: the first i rows are filled.
-- Assumes nothing.
use Rattle.utilities.proofs.Lists.{FilledTo}
use Rattle.window_square.specs.Inner.{held_row}
use Rattle.window_columns.proofs.rows_of.Given as goal

abbrev pub invariant-loop-i : goal.invariant-loop-i
invariant-loop-i l = FilledTo 8 (held_row l.square) l.i l.rows
