-- `print_text::put_rows` meets its contract. The loop's invariant: the first rows are stored, and `out` is as long as it was.
-- Assumes nothing.
use Rattle.print_text.specs.Rows.{rows_text}
use Rattle.print_text.proofs.Laws.{Stored}
use Rattle.print_text.proofs.put_rows.Given as goal

abbrev pub invariant-loop-row : goal.invariant-loop-row
invariant-loop-row l = Stored l.initial.out 0 (rows_text l.cells l.row) l.out
