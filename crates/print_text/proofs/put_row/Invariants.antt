-- `print_text::put_row` meets its contract. The loop's invariant: the row's first cells are stored, and `out` is as long as it was.
-- Assumes nothing.
use Prim.Native.Nat.{◌*◌}
use Rattle.print_text.specs.Rows.{cells_text}
use Rattle.print_text.proofs.Laws.{Stored}
use Rattle.print_text.proofs.put_row.Given as goal

abbrev pub invariant-loop-column : goal.invariant-loop-column
invariant-loop-column l = Stored l.initial.out (21 * l.row) (cells_text l.cells l.row l.column) l.out
