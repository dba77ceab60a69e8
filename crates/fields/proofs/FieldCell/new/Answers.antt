-- `fields::FieldCell::new` meets its contract: a column and a row below 10 make a cell, others none.
-- Assumes nothing.
use Rattle.std.proofs.Common.{arith}
use borrow.Author.Tests.{le-ltb, lt-ltb}
use Rattle.fields.specs.Cell.{the_cell_in}
use Rattle.fields.proofs.FieldCell.new.Goals as goal

pub returns-then-column-gt9 : goal.returns-then-column-gt9
unfolding the_cell_in
returns-then-column-gt9 c = rw (le-ltb c.args.column 10 (omega arith))

pub returns-then-row-gt9 : goal.returns-then-row-gt9
unfolding the_cell_in
returns-then-row-gt9 c = rw (lt-ltb c.args.column 10 (omega arith), le-ltb c.args.row 10 (omega arith))

pub returns : goal.returns
unfolding the_cell_in
returns c = rw (lt-ltb c.args.column 10 (omega arith), lt-ltb c.args.row 10 (omega arith))
