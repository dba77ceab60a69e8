-- `fields::FieldCell::as_1d_index` meets its contract: a cell inside has its index, one outside has 100.
-- Assumes nothing.
use Rattle.std.proofs.Common.{arith}
use borrow.Author.Tests.{le-ltb, lt-ltb}
use Rattle.fields.specs.Cell.{index_or}
use Rattle.fields.proofs.FieldCell.as_1d_index.Goals as goal

pub returns-then-column-gt9 : goal.returns-then-column-gt9
unfolding index_or
returns-then-column-gt9 c = rw (le-ltb c.args.self.column 10 (omega arith))

pub returns-then-row-gt9 : goal.returns-then-row-gt9
unfolding index_or
returns-then-row-gt9 c = rw (lt-ltb c.args.self.column 10 (omega arith), le-ltb c.args.self.row 10 (omega arith))

pub returns : goal.returns
unfolding index_or
returns c = rw (lt-ltb c.args.self.column 10 (omega arith), lt-ltb c.args.self.row 10 (omega arith))
