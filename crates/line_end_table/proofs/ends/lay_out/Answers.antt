-- `line_end_table::ends::lay_out` meets its contract. That the table passes the test is computed here, once for all of its 10,000 entries.
-- Assumes nothing.
use Rattle.std.proofs.Common.{refl}
use Rattle.line_nearest.specs.Line.{nearest}
use Rattle.line_end.specs.LineEnd.{first_ending, slanted_end, end_by, line_end}
use Rattle.line_end_table.proofs.Table.{every_end}
use Rattle.line_end_table.proofs.ends.lay_out.Goals as goal

pub returns : goal.returns
unfolding nearest first_ending slanted_end end_by line_end
returns c = every_end _ refl tt
