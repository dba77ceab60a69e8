-- `walk_bresenham_steep`: the walk alone is the definition's, and so the nearest one where the pair is of its kind.
-- Assumes nothing.
use Rattle.std.proofs.Common.{◌∙◌}
use Rattle.fields.specs.Cell.{cell}
use Rattle.line_nearest.specs.Line.{steep}
use Rattle.line_nearest.proofs.Calls.{steep_held}
use Rattle.bresenham.proofs.walk_bresenham_steep.Goals as goal

pub returns-clause-answer : goal.returns-clause-answer
unfolding steep
returns-clause-answer c = c.told_line.ensures ∙ c.walk_alone.ensures

pub returns-clause-nearest : goal.returns-clause-nearest
unfolding steep
returns-clause-nearest c =
    steep_held (cell c.args.col_0 c.args.row_0) (cell c.args.col_1 c.args.row_1) c.told_line.result
    (c.told_line.ensures ∙ c.walk_alone.ensures)
