-- `window_costs::window_square` meets its contract: a column more is filled, and the columns are turned into the rows of the square.
-- Assumes nothing.
use Rattle.std.proofs.Common.{◌≡◌, arith, ◌∙◌}
use Rattle.step_list.specs.Steps.{steps_of}
use Rattle.utilities.proofs.Lists.{filled_more, filled_all}
use Rattle.window_square.proofs.Columns.{column_of, turned}
use Rattle.window_costs.proofs.window_square.Goals as goal

pub loop-j-preserved : goal.loop-j-preserved
loop-j-preserved c =
    let l = c.loop-j in
    filled_more 8 (column_of c.args.costs.now (steps_of c.args.steps.now)) l.j l.columns _ (omega arith) c.column_at.ensures l.invariant

pub returns : goal.returns
returns c =
    let l = c.loop-j in
    let all : l.j ≡ 8 = omega arith in
    let filled = filled_all 8 (column_of c.args.costs.now (steps_of c.args.steps.now)) l.columns (rw all at l.invariant) in
    c.square_of.ensures ∙ turned c.args.costs.now (steps_of c.args.steps.now) l.columns filled
