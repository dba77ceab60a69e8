-- `draw_cells_between_points`, by the tests that it makes: which of the four walks is the line.
-- Assumes nothing.
use Rattle.std.proofs.Common.{◌≡◌, List, sym, arith}
use mathlib.Core.Path.{subst}
use Rattle.fields.specs.declared.FieldCell.{FieldCell}
use Rattle.fields.specs.declared.CellList.{CellList}
use Rattle.line_nearest.specs.Line.{shallow, steep}
use Rattle.line_nearest.proofs.Calls.{shallow_forth, shallow_back, steep_forth, steep_back}
use Rattle.bresenham.specs.Inner.{DrawnIn}
use Rattle.bresenham.proofs.draw_cells_between_points.Goals as goal

-- what a walk drew is the line, where its cells are the line's
is_line : {k l : List FieldCell} {drawn : CellList 10} → k ≡ l → DrawnIn l drawn → DrawnIn k drawn
is_line {drawn = drawn} e d = subst (λ (x : List FieldCell). DrawnIn x drawn) (sym e) d

pub returns-then-source-target : goal.returns-then-source-target
unfolding shallow
returns-then-source-target c = is_line (shallow_forth c.args.source c.args.target (omega arith) c.if-source-target.true) c.walk.ensures

pub returns-then-rows-columns : goal.returns-then-rows-columns
unfolding shallow
returns-then-rows-columns c = is_line (shallow_back c.args.source c.args.target (omega arith) c.if-source-target.false) c.walk-then-rows-columns.ensures

pub returns-then-source-target-2 : goal.returns-then-source-target-2
unfolding steep
returns-then-source-target-2 c = is_line (steep_forth c.args.source c.args.target (omega arith) c.if-source-target-2.true) c.walk-then-source-target-2.ensures

pub returns : goal.returns
unfolding steep
returns c = is_line (steep_back c.args.source c.args.target (omega arith) c.if-source-target-2.false) c.walk-2.ensures
