-- `Wave::extend_los_corner` meets its contract: the end that is lent for the corner is the definition's and lies in the sector, and
-- so the line is the definition's.
-- Assumes nothing.
use Rattle.std.proofs.Common.{◌≡◌, ℕ, ◌<◌, List, map, sym, ap, ◌∙◌}
use mathlib.Core.Path.{ap₂, subst}
use lib.ListN.{get_or}
use Rattle.fields.specs.declared.FieldCell.{FieldCell}
use Rattle.fields.specs.Cell.{Inside, cell_at, index_of}
use Rattle.fields.proofs.Steps.{cell_inside, cell_of_index}
use Rattle.fields.specs.CellList.{held}
use Rattle.line_end.specs.LineEnd.{line_end}
use Rattle.line_end.proofs.Laws.{end_inside}
use Rattle.line_end_table.specs.Ends.{EndsFor}
use Rattle.line_nearest.specs.Line.{line}
use Rattle.bresenham.proofs.Drawn.{drawn_list}
use Rattle.integration_started.specs.Sight.{extended}
use Rattle.integration_started.specs.CornerLine.{corner_line}
use Rattle.integration_init.proofs.Lines.{line_short, line_drawn}
use Rattle.integration_init.proofs.Wave.extend_los_corner.Goals as goal

module _ {corner goal : ℕ} {ends : List ℕ} (corner_in : corner < 100) (lent : EndsFor goal ends) where
  -- the end by the definition
  abbrev defined : FieldCell
  defined = line_end (cell_at corner) (cell_at goal)

  defined_inside : Inside defined
  defined_inside = end_inside _ (cell_at goal) (cell_inside corner corner_in)

  -- is the end that is read
  end_is : {i : ℕ} {end : FieldCell} → i ≡ get_or ends corner 0 → end ≡ cell_at i → end ≡ defined
  end_is {i} {end} e f = f ∙ ap cell_at (e ∙ lent.each corner corner_in) ∙ cell_of_index defined defined_inside

  end_within : {i : ℕ} {end : FieldCell} → i ≡ get_or ends corner 0 → end ≡ cell_at i → Inside end
  end_within e f = subst Inside (sym (end_is e f)) defined_inside

-- the corner as a cell lies in the sector
from_inside : {corner : ℕ} {from : FieldCell} → corner < 100 → from ≡ cell_at corner → Inside from
from_inside {corner} h e = subst Inside (sym e) (cell_inside corner h)

pub draw_cells_between_points-line-requires : goal.draw_cells_between_points-line-requires
draw_cells_between_points-line-requires c =
    let w = c.requires.1 in
    (from_inside w.from_in c.from_index-from.ensures, end_within w.from_in w.ends c.from.ensures c.from_index-end.ensures)

pub mark_line-requires : goal.mark_line-requires
mark_line-requires c =
    let w = c.requires.1 in
    let l = c.draw_cells_between_points-line in
    let from = from_inside w.from_in c.from_index-from.ensures in
    let end = end_within w.from_in w.ends c.from.ensures c.from_index-end.ensures in
    record {
      ready = c.requires.0;
      short = line_short _ _ from end l.result l.ensures;
      line_in = line_drawn _ _ from end l.result l.ensures;
      corner_in = w.from_in;
      wave_in = w.wave_in;
    }

pub returns : goal.returns
unfolding extended corner_line
returns c =
    let w = c.requires.1 in
    let l = c.draw_cells_between_points-line in
    let cells : held l.result ≡ map index_of (line (cell_at c.args.corner) (line_end (cell_at c.args.corner) (cell_at c.args.self.now.goal))) =
    drawn_list l.ensures ∙ ap (map index_of) (ap₂ line c.from_index-from.ensures (end_is w.from_in w.ends c.from.ensures c.from_index-end.ensures)) in
    rw (← cells) c.mark_line.ensures
