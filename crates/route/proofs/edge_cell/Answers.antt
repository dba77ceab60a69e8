-- `route::edge_cell` meets its contract: the edge's first cell, and as many strides on as the place says.
-- Assumes nothing.
use Rattle.std.proofs.Common.{◌≡◌, rules, ap, sym, ◌∙◌}
use Rattle.route.proofs.Cells.{edge_first, edge_at, along_below, below_hundred, first_else}
use Rattle.route.proofs.edge_cell.Goals as goal
use Rattle.route.proofs.edge_cell.Goals.{in-East, in-South, in_default}

pub overflow_mul-result : goal.overflow_mul-result
overflow_mul-result c =
    let h = rw (← c.stride_of.ensures) at (along_below c.args.boundary c.args.place c.requires) in
    search rules

pub overflow_add-result : goal.overflow_add-result
overflow_add-result c =
    let side = c.args.boundary in
    let first : c.match-boundary.first ≡ edge_first side = elim c.match-boundary.branch [
      | in-East w ↦ w.first-is ∙ ap edge_first (sym w.in-East.is)
      | in-South w ↦ w.first-is ∙ ap edge_first (sym w.in-South.is)
      | in_default w ↦ w.first-is ∙ sym (first_else side w.in_default.not-East w.in_default.not-South)
    ] in
    let h = rw (← c.stride_of.ensures, ← first) at (below_hundred side c.args.place c.requires) in
    search rules

pub returns : goal.returns
returns c =
    let side = c.args.boundary in
    let first : c.match-boundary.first ≡ edge_first side = elim c.match-boundary.branch [
      | in-East w ↦ w.first-is ∙ ap edge_first (sym w.in-East.is)
      | in-South w ↦ w.first-is ∙ ap edge_first (sym w.in-South.is)
      | in_default w ↦ w.first-is ∙ sym (first_else side w.in_default.not-East w.in_default.not-South)
    ] in
    rw (c.stride_of.ensures, first) (sym (edge_at side c.args.place c.requires))
