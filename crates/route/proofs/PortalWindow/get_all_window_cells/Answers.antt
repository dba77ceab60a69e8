-- `route::PortalWindow::get_all_window_cells` meets its contract: the next cell of the edge is listed exactly if it is the window's, and when the edge
-- ends, all are.
-- Assumes nothing.
use Rattle.std.proofs.Common.{◌≡◌, ℕ, ◌<◌, List, arith, sym, ap, ◌∙◌}
use lib.Seq.{take_all}
use Rattle.route.specs.Window.{select, edge, between, cells_between, listed}
use Rattle.route.proofs.Cells.{edge_at_most, edge_in, room, taken, passed}
use Rattle.route.proofs.PortalWindow.get_all_window_cells.Goals as goal
use Rattle.route.proofs.PortalWindow.get_all_window_cells.Goals.{then-is_between, else-is_between}

-- there is a cell more, and it is one of the sector
more : {n k l : ℕ} → n ≡ l → k < n → k < l
more e h = omega arith

pub overflow_cast-cell : goal.overflow_cast-cell
overflow_cast-cell c =
    let side = c.args.self.boundary in
    let h = more c.edge_length-place-end.ensures c.loop-place-test.true in
    omega (arith, c.edge_cell-cell.ensures, (edge_in side).inside c.loop-place.place h)

pub push-requires : goal.push-requires
push-requires c =
    let w = c.args.self in
    let h = more c.edge_length-place-end.ensures c.loop-place-test.true in
    (omega arith, rw c.loop-place.invariant (room (between w.start w.end) (edge w.boundary) c.loop-place.place (edge_at_most w.boundary) h))

pub loop-place-preserved : goal.loop-place-preserved
loop-place-preserved c =
    let w = c.args.self in
    let p = between w.start w.end in
    let fits = edge_at_most w.boundary in
    let h = more c.edge_length-place-end.ensures c.loop-place-test.true in
    let x = c.edge_cell-cell in
    let answer = sym c.is_between.ensures in
    let k = c.loop-place.place in
    elim c.if-is_between.branch [
      | then-is_between t ↦ t.window-is ∙ t.push.ensures
          ∙ taken p (edge w.boundary) k fits h x.result c.loop-place.invariant x.ensures (answer ∙ t.if-is_between.true)
      | else-is_between t ↦ t.window-is
          ∙ passed p (edge w.boundary) k fits h x.result c.loop-place.invariant x.ensures (answer ∙ t.if-is_between.false)
    ]

pub returns : goal.returns
unfolding cells_between
returns c =
    let w = c.args.self in
    let ended = take_all c.loop-place.place (edge w.boundary) (omega (arith, c.edge_length-place-end.ensures)) in
    c.loop-place.invariant ∙ ap (λ (cells : List ℕ). listed (select (between w.start w.end) cells)) ended
