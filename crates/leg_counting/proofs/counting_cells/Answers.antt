-- `leg_counting::counting_cells` meets its contract: the next cell of the window is listed exactly if it counts, and when the window ends, all are.
-- Assumes nothing.
use Rattle.std.proofs.Common.{◌≡◌, ℕ, ◌<◌, List, length, get_or, ap, sym, ◌∙◌, arith}
use lib.Seq.{take_all}
use Rattle.fields.specs.declared.CellList.{CellList}
use Rattle.route.specs.declared.PortalWindow.{PortalWindow}
use Rattle.route.specs.Window.{select, listed}
use Rattle.route.specs.Target.{WindowIn}
use Rattle.route.proofs.Cells.{cells_in, listed_at, room, taken, passed}
use Rattle.leg_counting.specs.Counting.{counts}
use Rattle.leg_counting.proofs.counting_cells.Invariants.{cells_of}
use Rattle.leg_counting.proofs.counting_cells.Goals as goal
use Rattle.leg_counting.proofs.counting_cells.Goals.{then-counts, else-counts}

-- where the window's cells are known
window_in : (portal : PortalWindow) → WindowIn (cells_of portal)
window_in portal = cells_in portal.boundary portal.start portal.end

module _ (portal : PortalWindow) {w : CellList 10} (e : w ≡ listed (cells_of portal)) where
  count_is : w.count ≡ length (cells_of portal)
  count_is = ap (λ (x : CellList 10). x.count) e

  module _ (k : ℕ) (h : k < w.count) where
    more : k < length (cells_of portal)
    more = omega (arith, count_is)

    cell_is : get_or w.cells k 0 ≡ get_or (cells_of portal) k 0
    cell_is = ap (λ (x : CellList 10). get_or x.cells k 0) e ∙ listed_at (cells_of portal) k more

    inside : get_or w.cells k 0 < 100
    inside = omega (arith, cell_is, (window_in portal).inside k more)

pub counts-requires : goal.counts-requires
counts-requires c =
    let h = inside c.args.portal c.get_all_window_cells-all.ensures c.loop-place.place c.loop-place-test.true in
    omega (arith, c.from.ensures)

pub push-requires : goal.push-requires
push-requires c =
    let portal = c.args.portal in
    let k = c.loop-place.place in
    let h = more portal c.get_all_window_cells-all.ensures k c.loop-place-test.true in
    (omega arith, rw c.loop-place.invariant (room (counts portal c.args.previous.now) (cells_of portal) k (window_in portal).few h))

pub loop-place-preserved : goal.loop-place-preserved
loop-place-preserved c =
    let portal = c.args.portal in
    let p = counts portal c.args.previous.now in
    let k = c.loop-place.place in
    let is = c.get_all_window_cells-all.ensures in
    let h = more portal is k c.loop-place-test.true in
    let fits = (window_in portal).few in
    let cell = cell_is portal is k c.loop-place-test.true in
    let answer = ap p (sym c.from.ensures) ∙ sym c.counts.ensures in
    elim c.if-counts.branch [
      | then-counts t ↦ t.window-is ∙ t.push.ensures
          ∙ taken p (cells_of portal) k fits h _ c.loop-place.invariant cell (answer ∙ t.if-counts.true)
      | else-counts t ↦ t.window-is ∙ passed p (cells_of portal) k fits h _ c.loop-place.invariant cell (answer ∙ t.if-counts.false)
    ]

pub returns : goal.returns
returns c =
    let portal = c.args.portal in
    let p = counts portal c.args.previous.now in
    let ended = c.loop-place-test.false in
    c.loop-place.invariant
    ∙ ap (λ (cells : List ℕ). listed (select p cells))
    (take_all c.loop-place.place (cells_of portal) (omega (arith, count_is portal c.get_all_window_cells-all.ensures)))
