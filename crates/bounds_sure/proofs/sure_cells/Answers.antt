-- `bounds_sure::sure_cells` meets its contract. The loop's invariant: the marks of the first i cells are in their places.
-- Assumes nothing.
use Rattle.std.proofs.Common.{◌≡◌, refl, arith}
use Rattle.utilities.proofs.Lists.{filled_more, filled_all}
use Rattle.bounds_sure.proofs.sure_cells.Goals as goal

pub loop-i-init : goal.loop-i-init
loop-i-init c = λ window portals. record { full = refl; first = refl }

pub loop-i-preserved : goal.loop-i-preserved
loop-i-preserved c =
    let l = c.loop-i in
    λ window portals. filled_more 100 _ l.i l.sure _ (omega arith) (c.is_sure.ensures window portals) (l.invariant window portals)

pub returns : goal.returns
returns c window portals =
    let l = c.loop-i in
    let e : l.i ≡ 100 = omega arith in
    filled_all 100 _ l.sure (rw e at (l.invariant window portals))
