-- `flow_new::point_portals` meets its contract: one window cell more is done.
-- Assumes nothing.
use Rattle.std.proofs.Common.{is_some, sym, ◌∙◌, arith}
use Rattle.flow_byte.specs.Previous.{given}
use Rattle.flow_new.proofs.Starts.{bits_step, bits_end}
use Rattle.flow_new.proofs.point_portals.Goals as goal

pub loop-cell-preserved : goal.loop-cell-preserved
loop-cell-preserved c =
    let a = c.args in
    let l = c.loop-cell in
    l.invariant ∙ rw (c.portal_direction.ensures, c.from-cell.ensures) (bits_step a.portal (is_some a.previous) (given a.previous) _ l.sheet l.cell-index c.loop-cell-test.true)

pub returns : goal.returns
returns c =
    let a = c.args in
    let l = c.loop-cell in
    sym (l.invariant ∙ bits_end a.portal (is_some a.previous) (given a.previous) _ l.sheet l.cell-index (omega arith))
