-- `flow_new::point_portals` meets its contract. The loop's invariant: what is left of the window does to the sheet what the whole window does.
-- Assumes nothing.
use Rattle.std.proofs.Common.{◌≡◌, is_some, drop}
use Rattle.flow_byte.specs.Previous.{given}
use Rattle.flow_new.specs.Inner.{with_bits}
use Rattle.flow_new.proofs.point_portals.Given as goal

abbrev pub invariant-loop-cell : goal.invariant-loop-cell
invariant-loop-cell l =
    let after = with_bits l.portal (is_some l.previous) (given l.previous) in
    after l.cell-items l.initial.sheet ≡ after (drop l.cell-index l.cell-items) l.sheet
