-- `flow_new::new_cells` meets its contract: the flags of all cells, then the bits of the window cells.
-- Assumes nothing.
use Rattle.std.proofs.Common.{is_some, ap, ◌∙◌}
use Rattle.route.specs.Inner.{held_cells}
use Rattle.flow_byte.specs.Previous.{given}
use Rattle.flow_new.specs.Inner.{with_bits}
use Rattle.flow_new.proofs.Starts.{new_made}
use Rattle.flow_new.proofs.new_cells.Goals as goal

pub returns-in-Some : goal.returns-in-Some
returns-in-Some c =
    let a = c.args in
    let portal = c.in-Some.portal in
    let cells = held_cells a.window in
    rw c.in-Some.is
    (c.point_portals.ensures
    ∙ ap (with_bits portal (is_some a.previous) (given a.previous) cells) c.start_cells.ensures
    ∙ new_made portal (is_some a.previous) (given a.previous) cells a.field.field c.requires.window_in)
