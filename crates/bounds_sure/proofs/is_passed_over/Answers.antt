-- `bounds_sure::is_passed_over` meets its contract: a wall, or what the diagonal rule says.
-- Assumes nothing.
use Rattle.std.proofs.Common.{sym, ◌∙◌}
use Rattle.integration_field.proofs.Diagonal.{passes_at}
use Rattle.bounds_sure.proofs.is_passed_over.Goals as goal

pub returns : goal.returns
returns c =
    let a = c.args in
    rw (sym c.is_impassable.ensures ∙ c.if-is_impassable.false)
    (c.passes_wall.ensures ∙ sym (passes_at a.cells.now a.from a.to c.requires.0 c.requires.1))
