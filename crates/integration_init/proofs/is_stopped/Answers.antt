-- `integration_init::is_stopped` meets its contract: a line stops before a wall, or by the diagonal rule.
-- Assumes nothing.
use Rattle.std.proofs.Common.{◌≡◌, sym, ap, ◌∙◌}
use mathlib.Core.Path.{subst}
use Rattle.fields.specs.Cell.{Inside, index_of}
use Rattle.fields.proofs.Steps.{cell_inside, index_of_cell}
use Rattle.integration_field.proofs.Diagonal.{passes_at}
use Rattle.integration_init.proofs.is_stopped.Goals as goal

pub returns : goal.returns
returns c =
    let a = c.args in
    let from = c.from_index-from.result in
    let to = c.from_index-to.result in
    let from_inside : Inside from = subst Inside (sym c.from_index-from.ensures) (cell_inside a.previous c.requires.0) in
    let to_inside : Inside to = subst Inside (sym c.from_index-to.ensures) (cell_inside a.n c.requires.1) in
    let from_is : index_of from ≡ a.previous = ap index_of c.from_index-from.ensures ∙ index_of_cell a.previous in
    let to_is : index_of to ≡ a.n = ap index_of c.from_index-to.ensures ∙ index_of_cell a.n in
    rw (sym c.is_wall_at.ensures ∙ c.if-is_wall_at.false, ← from_is, ← to_is)
    (c.passes_wall.ensures ∙ sym (passes_at a.field.now.field _ _ from_inside to_inside))
