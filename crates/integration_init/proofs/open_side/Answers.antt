-- `integration_init::open_side` meets its contract: the side cell is where a step arrives.
-- Assumes nothing.
use Rattle.std.proofs.Common.{◌≡◌, ℕ, ◌<◌, sym, ◌∙◌}
use Rattle.utilities.specs.declared.CompassDir.{CompassDir}
use Rattle.fields.specs.declared.FieldCell.{FieldCell}
use Rattle.std.specs.Prelude.{Some}
use Rattle.fields.specs.Cell.{stepped, cell_at, index_of, index_or}
use Rattle.fields.proofs.Steps.{stepped_cell, step_told, index_told}
use Rattle.integration_init.proofs.open_side.Goals as goal

-- the index of the cell at which the step arrives
index : (from : ℕ) (side : CompassDir) {n : FieldCell} {i : ℕ} → stepped (cell_at from) side ≡ Some n → i ≡ index_or 100 n
    → (i ≡ index_of n) × (i < 100)
index from side {n} e f = index_told (stepped_cell (cell_at from) side n e).within f

pub is_wall_at-requires : goal.is_wall_at-requires
is_wall_at-requires c =
    let a = c.args in
    let e = step_told a.from a.side c.from_index.ensures c.get_in_compass_direction.ensures.answer c.in-Some.is in
    (index a.from a.side e c.as_1d_index.ensures).1

pub returns-then-is_wall_at : goal.returns-then-is_wall_at
returns-then-is_wall_at c =
    let a = c.args in
    let e = step_told a.from a.side c.from_index.ensures c.get_in_compass_direction.ensures.answer c.in-Some.is in
    let i = (index a.from a.side e c.as_1d_index.ensures).0 in
    rw (e, ← i, sym c.is_wall_at.ensures ∙ c.if-is_wall_at.true)

pub returns : goal.returns
returns c =
    let a = c.args in
    let e = step_told a.from a.side c.from_index.ensures c.get_in_compass_direction.ensures.answer c.in-Some.is in
    let i = (index a.from a.side e c.as_1d_index.ensures).0 in
    rw (e, ← i, sym c.is_wall_at.ensures ∙ c.if-is_wall_at.false)
