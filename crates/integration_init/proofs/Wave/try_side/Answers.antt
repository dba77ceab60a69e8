-- `Wave::try_side` meets its contract: both side cells are bound, and the corner is the cell beside the wall.
-- Assumes nothing.
use Rattle.std.proofs.Common.{◌≡◌, ℕ, ◌<◌, List, sym, ◌∙◌}
use Rattle.utilities.specs.declared.CompassDir.{CompassDir}
use Rattle.fields.specs.declared.FieldCell.{FieldCell}
use Rattle.std.specs.Prelude.{Option, Some, None}
use Rattle.fields.specs.Cell.{stepped, cell_at, index_of, index_or}
use Rattle.fields.proofs.Steps.{stepped_cell, index_told}
use Rattle.integration_started.specs.Sight.{unless_wall, side_tried}
use Rattle.integration_init.proofs.Held.{applied_still}
use Rattle.integration_init.proofs.Spreads.{open_cell}
use Rattle.integration_init.proofs.Wave.try_side.Goals as goal

-- what stands beside a cell at one side, unless it is a wall
abbrev beside : List ℕ → ℕ → CompassDir → Option FieldCell
beside cells n side = unless_wall cells (stepped (cell_at n) side)

-- and its index, where it is a cell
index : (cells : List ℕ) (n : ℕ) (side : CompassDir) {m : FieldCell} {i : ℕ} → beside cells n side ≡ Some m → i ≡ index_or 100 m
    → (i ≡ index_of m) × (i < 100)
index cells n side {m} e f = index_told (stepped_cell (cell_at n) side m (open_cell cells (stepped (cell_at n) side) m e)).within f

pub returns-in_default : goal.returns-in_default
unfolding side_tried
returns-in_default c =
    let e : beside c.args.field.now.field c.args.from c.args.side ≡ None = sym c.open_side.ensures ∙ c.in_default.is in
    rw e (applied_still c.requires.ready)

pub returns-in_default-open_side : goal.returns-in_default-open_side
unfolding side_tried
returns-in_default-open_side c =
    let a = c.args in
    let e : beside a.field.now.field a.from a.side ≡ Some c.in-Some.field-0 = sym c.open_side.ensures ∙ c.in-Some.is in
    let f : beside a.field.now.field a.wall a.side ≡ None = sym c.open_side-2.ensures ∙ c.in_default-open_side.is in
    rw (e, f) (applied_still c.requires.ready)

pub extend_los_corner-requires : goal.extend_los_corner-requires
extend_los_corner-requires c =
    let a = c.args in
    let w = c.requires.in_wave in
    let f : beside a.field.now.field a.wall a.side ≡ Some c.in-Some-open_side.corner = sym c.open_side-2.ensures ∙ c.in-Some-open_side.is in (
      c.requires.ready,
      record {
        wave_in = w.wave_in;
        goal_in = w.goal_in;
        from_in = (index a.field.now.field a.wall a.side f c.as_1d_index.ensures).1;
        ends = w.ends;
      },
    )

pub returns : goal.returns
unfolding side_tried
returns c =
    let a = c.args in
    let e : beside a.field.now.field a.from a.side ≡ Some c.in-Some.field-0 = sym c.open_side.ensures ∙ c.in-Some.is in
    let f : beside a.field.now.field a.wall a.side ≡ Some c.in-Some-open_side.corner = sym c.open_side-2.ensures ∙ c.in-Some-open_side.is in
    let i = (index a.field.now.field a.wall a.side f c.as_1d_index.ensures).0 in
    rw (e, f, ← i) c.extend_los_corner.ensures
