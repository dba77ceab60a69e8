-- The four steps from a cell arrive at the cells beside it, and at no other.
-- Assumes nothing.
use mathlib.Core.Path.{◌≡◌, sym}
use mathlib.Core.List.{List, ◌∷◌, Memᴰ}
use Prim.Native.Nat.{ℕ, ◌<◌}
use Rattle.utilities.specs.declared.CompassDir.{CompassDir}
use Rattle.utilities.specs.Compass.{orthogonal}
use Rattle.fields.specs.declared.FieldCell.{FieldCell}
use Rattle.std.specs.Prelude.{Some}
use Rattle.fields.specs.Cell.{index_of, cell_at, stepped}
use Rattle.fields.specs.Neighbours.{BesideAt}
use Rattle.fields.proofs.Steps.{cell_inside, cell_of_index, index_of_cell}
use Rattle.fields.proofs.Beside.{step_beside, beside_step}

-- a step from c, in one of these directions, arrives at the cell with index x
pub record Neighbour (c : FieldCell) (ds : List CompassDir) (x : ℕ) : Type 0 where
  pub way : CompassDir
  pub listed : Memᴰ way ds
  pub cell : FieldCell
  pub step : stepped c way ≡ Some cell
  pub index : x ≡ index_of cell

pub later : {c : FieldCell} {d : CompassDir} {ds : List CompassDir} {x : ℕ} → Neighbour c ds x → Neighbour c (d ∷ ds) x
later n = record { way = n.way; listed = Memᴰ.tail n.listed; cell = n.cell; step = n.step; index = n.index }

pub neighbour_beside : (y : ℕ) → y < 100 → (x : ℕ) → Neighbour (cell_at y) orthogonal x → BesideAt y x
neighbour_beside y h x n =
    let b = step_beside (cell_at y) n.cell (cell_inside y h) n.way n.listed n.step in
    rw (n.index, cell_of_index n.cell b.other_in) b

pub beside_neighbour : (y x : ℕ) → BesideAt y x → Neighbour (cell_at y) orthogonal x
beside_neighbour y x b =
    let r = beside_step (cell_at y) (cell_at x) b in
    record { way = r.0; listed = r.1; cell = cell_at x; step = r.2; index = sym (index_of_cell x) }
