-- What a step, and the index of where it arrives, ask of their callers.
-- Assumes nothing.
use Rattle.std.specs.Prelude.{◌≡◌, ℕ, ◌^◌, ◌<◌, Some}
use Rattle.utilities.specs.declared.CompassDir.{CompassDir}
use Rattle.fields.specs.declared.FieldCell.{FieldCell}
use Rattle.fields.specs.Cell.{cell_at, stepped}

-- a cell whose sums do not leave 64 bits: every cell made of an index is one
pub record Near (c : FieldCell) : Type 0 where
  pub column_near : c.column < 2 ^ 62
  pub row_near : c.row < 2 ^ 62

-- a step from the cell at an index arrives at a cell of the sector
abbrev pub StaysInside : ℕ → CompassDir → Type 0
StaysInside index dir = (n : FieldCell) × (stepped (cell_at index) dir ≡ Some n)
