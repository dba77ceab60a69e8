-- What is promised of a step (02, "Job 5").
-- Assumes nothing.
use Rattle.std.specs.Prelude.{◌≡◌, true, ◌↔◌, pos, ◌+ℤ◌, Option, Some, None}
use Rattle.utilities.specs.declared.CompassDir.{CompassDir}
use Rattle.utilities.specs.Compass.{differences, points, opposite}
use Rattle.fields.specs.declared.FieldCell.{FieldCell}
use Rattle.fields.specs.Cell.{Inside, stepped}

-- n is the cell at the two sums of c and the differences of d, and both sums lie in 0 to 9
pub record Arrives (c : FieldCell) (d : CompassDir) (n : FieldCell) : Type 0 where
  pub pointing : points d ≡ true
  pub column_at : pos n.column ≡ pos c.column +ℤ (differences d).column
  pub row_at : pos n.row ≡ pos c.row +ℤ (differences d).row
  pub within : Inside n

-- A step answers the cell at those sums exactly when both lie in 0 to 9, else outside; c may also lie outside the sector.
pub record BySums (c : FieldCell) (d : CompassDir) (answer : Option FieldCell) : Type 0 where
  pub arrives : (n : FieldCell) → (answer ≡ Some n) ↔ Arrives c d n
  pub leaves : (answer ≡ None) ↔ ((n : FieldCell) → Arrives c d n → ⊥)

-- From a cell of the sector, a step that stays inside is undone by the opposite step.
pub record Undone (c : FieldCell) (d : CompassDir) (answer : Option FieldCell) : Type 0 where
  pub back : Inside c → (n : FieldCell) → answer ≡ Some n → stepped n (opposite d) ≡ Some c
