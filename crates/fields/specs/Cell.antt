-- Cells of a sector and the steps between them (01, "A leg": cell index = row times 10 plus column; row 0 is north).
-- Assumes nothing.
use Rattle.std.specs.Prelude.{Bool, true, false, cond, ◌&&◌, ℕ, ◌+◌, ◌*◌, ◌/◌, ◌%◌, ◌<◌, ltb, pos, nat_abs, ◌+ℤ◌, Option, Some, None}
use Rattle.utilities.specs.declared.CompassDir.{CompassDir}
use Rattle.utilities.specs.Compass.{differences, points, within}
use Rattle.fields.specs.declared.FieldCell.{FieldCell}

abbrev pub cell : ℕ → ℕ → FieldCell
cell c r = record { column = c; row = r }

-- a cell of the sector
pub record Inside (c : FieldCell) : Type 0 where
  pub column_in : c.column < 10
  pub row_in : c.row < 10

abbrev pub inside : FieldCell → Bool
inside c = ltb c.column 10 && ltb c.row 10

abbrev pub index_of : FieldCell → ℕ
index_of c = c.row * 10 + c.column

abbrev pub cell_at : ℕ → FieldCell
cell_at i = cell (i % 10) (i / 10)

-- the index of a cell of the sector, and n for any other
unfoldable pub index_or : ℕ → FieldCell → ℕ
index_or n c = cond (inside c) (index_of c) n

-- a cell where the test holds, else none
abbrev pub cell_if : Bool → FieldCell → Option FieldCell
cell_if true c = Some c
cell_if false c = None

-- the cell at a column and a row, where both lie in 0 to 9
unfoldable pub the_cell_in : ℕ → ℕ → Option FieldCell
the_cell_in c r = cell_if (inside (cell c r)) (cell c r)

-- A step in a direction (02, "Job 5"): the cell at the two sums of the cell and the direction's differences, where both lie in 0 to 9, else
-- none. `Zero` points nowhere.
unfoldable pub stepped : FieldCell → CompassDir → Option FieldCell
stepped c d =
    let column = pos c.column +ℤ (differences d).column in
    let row = pos c.row +ℤ (differences d).row in
    cell_if (points d && (within 9 column && within 9 row)) (cell (nat_abs column) (nat_abs row))
