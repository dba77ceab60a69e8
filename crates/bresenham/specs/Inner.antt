-- What the functions beneath the line calls answer.
-- Assumes nothing.
use Rattle.std.specs.Prelude.{◌≡◌, Bool, true, false, List, Result, Ok, Err, reverse, map, ℕ, ◌-◌, length}
use Rattle.utilities.specs.Padded.{padded}
use Rattle.refusals.specs.declared.Refusal.{Refusal}
use Rattle.refusals.specs.Refusal.{number_of}
use Rattle.fields.specs.declared.FieldCell.{FieldCell}
use Rattle.fields.specs.declared.CellList.{CellList}
use Rattle.fields.specs.Cell.{index_of, cell_at}
use Rattle.line_nearest.specs.declared.Line.{Line}
use Rattle.line_nearest.specs.Line.{walk_cells, refused}

-- a cell's coordinates on a walk's axes: of a steep walk the rows are the major one
abbrev pub major_of : Bool → FieldCell → ℕ
major_of true c = c.row
major_of false c = c.column

abbrev pub minor_of : Bool → FieldCell → ℕ
minor_of true c = c.column
minor_of false c = c.row

-- the walk from one cell to another, through the rows where it is steep, else through the columns
abbrev pub walked : Bool → FieldCell → FieldCell → List FieldCell
walked steep s t = walk_cells steep (major_of steep s) (minor_of steep s) (major_of steep t) (minor_of steep t)

-- a walk's cells in order, or backwards
abbrev pub listed : {A : Type 0} → Bool → List A → List A
listed true l = reverse l
listed false l = l

-- where step k of a walk of m steps stands in that list
abbrev pub list_place : Bool → ℕ → ℕ → ℕ
list_place true m k = m - k
list_place false m k = k

-- a list of cells after a line is drawn: the indexes of these cells, of which there are so many; the places beyond hold 0
pub record DrawnIn (l : List FieldCell) (drawn : CellList 10) : Type 0 where
  pub indexes : drawn.cells ≡ padded 10 0 (map index_of l)
  pub many : drawn.count ≡ length l

-- what is told of a line: the cells at its indexes, or the number of a refusal
abbrev pub told_line : Result (CellList 10) Refusal → Line
told_line (Ok drawn) = record { number = 0; cells = map cell_at drawn.cells; count = drawn.count }
told_line (Err r) = refused (number_of r)
