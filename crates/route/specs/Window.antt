-- A window's cells, and the cells that face them across the boundary (01, "A leg").
-- Assumes nothing.
use Rattle.std.specs.Prelude.{Bool, false, cond, ◌&&◌, List, [], ◌∷◌, ℕ, ◌+◌, ◌*◌, ◌/◌, ◌%◌, leb, eqb, ℤ, pos, nat_abs, ◌+ℤ◌, length}
use Rattle.utilities.specs.declared.CompassDir.{CompassDir}
use Rattle.utilities.specs.declared.CompassDir.TheVariants.{North, East, South, West, NorthEast, SouthEast, SouthWest, NorthWest, Zero}
use Rattle.utilities.specs.Compass.{differences, still}
use Rattle.utilities.specs.Lists.{cons_if, below}
use Rattle.utilities.specs.Padded.{padded}
use Rattle.fields.specs.declared.CellList.{CellList}

-- those of a list that pass a test, in its order
abbrev pub select : (ℕ → Bool) → List ℕ → List ℕ
select p [] = []
select p (x ∷ l) = cons_if (p x) x (select p l)

-- cell i lies on the named edge (01, number 7: North row 0, East column 9, South row 9, West column 0); only sides have an edge
unfoldable pub on_edge : CompassDir → ℕ → Bool
on_edge North i = eqb (i / 10) 0
on_edge East i = eqb (i % 10) 9
on_edge South i = eqb (i / 10) 9
on_edge West i = eqb (i % 10) 0
on_edge NorthEast i = false
on_edge SouthEast i = false
on_edge SouthWest i = false
on_edge NorthWest i = false
on_edge Zero i = false

-- the cells of a side's edge (01, "A leg"): left to right, or top to bottom
unfoldable pub edge : CompassDir → List ℕ
edge side = select (on_edge side) (below 100)

-- from the first to the last
abbrev pub between : ℕ → ℕ → ℕ → Bool
between first last i = leb first i && leb i last

-- the cells of a window (01, "A leg": first and last window cell): those of its edge from the first to the last
unfoldable pub cells_between : CompassDir → ℕ → ℕ → List ℕ
cells_between side first last = select (between first last) (edge side)

-- from a window cell to the next: 1 along a row, 10 down a column
abbrev pub stride : CompassDir → ℕ
stride side = cond (still (differences side).column) 1 10

-- window cells in an array, with their count (01, under the table: places of a list beyond its count hold 0)
abbrev pub listed : List ℕ → CellList 10
listed l = record { cells = padded 10 0 l; count = length l }

-- the sum of x and a difference, counted round: ten more, and what is left over tens
abbrev pub round : ℕ → ℤ → ℕ
round x δ = nat_abs (pos (x + 10) +ℤ δ) % 10

-- the cell across the boundary that faces cell i (01, "Flow byte": facing cells): one step on, columns and rows counted round into the next
-- sector
abbrev pub facing : CompassDir → ℕ → ℕ
facing side i = let δ = differences side in round (i / 10) δ.row * 10 + round (i % 10) δ.column
