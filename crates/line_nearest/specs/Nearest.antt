-- Bresenham's line (01, "Line"), said of any list of cells and apart from how a line is worked out.
-- Assumes nothing.
use Rattle.std.specs.Prelude.{◌≡◌, List, ℕ, ◌+◌, ◌-◌, ◌*◌, ◌<◌, ◌≤◌, min, max, length, get_or, take}
use Rattle.utilities.specs.Padded.{ZeroBeyond, AllZero}
use Rattle.fields.specs.declared.FieldCell.{FieldCell}
use Rattle.fields.specs.Cell.{cell, Inside}
use Rattle.line_nearest.specs.declared.Line.{Line}
use Rattle.line_nearest.specs.Line.{distance}

-- x lies between a and b, or is one of them
pub record Between (a b x : ℕ) : Type 0 where
  pub from : min a b ≤ x
  pub to : x ≤ max a b

-- c lies in the rectangle whose corners are s and t
pub record Spanned (s t c : FieldCell) : Type 0 where
  pub columns : Between s.column t.column c.column
  pub rows : Between s.row t.row c.row

-- one of the eight neighbours: columns and rows differ by one at most, and not both by nothing
abbrev pub Neighbours : FieldCell → FieldCell → Type 0
Neighbours c d = max (distance c.column d.column) (distance c.row d.row) ≡ 1

-- y is the nearest whole number to k * d / m, from which it is |k * d - m * y| parts of m off; of two equally near it is the smaller
pub record NearestTo (d m k y : ℕ) : Type 0 where
  pub half_at_most : 2 * distance (k * d) (m * y) ≤ m
  pub half_smaller : 2 * distance (k * d) (m * y) ≡ m → m * y ≤ k * d

-- A walk from a to b is m long in its major coordinate and d wide in its minor one, so that the exact line lies k * d / m aside of a where it is
-- k on. A cell c of the walk lies k on and y aside: it is the nearest cell, and of two equally near the one nearer a, the walk's first cell.
pub record NearestCell (major minor : FieldCell → ℕ) (a b c : FieldCell) : Type 0 where
  pub along : Between (major a) (major b) (major c)
  pub aside : Between (minor a) (minor b) (minor c)
  pub nearest_aside : NearestTo (distance (minor a) (minor b)) (distance (major a) (major b)) (distance (major a) (major c)) (distance (minor a) (minor c))

-- each cell of l is one of the walk from a to b
abbrev pub NearestWalk : (FieldCell → ℕ) → (FieldCell → ℕ) → FieldCell → FieldCell → List FieldCell → Type 0
NearestWalk major minor a b l = (k : ℕ) → k < length l → NearestCell major minor a b (get_or l k (cell 0 0))

abbrev pub column_of : FieldCell → ℕ
column_of c = c.column

abbrev pub row_of : FieldCell → ℕ
row_of c = c.row

-- l is the whole walk from a to b, listed from s to t (a and b, or b and a): it starts at s, ends at t, moves to a neighbour at each step,
-- has a cell for each place of the major coordinate, and its cells are the nearest ones.
pub record Walked (major minor : FieldCell → ℕ) (a b s t : FieldCell) (l : List FieldCell) : Type 0 where
  pub many : length l ≡ distance (major a) (major b) + 1
  pub first : get_or l 0 (cell 0 0) ≡ s
  pub last : get_or l (length l - 1) (cell 0 0) ≡ t
  pub moves : (k : ℕ) → k + 1 < length l → Neighbours (get_or l k (cell 0 0)) (get_or l (k + 1) (cell 0 0))
  pub each : NearestWalk major minor a b l

-- l is the line from s to t: it starts at s, ends at t, moves to a neighbour at each step and has as many cells as the longer span wants.
-- Its cells are the nearest ones along the longer span, walked from the end where that coordinate is lower. Equal spans are steep.
pub record NearestLine (s t : FieldCell) (l : List FieldCell) : Type 0 where
  pub many : length l ≡ max (distance s.column t.column) (distance s.row t.row) + 1
  pub first : get_or l 0 (cell 0 0) ≡ s
  pub last : get_or l (length l - 1) (cell 0 0) ≡ t
  pub moves : (k : ℕ) → k + 1 < length l → Neighbours (get_or l k (cell 0 0)) (get_or l (k + 1) (cell 0 0))
  pub shallow : distance s.row t.row < distance s.column t.column → s.column ≤ t.column → NearestWalk column_of row_of s t l
  pub shallow_back : distance s.row t.row < distance s.column t.column → t.column < s.column → NearestWalk column_of row_of t s l
  pub steep : distance s.column t.column ≤ distance s.row t.row → s.row ≤ t.row → NearestWalk row_of column_of s t l
  pub steep_back : distance s.column t.column ≤ distance s.row t.row → t.row < s.row → NearestWalk row_of column_of t s l

-- what a line call promises of its answer, wherever it is not refused
abbrev pub HoldsNearestLine : FieldCell → FieldCell → Line → Type 0
HoldsNearestLine s t r = Inside s → Inside t → NearestLine s t (take r.count r.cells)

-- What a walk alone promises of its answer, wherever it is not refused and the pair is a walk of its kind:
-- the target's major coordinate is not lower, and the minor span is not above the major one.
abbrev pub HoldsNearestWalk : (FieldCell → ℕ) → (FieldCell → ℕ) → FieldCell → FieldCell → Line → Type 0
HoldsNearestWalk major minor s t r =
    Inside s → Inside t → major s ≤ major t → distance (minor s) (minor t) ≤ major t - major s → Walked major minor s t s t (take r.count r.cells)

-- the places of an answer beyond the count of its cells hold 0 (01, under the table)
abbrev pub CellsBeyond : Line → Type 0
CellsBeyond r = ZeroBeyond (cell 0 0) r.count r.cells

-- A refused call answers its number, with every other part of the answer zero (01, under the table).
pub record LineRefused (r : Line) : Type 0 where
  pub count : r.count ≡ 0
  pub cells : AllZero (cell 0 0) r.cells
