-- The cells of a line (01, "Line"), and what the line calls answer.
-- Assumes nothing.
use Rattle.std.specs.Prelude.{Bool, true, false, cond, ◌&&◌, List, reverse, ℕ, ◌+◌, ◌-◌, ◌*◌, ◌/◌, min, leb, ltb, length, replicate}
use Rattle.utilities.specs.Padded.{padded as paddedTo}
use Rattle.fields.specs.declared.FieldCell.{FieldCell}
use Rattle.fields.specs.Cell.{cell, inside}
use Rattle.line_nearest.specs.declared.Line.{Line}
use Rattle.line_nearest.specs.Table.{table}

-- how far two coordinates are from each other: one of the two differences is 0
abbrev pub distance : ℕ → ℕ → ℕ
distance a b = a - b + (b - a)

-- the coordinate that is o from a on the way to b, and never beyond b
unfoldable pub toward : ℕ → ℕ → ℕ → ℕ
toward a b o = a + min o (b - a) - min o (a - b)

-- The nearest whole number to k * d / m, the exact line at step k of m where the shorter span is d (01, "Line").
-- Of two equally near it is the smaller, which keeps nearer the walk's first cell. A line of one cell has 0.
unfoldable pub nearest : ℕ → ℕ → ℕ → ℕ
nearest d m k = (2 * (k * d) + m - 1) / (2 * m)

-- how far a walk of m steps has gone aside at step k: it gains one at most at each step, which changes nothing where d is at most m
abbrev pub offset_at : ℕ → ℕ → ℕ → ℕ
offset_at d m k = min k (nearest d m k)

-- the minor coordinate at step k of a walk of m steps that takes it from a toward b
abbrev pub minor_at : ℕ → ℕ → ℕ → ℕ → ℕ
minor_at a b m k = toward a b (offset_at (distance a b) m k)

-- a cell by its major and minor coordinate: of a steep walk the rows are the major one
abbrev pub cell_on_axes : Bool → ℕ → ℕ → FieldCell
cell_on_axes true major minor = cell minor major
cell_on_axes false major minor = cell major minor

-- Step k of a walk, and its cells: its major coordinate gains one at each step, from a₀ to a₁, and its minor one goes from b₀ toward b₁.
-- This is the Rust's walk of any pair: no cells where a₁ is below a₀, a diagonal where the minor span is above the major one.
-- 01, "Line", speaks of the other pairs, on which it is Bresenham's (specs/Nearest.antt).
abbrev pub walk_at : Bool → ℕ → ℕ → ℕ → ℕ → ℕ → FieldCell
walk_at steep a₀ b₀ a₁ b₁ k = cell_on_axes steep (a₀ + k) (minor_at b₀ b₁ (a₁ - a₀) k)

abbrev pub walk_cells : Bool → ℕ → ℕ → ℕ → ℕ → List FieldCell
walk_cells steep a₀ b₀ a₁ b₁ = table (a₁ + 1 - a₀) (walk_at steep a₀ b₀ a₁ b₁)

-- the walk from s to t through the columns, and the one through the rows
unfoldable pub shallow : FieldCell → FieldCell → List FieldCell
shallow s t = walk_cells false s.column s.row t.column t.row

unfoldable pub steep : FieldCell → FieldCell → List FieldCell
steep s t = walk_cells true s.row s.column t.row t.column

-- The line from s to t (01, "Line"). Toward a lower major coordinate it is walked from t and reversed. Equal spans are steep.
unfoldable pub line : FieldCell → FieldCell → List FieldCell
line s t =
    cond (ltb (distance s.row t.row) (distance s.column t.column))
    (cond (leb s.column t.column) (shallow s t) (reverse (shallow t s)))
    (cond (leb s.row t.row) (steep s t) (reverse (steep t s)))

-- an answer of these cells; the places beyond their count hold 0
abbrev pub padded : List FieldCell → List FieldCell
padded l = paddedTo 10 (cell 0 0) l

abbrev pub answered : List FieldCell → Line
answered l = record { number = 0; cells = padded l; count = length l }

-- an answer of a number alone
abbrev pub refused : ℕ → Line
refused n = record { number = n; cells = replicate 10 (cell 0 0); count = 0 }

-- what a line call answers: 13 for a column or row outside 0 to 9 (01, "A leg", the table), else these cells
abbrev pub called : FieldCell → FieldCell → List FieldCell → Line
called s t l = cond (inside s && inside t) (answered l) (refused 13)

unfoldable pub line_call : FieldCell → FieldCell → Line
line_call s t = called s t (line s t)

-- the two walks alone
abbrev pub shallow_call : FieldCell → FieldCell → Line
shallow_call s t = called s t (shallow s t)

abbrev pub steep_call : FieldCell → FieldCell → Line
steep_call s t = called s t (steep s t)
