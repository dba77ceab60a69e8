-- What is promised of a line's end: where it lies, told by none of the helpers that work it out.
-- Assumes nothing.
use Rattle.std.specs.Prelude.{◌≡◌, ℕ, ◌+◌, ◌<◌, ◌≤◌}
use Rattle.fields.specs.declared.FieldCell.{FieldCell}
use Rattle.fields.specs.Cell.{Inside}
use Rattle.line_nearest.specs.Line.{distance}
use Rattle.line_nearest.specs.Nearest.{Between, NearestTo}
use Rattle.line_end.specs.declared.LineEnd.{LineEnd}

-- ---- of a column or a row: the goal's, the corner's, and one that lies away from the goal, on the corner's side
module _ (goal corner : ℕ) where
  -- x lies from the corner's on, away from the goal, and no further than the edge
  pub record Onward (x : ℕ) : Type 0 where
    pub beyond : goal < corner → (corner ≤ x) × (x ≤ 9)
    pub before : corner < goal → x ≤ corner

  -- x is the edge there
  pub record EdgeAway (x : ℕ) : Type 0 where
    pub beyond : goal < corner → x ≡ 9
    pub before : corner < goal → x ≡ 0

  -- x lies n from the goal's there
  pub record Off (n x : ℕ) : Type 0 where
    pub beyond : goal < corner → x ≡ goal + n
    pub before : corner < goal → x + n ≡ goal

  -- what lies n from the goal's there has left 0 to 9
  pub record Leaves (n : ℕ) : Type 0 where
    pub beyond : goal < corner → 9 < goal + n
    pub before : corner < goal → goal < n

-- The end in the goal's column and in its row (01, "Integration: init", third paragraph): the edge row away from the goal, row 0 where the corner is the
-- goal; and the edge column away.
pub record Straight (corner goal end : FieldCell) : Type 0 where
  pub in_column : corner.column ≡ goal.column → end.column ≡ corner.column
  pub down : corner.column ≡ goal.column → goal.row < corner.row → end.row ≡ 9
  pub up : corner.column ≡ goal.column → corner.row ≤ goal.row → end.row ≡ 0
  pub in_row : (corner.column ≡ goal.column → ⊥) → corner.row ≡ goal.row → end.row ≡ corner.row
  pub edge_column : (corner.column ≡ goal.column → ⊥) → corner.row ≡ goal.row → EdgeAway goal.column corner.column end.column

-- The end where the corner lies in neither the goal's column nor its row (02, "Job 11"). Rows are counted from the goal's, toward the corner's side.
pub record Slanted (corner goal end : FieldCell) : Type 0 where
  -- the nearest row of each column to the exact ray from goal through corner, and of two equally near the one nearer the goal's
  pub rows : ℕ → ℕ
  pub nearest_rows : (c : ℕ)
      → NearestTo (distance goal.row corner.row) (distance goal.column corner.column) (distance goal.column c) (rows c)
  -- the first column whose row leaves, of those from the corner's own to the edge column away from the goal
  pub tried : Onward goal.column corner.column end.column
  pub none_before : (c : ℕ) → Between corner.column end.column c → (c ≡ end.column → ⊥) → Leaves goal.row corner.row (rows c) → ⊥
  -- it ends the line on that edge row; where none leaves, the edge column ends it, on its row
  pub leaves_there : Leaves goal.row corner.row (rows end.column) → EdgeAway goal.row corner.row end.row
  pub else_last : (Leaves goal.row corner.row (rows end.column) → ⊥)
      → EdgeAway goal.column corner.column end.column × Off goal.row corner.row (rows end.column) end.row

-- a pair of the sector, of unequal columns and unequal rows
pub record Slants (corner goal : FieldCell) : Type 0 where
  pub corner_in : Inside corner
  pub goal_in : Inside goal
  pub columns_differ : corner.column ≡ goal.column → ⊥
  pub rows_differ : corner.row ≡ goal.row → ⊥

-- what the call promises of such a pair's end
abbrev pub HoldsSlanted : FieldCell → FieldCell → LineEnd → Type 0
HoldsSlanted corner goal r = Slants corner goal → Slanted corner goal r.cell

-- and of a pair of the sector that is none
abbrev pub HoldsStraight : FieldCell → FieldCell → LineEnd → Type 0
HoldsStraight corner goal r = Inside corner → Inside goal → Straight corner goal r.cell

-- A refused call answers its number alone (01, under the table: with every other part of the answer zero).
pub record EndRefused (r : LineEnd) : Type 0 where
  pub column : r.cell.column ≡ 0
  pub row : r.cell.row ≡ 0
