-- Neighbours of a cell (01, "Integration: build": orthogonal neighbours).
-- Assumes nothing.
use Rattle.std.specs.Prelude.{◌≡◌, ◌⊎◌, ℕ, ◌+◌}
use Rattle.fields.specs.declared.FieldCell.{FieldCell}
use Rattle.fields.specs.Cell.{Inside, cell_at}

-- two rows, or two columns, that differ by one
abbrev pub ByOne : ℕ → ℕ → Type 0
ByOne x y = (y ≡ x + 1) ⊎ (x ≡ y + 1)

-- Two cells of the sector beside each other: in one column with rows that differ by one, or in one row with columns that differ by one.
-- This is 01's orthogonal neighbour, said without steps.
pub record Beside (a b : FieldCell) : Type 0 where
  pub this_in : Inside a
  pub other_in : Inside b
  pub one_apart : ((a.column ≡ b.column) × ByOne a.row b.row) ⊎ ((a.row ≡ b.row) × ByOne a.column b.column)

-- the cells at two indexes are beside each other
abbrev pub BesideAt : ℕ → ℕ → Type 0
BesideAt i j = Beside (cell_at i) (cell_at j)
