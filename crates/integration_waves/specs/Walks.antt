-- Walks over a grid of cells (01, "Integration: build": a permitted walk begins in a listed corner, at that corner's value; each move
-- goes to a neighbour that may be entered, and adds that cell's cost; what the walk comes to is the whole sum).
-- Assumes nothing.
use Rattle.std.specs.Prelude.{◌≡◌, ℕ, zero, suc, ◌+◌, ◌<◌}

-- which cell is beside which, where walks begin, what entering a cell costs, and what the cells held before any wave
pub record Grid : Type 1 where
  pub Beside : ℕ → ℕ → Type 0
  pub Corner : ℕ → Type 0
  pub cost : ℕ → ℕ
  pub before : ℕ → ℕ

-- A walk of so many moves into a cell, and the sum that it comes to. `Enters x s` says that a walk may enter cell x at the sum s.
-- It may have no move, and may enter a cell again.
module _ (g : Grid) (Enters : ℕ → ℕ → Type 0) where
  pub data Walk : ℕ → ℕ → ℕ → Type 0 where
    start : {x s : ℕ} → g.Corner x → s ≡ g.before x → Walk zero x s
    move : {k y x t s : ℕ} → Walk k y t → g.Beside y x → Enters x s → s ≡ t + g.cost x → Walk (suc k) x s

-- a walk that enters open cells, and those only where it arrives below their value before
abbrev pub Below : Grid → (ℕ → Type 0) → ℕ → ℕ → Type 0
Below g Open x s = Open x × (s < g.before x)
