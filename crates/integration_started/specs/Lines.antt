-- What sight needs of the lines that corners draw, whatever the rule that draws them.
-- Assumes nothing.
use Rattle.std.specs.Prelude.{◌≡◌, List, ℕ, ◌<◌, ◌≤◌, length, get_or}

pub record Lines (goal : ℕ) (corner_line : ℕ → List ℕ) : Type 0 where
  -- a line lies inside the sector, begins with its corner, and has at most 10 cells
  pub inside : (corner : ℕ) → corner < 100 → (i : ℕ) → i < length (corner_line corner) → get_or (corner_line corner) i 0 < 100
  pub begun : (corner : ℕ) → corner < 100 → 0 < length (corner_line corner)
  pub begins : (corner : ℕ) → corner < 100 → get_or (corner_line corner) 0 0 ≡ corner
  pub short : (corner : ℕ) → corner < 100 → length (corner_line corner) ≤ 10
  -- and no line of a corner other than the goal passes over the goal
  pub past : (corner : ℕ) → corner < 100 → (corner ≡ goal → ⊥) → (i : ℕ) → i < length (corner_line corner) → get_or (corner_line corner) i 0 ≡ goal → ⊥
