-- A table of refusals (01, "A leg": checks run down the table).
-- Assumes nothing.
use Rattle.std.specs.Prelude.{Bool, cond, List, [], ◌∷◌, ℕ}

-- a line of the table: its number, and whether its condition holds
pub record Row : Type 0 where
  pub number : ℕ
  pub holds : Bool

abbrev pub row : ℕ → Bool → Row
row n b = record { number = n; holds = b }

-- the number of the first line whose condition holds, 0 where none does
abbrev pub first_number : List Row → ℕ
first_number [] = 0
first_number (r ∷ rs) = cond r.holds r.number (first_number rs)
