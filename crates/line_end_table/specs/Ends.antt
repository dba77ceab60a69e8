-- The table of line ends (02, "Job 12"): a row for each corner, in it a place for each goal.
-- Assumes nothing.
use Rattle.std.specs.Prelude.{◌≡◌, List, [], ℕ, ◌+◌, ◌*◌, ◌/◌, ◌%◌, ◌<◌, length, get_or}
use Rattle.fields.specs.Cell.{cell_at, index_of}
use Rattle.line_end.specs.LineEnd.{line_end}

-- the entry at a place of rows of 100, which lie one after the other
abbrev pub entry_at : List (List ℕ) → ℕ → ℕ
entry_at ends place = get_or (get_or ends (place / 100) []) (place % 100) 0

-- A table that holds, at corner times 100 plus goal, the index of the cell in which the line of that corner and that goal ends:
-- what the rule of Job 11 gives, and row 0 of its column where the corner is the goal.
pub record HoldsEnds (ends : List (List ℕ)) : Type 0 where
  pub long : length ends ≡ 100
  pub each : (corner goal : ℕ) → corner < 100 → goal < 100 → entry_at ends (corner * 100 + goal) ≡ index_of (line_end (cell_at corner) (cell_at goal))

-- Of such a table what one goal reads: a place for each corner, and for the corners below a number the index of the cell in which its line ends.
pub record EndsTo (corners goal : ℕ) (ends : List ℕ) : Type 0 where
  pub full : length ends ≡ 100
  pub each : (corner : ℕ) → corner < corners → get_or ends corner 0 ≡ index_of (line_end (cell_at corner) (cell_at goal))

-- and for all corners
abbrev pub EndsFor : ℕ → List ℕ → Type 0
EndsFor goal ends = EndsTo 100 goal ends
