-- A practice floor (02, Job 6: from the 56th value on, the top byte gives one cell; after 100 cells the next value modulo 100 is the goal, and its
-- cell becomes cost 1).
-- Assumes nothing.
use Rattle.std.specs.Prelude.{ℕ, ◌/◌, ◌%◌, cond, List, map, drop, nat_le, nat_lt, slice_set}
use Rattle.practice.specs.declared.PracticeFloor.{PracticeFloor}
use Rattle.practice.specs.Values.{values_to, practice_value}

-- the top byte of a value
abbrev pub top_byte : ℕ → ℕ
top_byte value = value / 16777216

-- a cell's cost: under 128 cost 1, 128 to 191 cost 10, else 255
unfoldable pub cost_of : ℕ → ℕ
cost_of value = cond (nat_lt (top_byte value) 128) 1 (cond (nat_le (top_byte value) 191) 10 255)

-- the cells as they are drawn: the 56th value, at place 55, gives cell 0, and the one at place 154 cell 99
unfoldable pub drawn_costs : ℕ → List ℕ
drawn_costs seed = map cost_of (drop 55 (values_to seed 154))

-- the next value, whole, modulo 100
unfoldable pub practice_goal : ℕ → ℕ
practice_goal seed = practice_value seed 155 % 100

-- the floor of a seed: the goal's cell becomes cost 1
unfoldable pub practice_floor : ℕ → PracticeFloor
practice_floor seed =
    record {
      costs = slice_set (drawn_costs seed) (practice_goal seed) 1;
      goal = practice_goal seed;
    }
