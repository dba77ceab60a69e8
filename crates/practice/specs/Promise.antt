-- A practice floor told by any sequence of values that keeps to the request's words (02, Job 6), apart from the lists that work them out.
-- Assumes nothing.
use Rattle.std.specs.Prelude.{◌≡◌, ℕ, ◌+◌, ◌/◌, ◌%◌, ◌<◌, ◌≤◌, length, ◌≢◌, slice_index, slice_index_or}
use Rattle.practice.specs.declared.PracticeFloor.{PracticeFloor}
use Rattle.practice.specs.Values.{practice_value}

-- a sequence, by places from 0: the seed, the 54 values that each add 2654435769, and every later one, whose summands stand 24 and 55 places before it
pub record Generates (seed : ℕ) (v : ℕ → ℕ) : Type 0 where
  pub first : v 0 ≡ seed
  pub adds : (n : ℕ) → n < 54 → v (n + 1) ≡ (v n + 2654435769) % 4294967296
  pub sums : (n : ℕ) → v (n + 55) ≡ (v (n + 31) + v n) % 4294967296

-- what a value's top byte says of a cost
pub data CellDrawn (value : ℕ) : ℕ → Type 0 where
  free : value / 16777216 < 128 → CellDrawn value 1
  dear : 128 ≤ value / 16777216 → value / 16777216 ≤ 191 → CellDrawn value 10
  wall : 192 ≤ value / 16777216 → CellDrawn value 255

-- a floor drawn by a sequence: its goal, the goal's cell, and every other cell
pub record DrawnBy (v : ℕ → ℕ) (floor : PracticeFloor) : Type 0 where
  pub goal : floor.goal ≡ v 155 % 100
  pub goal_cell : slice_index_or floor.costs floor.goal 0 ≡ 1
  pub cells : (i : ℕ) → i < 100 → (i ≢ floor.goal) → CellDrawn (v (i + 55)) (slice_index floor.costs i)

-- a seed's floor: 100 costs and a goal among them, drawn by every such sequence; and there is one
pub record PracticeTold (seed : ℕ) (floor : PracticeFloor) : Type 0 where
  pub hundred : length floor.costs ≡ 100
  pub goal_inside : floor.goal < 100
  pub some : Generates seed (practice_value seed)
  pub every : (v : ℕ → ℕ) → Generates seed v → DrawnBy v floor
