-- Following as the program does it, for the contracts of functions beneath the call: by the direction that a byte reads as, and from all cells of a
-- sheet at once.
-- Assumes nothing.
use Rattle.std.specs.Prelude.{cond, List, ℕ, zero, suc, ◌+◌, ◌*◌, ◌/◌, ◌%◌, ◌<◌, ltb, get_or, Option, Some, None}
use Rattle.fields.specs.declared.FieldCell.{FieldCell}
use Rattle.fields.specs.Cell.{cell_at, index_of, stepped}
use Rattle.flow_bits.specs.Byte.{dir_of}
use Rattle.flow_arrivals.specs.Following.{is_arrival}

-- where the direction of a cell's byte steps
abbrev pub read_step : List ℕ → ℕ → Option FieldCell
read_step bytes x = stepped (cell_at x) (dir_of (get_or bytes x 0))

-- the cell that a step from cell x leads to: x itself where it leaves the sector, so that followed arrows stay there and never arrive
abbrev pub stepped_to : ℕ → Option FieldCell → ℕ
stepped_to x (Some c) = index_of c
stepped_to x None = x

-- the cell after one move from cell x, and how many moves that is: none where its arrows have arrived
abbrev pub next_of : List ℕ → ℕ → ℕ
next_of bytes x = cond (is_arrival (get_or bytes x 0)) x (stepped_to x (read_step bytes x))

abbrev pub move_of : List ℕ → ℕ → ℕ
move_of bytes x = cond (is_arrival (get_or bytes x 0)) 0 1

-- the cell after n moves from cell x; arrows that have arrived stay where they are
unfoldable pub cell_after : List ℕ → ℕ → ℕ → ℕ
cell_after bytes zero x = x
cell_after bytes (suc n) x = cell_after bytes n (next_of bytes x)

-- how many of the n moves are made before the arrows have arrived
unfoldable pub moves_in : List ℕ → ℕ → ℕ → ℕ
moves_in bytes zero x = 0
moves_in bytes (suc n) x = move_of bytes x + moves_in bytes n (next_of bytes x)

-- both in one number, the cell's trail: the moves times 256, and the index of the cell
abbrev pub trail_after : List ℕ → ℕ → ℕ → ℕ
trail_after bytes n x = moves_in bytes n x * 256 + cell_after bytes n x

-- the trail of cell x after one move, by its byte
abbrev pub first_trail : ℕ → ℕ → ℕ
first_trail byte x = cond (is_arrival byte) x (256 + stepped_to x (stepped (cell_at x) (dir_of byte)))

-- the trail of cell x after a round: to its own moves come those of the cell where they lead
abbrev pub doubled_trail : List ℕ → ℕ → ℕ
doubled_trail trails x = get_or trails x 0 / 256 * 256 + get_or trails (get_or trails x 0 % 256) 0

-- trails that a round may start from: each leads to a cell of the sector, in fewer than 100 moves
pub record ShortTrails (trails : List ℕ) : Type 0 where
  pub leads : (x : ℕ) → x < 100 → get_or trails x 0 % 256 < 100
  pub few : (x : ℕ) → x < 100 → get_or trails x 0 < 25600

-- none of the trails of n moves has made them all
abbrev pub AllArrived : List ℕ → ℕ → Type 0
AllArrived trails n = (x : ℕ) → x < 100 → get_or trails x 0 < n * 256

-- the number of moves that a trail tells at the end: one of 100 moves or more never arrives
abbrev pub told_moves : ℕ → ℕ
told_moves trail = cond (ltb 99 (trail / 256)) 255 (trail / 256)
