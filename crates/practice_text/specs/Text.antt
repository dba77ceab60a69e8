-- What the practice printer prints (02, Job 6: a program reads the seed as four bytes, low byte first, and prints ten lines of costs in the sector
-- printer's manner, then an eleventh line, the goal in decimal; other lengths print the line `no`; each line ends with one line feed).
-- Assumes nothing.
use Rattle.std.specs.Prelude.{cond, List, [], ◌∷◌, ◌++◌, ℕ, ◌+◌, ◌*◌, eqb, length, get_or}
use Rattle.practice.specs.declared.PracticeFloor.{PracticeFloor}
use Rattle.practice.specs.Floor.{practice_floor}
use Rattle.print_text.specs.Rows.{rows_text, decimal}

-- the seed of four bytes, low byte first
unfoldable pub seed_of : List ℕ → ℕ
seed_of input = get_or input 0 0 + 256 * get_or input 1 0 + 65536 * get_or input 2 0 + 16777216 * get_or input 3 0

-- ten lines of costs, and the goal's line
unfoldable pub floor_text : PracticeFloor → List ℕ
floor_text floor = rows_text floor.costs 10 ++ (decimal floor.goal ++ (10 ∷ []))

-- the line `no`
unfoldable pub no_line : List ℕ
no_line = 110 ∷ 111 ∷ 10 ∷ []

-- what is printed for an input
unfoldable pub practice_text : List ℕ → List ℕ
practice_text input = cond (eqb (length input) 4) (floor_text (practice_floor (seed_of input))) no_line
