-- A leg as a file (02, Job 1): the mark `LEG`, a 16-bit version 1 (low byte first), a byte for the step count 1 to 16, then the steps, and nothing after.
-- Assumes nothing.
use Rattle.std.specs.Prelude.{Bool, cond, not, ◌&&◌, List, [], ◌∷◌, ℕ, ◌+◌, ◌*◌, ◌/◌, eqb, leb, length, get_or, drop}
use Rattle.route.specs.Table.{row, first_number}
use Rattle.route.specs.Step.{no_step_list}
use Rattle.leg_file.specs.declared.LegFile.{LegFile}

-- the file of a list of steps
abbrev pub file_of : List ℕ → List ℕ
file_of steps = 76 ∷ 69 ∷ 71 ∷ 1 ∷ 0 ∷ length steps / 8 ∷ steps

-- ---- the writer

-- its number: a list is refused with 3 as a leg does, then with 2 a buffer not exactly as long as the file
unfoldable pub write_number : List ℕ → List ℕ → ℕ
write_number steps file = first_number (row 3 (no_step_list steps) ∷ row 2 (not (eqb (length file) (length (file_of steps)))) ∷ [])

-- what it leaves of the buffer: a refusal writes nothing
unfoldable pub written_file : List ℕ → List ℕ → List ℕ
written_file steps file = cond (eqb (write_number steps file) 0) (file_of steps) file

-- ---- the reader; a byte that is not there counts as 0

-- the mark: `LEG`
unfoldable pub is_marked : List ℕ → Bool
is_marked file = eqb (get_or file 0 0) 76 && eqb (get_or file 1 0) 69 && eqb (get_or file 2 0) 71

-- the version, low byte first
abbrev pub version_of : List ℕ → ℕ
version_of file = get_or file 3 0 + 256 * get_or file 4 0

-- the step count
abbrev pub count_of : List ℕ → ℕ
count_of file = get_or file 5 0

-- a count of 1 to 16
abbrev pub is_count : ℕ → Bool
is_count n = leb 1 n && leb n 16

-- mark, version, count and length are right; no step is looked at
unfoldable pub is_leg_file : List ℕ → Bool
is_leg_file file = is_marked file && eqb (version_of file) 1 && is_count (count_of file) && eqb (length file) (6 + 8 * count_of file)

-- its number: 14, mark, version, count or length wrong
unfoldable pub file_number : List ℕ → ℕ
file_number file = first_number (row 14 (not (is_leg_file file)) ∷ [])

-- the part of the file that holds the steps; none where the file is refused
unfoldable pub file_steps : List ℕ → List ℕ
file_steps file = cond (eqb (file_number file) 0) (drop 6 file) []

-- its number, and where the part starts and how long it is
unfoldable pub file_answer : List ℕ → LegFile
file_answer file =
    record {
      number = file_number file;
      start = cond (eqb (file_number file) 0) 6 0;
      length = length (file_steps file);
    }
