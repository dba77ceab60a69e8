-- What writer and reader are to each other (02, Job 1).
-- Assumes nothing.
use Rattle.std.specs.Prelude.{◌≡◌, List, [], ℕ, ◌+◌, ◌*◌, ◌≤◌, length, drop}
use Rattle.leg_file.specs.declared.LegFile.{LegFile}
use Rattle.leg_file.specs.File.{write_number, written_file, file_number, file_steps}

-- every list of 1 to 16 steps written is read back the same: `before` and `after` are the buffer at entry and at exit
pub record ReadBack (steps before after : List ℕ) (number : ℕ) : Type 0 where
  pub written : (k : ℕ) → 1 ≤ k → k ≤ 16 → length steps ≡ 8 * k → length before ≡ 6 + 8 * k → number ≡ 0
  pub taken : number ≡ 0 → file_number after ≡ 0
  pub back : number ≡ 0 → file_steps after ≡ steps

-- every file read is what the writer gives for its steps, whatever buffer of its length is lent
pub record WrittenSame (file steps : List ℕ) : Type 0 where
  pub taken : file_number file ≡ 0 → (buffer : List ℕ) → length buffer ≡ length file → write_number steps buffer ≡ 0
  pub same : file_number file ≡ 0 → (buffer : List ℕ) → length buffer ≡ length file → written_file steps buffer ≡ file

-- the part handed back, beside the number: empty exactly where the number is 14, else the file from byte 6 on
pub record PartOf (file steps : List ℕ) : Type 0 where
  pub refused : file_number file ≡ 14 → steps ≡ []
  pub empty : steps ≡ [] → file_number file ≡ 14
  pub read : file_number file ≡ 0 → steps ≡ drop 6 file

-- A refused call answers its number, with every other part of the answer zero (01, under the table).
pub record FileRefused (r : LegFile) : Type 0 where
  pub start : r.start ≡ 0
  pub length : r.length ≡ 0
