-- A step by the bytes of its list, as it is lent: for functions beneath the calls and their proofs.
-- Assumes nothing.
use Rattle.std.specs.Prelude.{List, ℕ, ◌*◌, take, drop}

-- the step at place k of a list of bytes
abbrev pub step_at : List ℕ → ℕ → List ℕ
step_at steps k = take 8 (drop (k * 8) steps)
