-- A previous field as it is lent (01, "From Rust's form to Rattle's": a yes or no beside a field): its numbers, or none.
-- Assumes nothing.
use Rattle.std.specs.Prelude.{List, [], ℕ, Option, Some, None}
use Rattle.std.proofs.Common.{Bor}

-- the numbers of a previous field; no numbers where there is none
abbrev pub given : Option (Bor (List ℕ)) → List ℕ
given (Some previous) = previous.now
given None = []
