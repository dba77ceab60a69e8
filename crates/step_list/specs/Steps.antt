-- A list of bytes as the steps of a route (01, "A leg": a step is 8 bytes).
-- Assumes nothing.
use Rattle.std.specs.Prelude.{List, [], ◌∷◌, ℕ, zero, suc, ◌/◌, length, get_or, take, drop}

-- the first n steps of a list of bytes, 8 bytes each
unfoldable pub steps_in : ℕ → List ℕ → List (List ℕ)
steps_in zero bytes = []
steps_in (suc n) bytes = take 8 bytes ∷ steps_in n (drop 8 bytes)

-- a list of bytes as its steps
abbrev pub steps_of : List ℕ → List (List ℕ)
steps_of bytes = steps_in (length bytes / 8) bytes

-- the step at a place of the list
abbrev pub step_of : List (List ℕ) → ℕ → List ℕ
step_of steps k = get_or steps k []
