-- Lists of what passes a test, and of the numbers below one.
-- Assumes nothing.
use Rattle.std.specs.Prelude.{Bool, true, false, List, [], ◌∷◌, ◌++◌, ℕ, zero, suc}

-- x before the list, where the test holds
abbrev pub cons_if : Bool → ℕ → List ℕ → List ℕ
cons_if true x l = x ∷ l
cons_if false x l = l

-- the numbers below n, in order
abbrev pub below : ℕ → List ℕ
below zero = []
below (suc n) = below n ++ (n ∷ [])
