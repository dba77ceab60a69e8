-- How many entries of a list pass a test.
-- Assumes nothing.
use Rattle.std.specs.Prelude.{Bool, true, false, List, [], ◌∷◌, ℕ, ◌+◌}

-- 1 where the test holds
abbrev pub bit : Bool → ℕ
bit true = 1
bit false = 0

-- how many entries pass
unfoldable pub count : (ℕ → Bool) → List ℕ → ℕ
count f [] = 0
count f (x ∷ xs) = bit (f x) + count f xs
