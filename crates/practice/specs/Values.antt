-- The generator's values (02, Job 6: the first of 55 values is the seed, each next adds 2654435769, modulo 4294967296; after that each value is
-- the sum, modulo 4294967296, of those 24 and 55 places before).
-- Assumes nothing.
use Rattle.std.specs.Prelude.{ℕ, zero, suc, ◌+◌, ◌-◌, ◌%◌, cond, List, [], ◌∷◌, ◌++◌, length, nat_lt, slice_index}

-- a sum modulo 4294967296
unfoldable pub wrapped_sum : ℕ → ℕ → ℕ
wrapped_sum a b = (a + b) % 4294967296

-- the value so many places before the one that comes behind a list
abbrev pub places_before : ℕ → List ℕ → ℕ
places_before count values = slice_index values (length values - count)

-- the value behind a list of values
unfoldable pub next_value : List ℕ → ℕ
next_value values =
    cond (nat_lt (length values) 55)
    (wrapped_sum (places_before 1 values) 2654435769)
    (wrapped_sum (places_before 24 values) (places_before 55 values))

-- a list of values, and the one behind it
abbrev pub one_more : List ℕ → List ℕ
one_more values = values ++ (next_value values ∷ [])

-- the values at the places 0 to n
unfoldable pub values_to : ℕ → ℕ → List ℕ
values_to seed zero = seed ∷ []
values_to seed (suc n) = one_more (values_to seed n)

-- the value at a place
unfoldable pub practice_value : ℕ → ℕ → ℕ
practice_value seed n = slice_index (values_to seed n) n
