-- Lists in arrays (01, under the table: places of a list beyond its count hold 0).
-- Assumes nothing.
use Rattle.std.specs.Prelude.{◌≡◌, List, ◌++◌, ℕ, ◌-◌, ◌≤◌, length, get_or, replicate}

-- the list, and the zero behind it to n places
abbrev pub padded : {A : Type 0} → ℕ → A → List A → List A
padded n zero l = l ++ replicate (n - length l) zero

-- An array holds the zero in its places from a count on (01, under the table) ..
abbrev pub ZeroBeyond : {A : Type 0} → A → ℕ → List A → Type 0
ZeroBeyond zero count l = (i : ℕ) → count ≤ i → get_or l i zero ≡ zero

-- .. and, in a refused answer (01, under the table: with every other part of the answer zero), in all of them.
abbrev pub AllZero : {A : Type 0} → A → List A → Type 0
AllZero zero l = (i : ℕ) → get_or l i zero ≡ zero
