-- The orders of a tour's windows (02, Job 14: from the first window, each other once; orders in dictionary order of the window numbers).
-- Assumes nothing.
use Rattle.std.specs.Prelude.{List, [], ◌∷◌, ◌++◌, map, ℕ, zero, suc, ◌-◌, ◌*◌, get_or}

-- k numbers from a on
abbrev pub numbers_from : ℕ → ℕ → List ℕ
numbers_from a zero = []
numbers_from a (suc k) = a ∷ numbers_from (suc a) k

-- the windows but the first, of n windows numbered from 0
abbrev pub other_windows : ℕ → List ℕ
other_windows n = numbers_from 1 (n - 1)

-- a list without what stands at a place
abbrev pub without_place : List ℕ → ℕ → List ℕ
without_place [] i = []
without_place (a ∷ l) zero = l
without_place (a ∷ l) (suc i) = a ∷ without_place l i

-- the lists for the places below m, one behind the other
abbrev pub joined : ℕ → (ℕ → List (List ℕ)) → List (List ℕ)
joined zero f = []
joined (suc m) f = joined m f ++ f m

-- the orders of the k numbers left: each of them first in turn, as they stand, before every order of the others
unfoldable pub orders_of : ℕ → List ℕ → List (List ℕ)
orders_of zero left = [] ∷ []
orders_of (suc k) left = joined (suc k) (λ i. map (λ order. get_or left i 0 ∷ order) (orders_of k (without_place left i)))

-- the orders of n windows: 0 leads, before every order of the others
unfoldable pub orders : ℕ → List (List ℕ)
orders n = map (λ order. 0 ∷ order) (orders_of (n - 1) (other_windows n))

-- in how many orders k numbers stand
abbrev pub factorial : ℕ → ℕ
factorial zero = 1
factorial (suc k) = suc k * factorial k
