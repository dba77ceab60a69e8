-- How often a number stands in a list.
--     here, other      in a list with one more in front
--     stands           a number that stands in a list stands at some place
--     occurrences_without    a list without what stands at a place
--     occurrences-numbers    each of the numbers from a on stands once, and no other
-- Assumes nothing.
use mathlib.Core.Path.{◌≡◌, refl, sym, ap, ◌∙◌}
use mathlib.Core.List.{List, [], ◌∷◌}
use Prim.Native.Nat.{ℕ, zero, suc, ◌+◌, ◌<◌, ◌≤◌}
use native.Mathlib.Omega.{arith}
use native.Mathlib.Decide.{ℕ_discrete}
use lib.ListN.{length, get_or}
use borrow.Author.Tests.{eq-eqb, ne_eqb}
use Rattle.tour_orders.specs.Orders.{numbers_from, without_place}
use Rattle.tour_orders.specs.Told.{occurrences}

pub here : (w a : ℕ) (l : List ℕ) → w ≡ a → occurrences w (a ∷ l) ≡ suc (occurrences w l)
here w a l e = rw (eq-eqb w a e) (omega arith)

pub other : (w a : ℕ) (l : List ℕ) → (w ≡ a → ⊥) → occurrences w (a ∷ l) ≡ occurrences w l
other w a l e = rw (ne_eqb w a e) (omega arith)

pub stands : (w : ℕ) (l : List ℕ) → 0 < occurrences w l → (i : ℕ) × (i < length l) × (get_or l i 0 ≡ w)
stands w [] h = absurd (omega arith)
stands w (a ∷ l) h = elim (ℕ_discrete w a) [ yes same ↦ (0, omega arith, sym same) | no not_same ↦ behind not_same (stands w l) ]
  where
    behind : (w ≡ a → ⊥) → (0 < occurrences w l → (i : ℕ) × (i < length l) × (get_or l i 0 ≡ w)) → (i : ℕ) × (i < suc (length l)) × (get_or (a ∷ l) i 0 ≡ w)
    behind not_same known = let k = known (omega (arith, other w a l not_same)) in (suc k.0, omega (arith, k.1), k.2)

pub occurrences_without : (w : ℕ) (l : List ℕ) (i : ℕ) → i < length l → occurrences w l ≡ occurrences w (get_or l i 0 ∷ without_place l i)
occurrences_without w [] i h = absurd (omega arith)
occurrences_without w (a ∷ l) zero h = refl
occurrences_without w (a ∷ l) (suc i) h = omega (arith, occurrences_without w l i (omega arith))

-- ---- the numbers from a on

pub below_none : (w a k : ℕ) → w < a → occurrences w (numbers_from a k) ≡ 0
below_none w a zero h = refl
below_none w a (suc k) h = other w a (numbers_from (suc a) k) (λ e. omega arith) ∙ below_none w (suc a) k (omega arith)

pub each_once : (w a k : ℕ) → a ≤ w → w < a + k → occurrences w (numbers_from a k) ≡ 1
each_once w a zero h l = absurd (omega arith)
each_once w a (suc k) h l =
    let behind = numbers_from (suc a) k in
    elim (ℕ_discrete w a) [
      | yes same ↦ here w a behind same ∙ ap suc (below_none w (suc a) k (omega arith))
      | no not_same ↦ other w a behind not_same ∙ each_once w (suc a) k (omega arith) (omega arith)
    ]

pub above_none : (w a k : ℕ) → a + k ≤ w → occurrences w (numbers_from a k) ≡ 0
above_none w a zero h = refl
above_none w a (suc k) h = other w a (numbers_from (suc a) k) (λ e. omega arith) ∙ above_none w (suc a) k (omega arith)

pub numbers_length : (a k : ℕ) → length (numbers_from a k) ≡ k
numbers_length a zero = refl
numbers_length a (suc k) = ap suc (numbers_length (suc a) k)
