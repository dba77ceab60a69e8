-- Which orders count, told by places.
--     counts_told     an order that counts has no move of 65535
--     told_counts     and one that has none counts
-- Assumes nothing.
use mathlib.Core.Path.{◌≡◌, refl}
use mathlib.Core.Bool.{true, false, not, and-eq-true_iff}
use mathlib.Core.List.{List, [], ◌∷◌}
use Prim.Native.Nat.{ℕ, zero, suc}
use native.Mathlib.Omega.{arith}
use lib.Dec.{eqb}
use borrow.Author.Tests.{eqb-false, ne_eqb, not-true}
use Rattle.tour_sums.specs.Tours.{move_cost, counts_from, tour_counts}
use Rattle.tour_sums.specs.Promise.{CountingOrder}

module _ (square : List (List ℕ)) where
  from_told : (a : ℕ) (l : List ℕ) → counts_from square a l ≡ true → CountingOrder square (a ∷ l)
  from_told a [] h = λ i inside e. omega arith
  from_told a (b ∷ l) h =
      let both = (and-eq-true_iff (not (eqb (move_cost square a b) 65535)) (counts_from square b l)).0 h in
      at (not-true (eqb (move_cost square a b) 65535) both.0) (from_told b l both.1)
    where
      at : eqb (move_cost square a b) 65535 ≡ false → CountingOrder square (b ∷ l) → CountingOrder square (a ∷ b ∷ l)
      at first behind zero k e = eqb-false (move_cost square a b) 65535 first e
      at first behind (suc i) k e = behind i (omega arith) e

  told_from : (a : ℕ) (l : List ℕ) → CountingOrder square (a ∷ l) → counts_from square a l ≡ true
  told_from a [] h = refl
  told_from a (b ∷ l) h = rw (ne_eqb (move_cost square a b) 65535 (h 0 (omega arith)), told_from b l (λ i k. h (suc i) (omega arith)))

  pub counts_told : (order : List ℕ) → tour_counts square order ≡ true → CountingOrder square order
  counts_told [] h = λ i inside e. omega arith
  counts_told (a ∷ l) h = from_told a l h

  pub told_counts : (order : List ℕ) → CountingOrder square order → tour_counts square order ≡ true
  told_counts [] h = refl
  told_counts (a ∷ l) h = told_from a l h
