-- Laws of this crate's loops.
--     weighed_more, weighed_small, weighed_same     the weight of an order, place by place
--     weighed_counts, weighed_dear                  it is the order's sum where it counts, else more than that of any that counts
--     sums_start, sums_more, sums_front             the sums that are kept, place by place, and for the next order
--     order_numbers                                 the numbers of an order in an array
-- Assumes nothing.
use mathlib.Core.Path.{◌≡◌, refl, sym, ap, ◌∙◌}
use mathlib.Core.Bool.{Bool, true, false, not, and-eq-true_iff}
use mathlib.Core.List.{List, [], ◌∷◌}
use Prim.Native.Nat.{ℕ, zero, suc, ◌+◌, ◌-◌, ◌*◌, ◌<◌, ◌≤◌}
use native.Mathlib.Omega.{arith}
use native.Mathlib.Decide.{ℕ_discrete}
use borrow.Author.Tests.{not-true}
use lib.Dec.{eqb}
use lib.ListN.{length, get_or, take, set, length-set}
use lib.Seq.{get_or-set_same, get_or-set_other, get_or-take}
use Rattle.tour_orders.specs.Orders.{orders, factorial}
use Rattle.tour_orders.proofs.Orders.{each, order_inside}
use Rattle.tour_sums.specs.Tours.{move_cost, sum_from, tour_sum, counts_from, tour_counts}
use Rattle.tour_sums.proofs.Best.{never}
use Rattle.tour_ranking.specs.Inner.{order_at}
use Rattle.tour_ranking.proofs.Places.{padded_at}
use Rattle.tour_search.specs.Inner.{WindowNumbers, weight, weighed, SumsKept}

-- ---- what a move weighs

pub weight_counts : (cost : ℕ) → eqb cost 65535 ≡ false → weight cost ≡ cost
weight_counts cost e = rw e

pub weight_dear : (cost : ℕ) → eqb cost 65535 ≡ true → weight cost ≡ 524288
weight_dear cost e = rw e

pub weight_small : (cost : ℕ) → cost ≤ 65535 → weight cost ≤ 524288
weight_small cost h = go (eqb cost 65535) refl
  where
    go : (dear : Bool) → eqb cost 65535 ≡ dear → weight cost ≤ 524288
    go true e = omega (arith, weight_dear cost e)
    go false e = omega (arith, weight_counts cost e)

-- ---- what an order weighs

module _ (square : List (List ℕ)) where
  pub weighed_small : ((a b : ℕ) → move_cost square a b ≤ 65535) → (order : List ℕ) (i : ℕ) → weighed square order i ≤ i * 524288
  weighed_small costs order zero = omega arith
  weighed_small costs order (suc i) =
      let a = get_or order i 0 in
      let b = get_or order (suc i) 0 in
      omega (arith, weighed_small costs order i, weight_small (move_cost square a b) (costs a b))

  -- by the place before
  pub weighed_more : (order : List ℕ) (at : ℕ) → 1 ≤ at
      → weighed square order at ≡ weighed square order (at - 1) + weight (move_cost square (get_or order (at - 1) 0) (get_or order at 0))
  weighed_more order zero h = absurd (omega arith)
  weighed_more order (suc i) h = let e : suc i - 1 ≡ i = omega arith in rw e

  -- it goes by the places up to the last
  pub weighed_same : (order other : List ℕ) (i : ℕ) → ((j : ℕ) → j ≤ i → get_or order j 0 ≡ get_or other j 0) → weighed square order i ≡ weighed square other i
  weighed_same order other zero same = refl
  weighed_same order other (suc i) same =
      rw (same i (omega arith), same (suc i) (omega arith), weighed_same order other i (λ j h. same j (omega arith)))

  -- with one window more in front
  weighed_behind : (a : ℕ) (l : List ℕ) (i : ℕ) → weighed square (a ∷ l) (suc i) ≡ weight (move_cost square a (get_or l 0 0)) + weighed square l i
  weighed_behind a l zero = omega arith
  weighed_behind a l (suc i) = omega (arith, weighed_behind a l i)

  from_counts : (a : ℕ) (l : List ℕ) → counts_from square a l ≡ true → weighed square (a ∷ l) (length l) ≡ sum_from square a l
  from_counts a [] h = refl
  from_counts a (b ∷ l) h =
      let both = (and-eq-true_iff (not (eqb (move_cost square a b) 65535)) (counts_from square b l)).0 h in
      let cheap = weight_counts (move_cost square a b) (not-true (eqb (move_cost square a b) 65535) both.0) in
      omega (arith, weighed_behind a (b ∷ l) (length l), cheap, from_counts b l both.1)

  from_dear : (a : ℕ) (l : List ℕ) → counts_from square a l ≡ false → 524288 ≤ weighed square (a ∷ l) (length l)
  from_dear a [] h = absurd (never h)
  from_dear a (b ∷ l) h = go (eqb (move_cost square a b) 65535) refl (from_dear b l)
    where
      go : (dear : Bool) → eqb (move_cost square a b) 65535 ≡ dear → (counts_from square b l ≡ false → 524288 ≤ weighed square (b ∷ l) (length l))
          → 524288 ≤ weighed square (a ∷ b ∷ l) (suc (length l))
      go true e known = omega (arith, weighed_behind a (b ∷ l) (length l), weight_dear (move_cost square a b) e)
      go false e known = omega (arith, weighed_behind a (b ∷ l) (length l), known (rw e at h))

  from_small : ((a b : ℕ) → move_cost square a b ≤ 65535) → (a : ℕ) (l : List ℕ) → sum_from square a l ≤ length l * 65535
  from_small costs a [] = omega arith
  from_small costs a (b ∷ l) = omega (arith, costs a b, from_small costs b l)

  pub weighed_counts : (order : List ℕ) → tour_counts square order ≡ true → weighed square order (length order - 1) ≡ tour_sum square order
  weighed_counts [] h = refl
  weighed_counts (a ∷ l) h = let e : suc (length l) - 1 ≡ length l = omega arith in rw e (from_counts a l h)

  pub weighed_dear : (order : List ℕ) → tour_counts square order ≡ false → 524288 ≤ weighed square order (length order - 1)
  weighed_dear [] h = absurd (never h)
  weighed_dear (a ∷ l) h = let e : suc (length l) - 1 ≡ length l = omega arith in rw e (from_dear a l h)

  pub sum_small : ((a b : ℕ) → move_cost square a b ≤ 65535) → (order : List ℕ) → length order ≤ 8 → tour_sum square order ≤ 458745
  sum_small costs [] h = omega arith
  sum_small costs (a ∷ l) h = omega (arith, from_small costs a l)

-- ---- the sums that are kept

module _ (square : List (List ℕ)) (order : List ℕ) where
  pub sums_start : (sums : List ℕ) → length sums ≡ 8 → get_or sums 0 0 ≡ 0 → SumsKept square order 1 sums
  sums_start sums long first =
      record { long = long; each = λ i h. let e : i ≡ 0 = omega arith in rw e first }

  pub sums_more : (at : ℕ) (sums : List ℕ) (sum : ℕ) → at < 8 → sum ≡ weighed square order at → SumsKept square order at sums
      → SumsKept square order (at + 1) (set sums at sum)
  sums_more at sums sum h is s =
      record {
        long = length-set sums at sum ∙ s.long;
        each = λ i l. elim (ℕ_discrete i at) [
          | yes same ↦ rw same (get_or-set_same sums at sum 0 (omega (arith, s.long)) ∙ is)
          | no other ↦ get_or-set_other sums at i sum 0 other ∙ s.each i (omega arith)
        ];
      }

  -- for another order whose first places are the same
  pub sums_front : (other : List ℕ) (places all : ℕ) (sums : List ℕ) → places ≤ all → take places other ≡ take places order
      → SumsKept square order all sums → SumsKept square other places sums
  sums_front other places all sums few same s =
      record { long = s.long; each = λ i h. s.each i (omega arith) ∙ weighed_same square order other i (λ j l. at j (omega arith)) }
    where
      at : (j : ℕ) → j < places → get_or order j 0 ≡ get_or other j 0
      at j h =
          sym (get_or-take places order j 0 h) ∙ ap (λ (l : List ℕ). get_or l j 0) (sym same) ∙ get_or-take places other j 0 h

-- ---- an order in an array

pub order_numbers : (n : ℕ) → 1 ≤ n → n ≤ 8 → (place : ℕ) → place < factorial (n - 1) → WindowNumbers (order_at n place)
order_numbers n some few place inside i =
    let order = get_or (orders n) place [] in
    omega (arith, padded_at order i, order_inside n some order (each n some place inside) i)
