-- What this crate's functions answer.
--     tried_taken, tried_kept     one order more is tried, and is lower than all before or not
--     answered      the answer is the definition's, made of the number tried, the best order tried and the least figure
--     promised      and so everything promised of the definition is promised of it
-- Assumes nothing.
use mathlib.Core.Path.{◌≡◌, refl, sym, ap, ◌∙◌}
use mathlib.Core.Bool.{Bool, true, false}
use mathlib.Core.List.{List, []}
use Rattle.std.specs.Prelude.{Option, Some, None}
use Prim.Native.Nat.{ℕ, suc, ◌-◌, ◌<◌, ◌≤◌}
use native.Mathlib.Omega.{arith}
use lib.ListN.{length, get_or, take}
use Rattle.utilities.specs.Padded.{padded}
use Rattle.tour_orders.specs.Orders.{orders, factorial}
use Rattle.tour_orders.specs.Told.{AllOrders}
use Rattle.tour_orders.proofs.Orders.{count, all_orders, order_long}
use Rattle.tour_sums.specs.declared.Tour.{Tour}
use Rattle.tour_sums.specs.declared.SearchedTour.{SearchedTour}
use Rattle.tour_sums.specs.Tours.{move_cost, tour_sum, tour_counts, no_tour, tour_of, better_tour, best_tour, least_figure, tried_count, searched_tour, told_tour}
use Rattle.tour_sums.specs.Promise.{TourSquare, BestAnswer, LeastAnswer}
use Rattle.tour_sums.proofs.Best.{passed_over, first_found, not_lower, lower_taken, best_more}
use Rattle.tour_sums.proofs.Promised.{best_answer, least_answer}
use Rattle.tour_ranking.specs.Inner.{order_at}
use Rattle.tour_ranking.proofs.Places.{padded_at}
use Rattle.tour_search.specs.Inner.{weighed, lowest}
use Rattle.tour_search.proofs.Loops.{weighed_same, weighed_counts, weighed_dear, sum_small}

-- ---- the best so far, by its sum

module _ (square : List (List ℕ)) (costs : (a b : ℕ) → move_cost square a b ≤ 65535) (order : List ℕ) (short : length order ≤ 8)
    (w : ℕ) (is : w ≡ weighed square order (length order - 1)) where
  -- the order in an array, with its weight for its sum
  abbrev weighed_tour : Tour
  weighed_tour = record { order = padded 8 0 order; sum = w }

  -- an order that counts weighs its sum
  counts_sum : tour_counts square order ≡ true → w ≡ tour_sum square order
  counts_sum counts = is ∙ weighed_counts square order counts

  counts_tour : tour_counts square order ≡ true → Some (tour_of square order) ≡ Some weighed_tour
  counts_tour counts = rw (counts_sum counts) refl

  pub better_taken : (best : Option Tour) → lowest best ≤ 524288 → w < lowest best → Some weighed_tour ≡ better_tour square best order
  better_taken best most lower = by_counts (tour_counts square order) refl best lower
    where
      by_counts : (counts : Bool) → tour_counts square order ≡ counts → (best : Option Tour) → w < lowest best → Some weighed_tour ≡ better_tour square best order
      by_counts false none best less = absurd (omega (arith, is, weighed_dear square order none))
      by_counts true counts None less = sym (first_found square order counts ∙ counts_tour counts)
      by_counts true counts (Some t) less = sym (lower_taken square order t counts (omega (arith, counts_sum counts)) ∙ counts_tour counts)

  pub better_kept : (best : Option Tour) → lowest best ≤ w → best ≡ better_tour square best order
  better_kept best higher = by_counts (tour_counts square order) refl best higher
    where
      by_counts : (counts : Bool) → tour_counts square order ≡ counts → (best : Option Tour) → lowest best ≤ w → best ≡ better_tour square best order
      by_counts false none best more = sym (passed_over square order best none)
      by_counts true counts None more = absurd (omega (arith, counts_sum counts, sum_small square costs order short))
      by_counts true counts (Some t) more = sym (not_lower square order t counts (omega (arith, counts_sum counts)))

-- ---- one order more is tried

module _ (square : List (List ℕ)) (n : ℕ) (s : TourSquare square n) (place : ℕ) (inside : place < factorial (n - 1)) (best : Option Tour)
    (known : best ≡ best_tour square no_tour (take place (orders n)))
    (order : List ℕ) (is : order ≡ order_at n place) (w : ℕ) (weighs : w ≡ weighed square order (n - 1)) where
  abbrev listed : List ℕ
  listed = get_or (orders n) place []

  long : length listed ≡ n
  long = order_long n (omega (arith, s.some)) place inside

  weighs_listed : w ≡ weighed square listed (length listed - 1)
  weighs_listed =
      let last : n - 1 ≡ length listed - 1 = omega (arith, long) in
      weighs
      ∙ weighed_same square order listed (n - 1) (λ j h. ap (λ (l : List ℕ). get_or l j 0) is ∙ padded_at listed j)
      ∙ ap (weighed square listed) last

  more : better_tour square best listed ≡ best_tour square no_tour (take (suc place) (orders n))
  more =
      ap (λ (t : Option Tour). better_tour square t listed) known
      ∙ sym (best_more square (orders n) place (omega (arith, count n)))

  pub tried_taken : lowest best ≤ 524288 → w < lowest best
      → Some (record { order = order; sum = w }) ≡ best_tour square no_tour (take (suc place) (orders n))
  tried_taken most lower =
      ap (λ (l : List ℕ). Some (tour_with l)) is
      ∙ better_taken square s.costs listed (omega (arith, long, s.few)) w weighs_listed best most lower
      ∙ more
    where
      tour_with : List ℕ → Tour
      tour_with l = record { order = l; sum = w }

  pub tried_kept : lowest best ≤ w → best ≡ best_tour square no_tour (take (suc place) (orders n))
  tried_kept higher = better_kept square s.costs listed (omega (arith, long, s.few)) w weighs_listed best higher ∙ more

-- ---- the answer

module _ (square : List (List ℕ)) (n limit : ℕ) where
  pub answered : {tried least : ℕ} {best : Option Tour} → tried ≡ tried_count n limit
      → best ≡ best_tour square no_tour (take tried (orders n)) → least ≡ least_figure square n
      → ◌≡◌ {A = SearchedTour} (record { best = best; tried = tried; least = least }) (searched_tour square n limit)
  unfolding searched_tour
  answered t b l = rw (b, l, t)

  pub promised : TourSquare square n → {answer : SearchedTour} → answer ≡ searched_tour square n limit
      → (answer ≡ searched_tour square n limit) × (AllOrders n (orders n) × (BestAnswer square n limit (told_tour answer) × LeastAnswer square n (told_tour answer)))
  promised s is = (is, (all_orders n (omega (arith, s.some)), (rw is (best_answer square n limit s), rw is (least_answer square n limit s))))
