-- What is promised of a tour of windows, of its definition.
--     tried_is        the number tried is the limit or factorial n - 1, the smaller
--     best_answer     the best order tried, or no order; and the best there is, if all were tried
--     least_answer    the least figure is the sum of the cheapest entries, and no order's sum goes under it
-- Assumes nothing.
use mathlib.Core.Path.{◌≡◌, refl, sym, ap, ◌∙◌}
use mathlib.Core.Bool.{true, false}
use mathlib.Core.Logic.{⊎_elim}
use mathlib.Core.List.{List, []}
use Prim.Native.Nat.{ℕ, zero, suc, ◌+◌, ◌-◌, ◌<◌, ◌≤◌, min}
use native.Mathlib.Omega.{arith}
use native.Mathlib.Decide.{dec_lt}
use lib.ListN.{length, get_or, take}
use Rattle.tour_orders.specs.Orders.{numbers_from, orders, factorial}
use Rattle.tour_orders.specs.Told.{IsOrder}
use Rattle.tour_orders.proofs.Orders.{count, all_orders}
use Rattle.tour_sums.specs.declared.Tour.{Tour}
use Rattle.std.specs.Prelude.{Option}
use Rattle.tour_sums.specs.Tours.{tour_sum, no_tour, best_tour, cheapest_entry, summed, least_figure, tried_count, searched_tour, ToldTour, told_of, told_tour}
use Rattle.tour_sums.specs.Promise.{TourSquare, CountingOrder, Tried, BestTried, NoneTried, BestAnswer, over_others, LeastAnswer}
use Rattle.tour_sums.proofs.Counting.{counts_told, told_counts}
use Rattle.tour_sums.proofs.Best.{NoneCounts, At, Best, best_first, never}
use Rattle.tour_sums.proofs.Least.{cheapest_entry_law, under}

pub tried_is : (n limit : ℕ) → tried_count n limit ≡ min limit (factorial (n - 1))
unfolding tried_count
tried_is n limit = ap (min limit) (count n)

-- the sum over windows that are listed in order is the sum over their numbers
over_others_law : (entry : ℕ → ℕ) (a m : ℕ) → summed entry (numbers_from (suc a) m) + over_others entry a ≡ over_others entry (a + m)
over_others_law entry a zero = let same : a ≡ a + zero = omega arith in omega (arith, ap (over_others entry) same)
over_others_law entry a (suc m) =
    let next : suc a + m ≡ a + suc m = omega arith in
    omega (arith, over_others_law entry (suc a) m, ap (over_others entry) next)

module _ (square : List (List ℕ)) (n limit : ℕ) (s : TourSquare square n) where
  abbrev answer : ToldTour
  answer = told_tour (searched_tour square n limit)

  abbrev best : Option Tour
  best = best_tour square no_tour (take (tried_count n limit) (orders n))

  -- order k is tried exactly if k is below the number tried
  below_tried : (k : ℕ) → Tried n limit k → k < tried_count n limit
  unfolding tried_count
  below_tried k t = omega (arith, t.within, t.one_of_all)

  tried_below : (k : ℕ) → k < tried_count n limit → Tried n limit k
  unfolding tried_count
  tried_below k h = record { within = omega arith; one_of_all = omega arith }

  known : Best square (orders n) (tried_count n limit)
  unfolding tried_count
  known = best_first square (orders n) (min limit (length (orders n))) (omega arith)

  is_told : {t : Option Tour} → best ≡ t → answer ≡ told_of t (tried_count n limit) (least_figure square n)
  unfolding searched_tour
  is_told e = ap (λ (t : Option Tour). told_of t (tried_count n limit) (least_figure square n)) e

  best_tried : At square (orders n) (tried_count n limit) best → (k : ℕ) × BestTried square n limit k answer
  unfolding searched_tour
  best_tried a =
      let sum : answer.sum ≡ tour_sum square (get_or (orders n) a.place []) = ap (λ (t : ToldTour). t.sum) (is_told a.is) in (
        a.place,
        record {
          tried = tried_below a.place a.tried;
          counts = counts_told square (get_or (orders n) a.place []) a.counts;
          order_is = ap (λ (t : ToldTour). t.order) (is_told a.is);
          sum_is = sum;
          at_most = λ j t c. omega (arith, sum, a.at_most j (below_tried j t) (told_counts square (get_or (orders n) j []) c));
          earlier = λ j t c e. not_before j c (e ∙ sum);
        },
      )
    where
      not_before : (j : ℕ) → CountingOrder square (get_or (orders n) j [])
          → tour_sum square (get_or (orders n) j []) ≡ tour_sum square (get_or (orders n) a.place []) → a.place ≤ j
      not_before j c e =
          elim (dec_lt j a.place) [
            | yes before ↦ absurd (omega (arith, e, a.before j before (told_counts square (get_or (orders n) j []) c)))
            | no later ↦ omega arith
          ]

  none_tried : NoneCounts square (orders n) (tried_count n limit) best → NoneTried square n limit answer
  unfolding searched_tour
  none_tried a =
      record {
        none_counts = λ j t c. a.none_counts j (below_tried j t) (told_counts square (get_or (orders n) j []) c);
        order_is = ap (λ (t : ToldTour). t.order) (is_told a.is);
        sum_is = ap (λ (t : ToldTour). t.sum) (is_told a.is);
      }

  found_at : At square (orders n) (tried_count n limit) best → answer.found ≡ true
  unfolding searched_tour
  found_at a = ap (λ (t : ToldTour). t.found) (is_told a.is)

  none_found : NoneCounts square (orders n) (tried_count n limit) best → answer.found ≡ false
  unfolding searched_tour
  none_found a = ap (λ (t : ToldTour). t.found) (is_told a.is)

  whole : factorial (n - 1) ≤ limit → (order : List ℕ) → IsOrder n order → CountingOrder square order
      → (answer.found ≡ true) × (answer.sum ≤ tour_sum square order)
  whole all order o c =
      let p = (all_orders n (omega (arith, s.some))).none_left_out order o in
      at p.0 (record { within = omega (arith, count n, p.1); one_of_all = p.1 }) p.2
    where
      at : (k : ℕ) → Tried n limit k → get_or (orders n) k [] ≡ order → (answer.found ≡ true) × (answer.sum ≤ tour_sum square order)
      at k t e =
          let counts : CountingOrder square (get_or (orders n) k []) = rw e c in
          ⊎_elim
          (λ z. absurd ((none_tried z).none_counts k t counts))
          (λ a. (found_at a, omega (arith, (best_tried a).1.at_most k t counts, ap (tour_sum square) e)))
          known

  pub best_answer : BestAnswer square n limit (told_tour (searched_tour square n limit))
  best_answer =
      record {
        found = λ f. ⊎_elim (λ z. absurd (never (sym f ∙ none_found z))) best_tried known;
        no_order = λ f. ⊎_elim none_tried (λ a. absurd (never (sym (found_at a) ∙ f))) known;
        tried = answer_tried ∙ tried_is n limit;
        whole = whole;
      }
    where
      answer_tried : answer.tried ≡ tried_count n limit
      answer_tried = unfold searched_tour in refl

  pub least_answer : LeastAnswer square n (told_tour (searched_tour square n limit))
  unfolding searched_tour least_figure
  least_answer =
      let all : 0 + (n - 1) ≡ n - 1 = omega arith in
      record {
        entries = (entry, cheapest_entry_law square n s, omega (arith, over_others_law entry 0 (n - 1), ap (over_others entry) all));
        under = under square n s;
      }
    where
      entry : ℕ → ℕ
      entry b = cheapest_entry square b n
