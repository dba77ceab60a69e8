-- The orders of windows, made in an array.
--     next_made          the two places found in an order's array, exchanged, and the numbers behind reversed: the next order
--     first_order_is     the window numbers at their own places: the first order
-- Assumes nothing.
use mathlib.Core.Path.{◌≡◌, refl, sym, ap, subst, ◌∙◌}
use mathlib.Core.List.{List, [], ◌∷◌}
use Prim.Native.Nat.{ℕ, zero, suc, ◌+◌, ◌-◌, ◌<◌, ◌≤◌}
use native.Mathlib.Omega.{arith}
use native.Mathlib.Numerals.{add-one}
use native.Mathlib.Decide.{dec_lt}
use lib.ListN.{length, get_or, get_or-eq_default}
use lib.Seq.{ext_get_or}
use Rattle.utilities.specs.Padded.{padded}
use Rattle.utilities.proofs.Padded.{padded_length}
use Rattle.tour_orders.specs.Orders.{other_windows, orders, factorial}
use Rattle.tour_orders.proofs.Occurrences.{numbers_length}
use Rattle.tour_orders.proofs.Choosing.{factorial_some}
use Rattle.tour_orders.proofs.Ascending.{number_at}
use Rattle.tour_orders.proofs.Orders.{led, order_long}
use Rattle.tour_ranking.specs.Inner.{order_at, LastRise, LastAbove, Reversed, NextMade}
use Rattle.tour_ranking.proofs.Loops.{Counted}
use Rattle.std.specs.List.{swap}
use Rattle.std.proofs.lemmas.List.Edits.{length-swap}
use Rattle.tour_ranking.proofs.Next.{LedChange, order_changes, first_is}
use Rattle.tour_ranking.proofs.Places.{padded_at, order_length, n, to_place, last_rise, last_above, full, next_is, front_stays}

-- ---- the next order of windows, from the places that are found in its array

rise_array : (order : List ℕ) (n p : ℕ) → LastRise order n p → LastRise (padded 8 0 order) n p
rise_array order n p r =
    record {
      some = r.some;
      inside = r.inside;
      rises = omega (arith, padded_at order p, padded_at order (p + 1), r.rises);
      falls_behind = λ m h l. omega (arith, padded_at order m, padded_at order (m + 1), r.falls_behind m h l);
    }

above_array : (order : List ℕ) (n at p : ℕ) → LastAbove order n at p → LastAbove (padded 8 0 order) n at p
above_array order n at p a =
    record {
      later = a.later;
      inside = a.inside;
      above = omega (arith, padded_at order at, padded_at order p, a.above);
      none_behind = λ m h l. omega (arith, padded_at order m, padded_at order at, a.none_behind m h l);
    }

-- In the array of an order of n windows `at` is the last rise and `to` the last number above that; `next` has the two exchanged, and those behind
-- reversed.
pub record Found (n : ℕ) (array : List ℕ) (at to : ℕ) (next : List ℕ) : Type 0 where
  pub rise : (p : ℕ) → LastRise array n p → at ≡ p
  pub above : (p : ℕ) → LastAbove array n at p → to ≡ p
  pub made : length (swap array at to) ≡ 8 → Reversed (at + 1) (n - 1) (swap array at to) next

by_change : (order after : List ℕ) (l : LedChange order after) → n order after l.change ≤ 8 → (at to : ℕ) (next : List ℕ)
    → Found (n order after l.change) (padded 8 0 order) at to next
    → NextMade (n order after l.change) (padded 8 0 after) (padded 8 0 order) at next
by_change order after l few at to next f =
    let t = l.change in
    let size = n order after t in
    let front = length t.front in
    let there = to_place order after t in
    let at-is : at ≡ front = f.rise front (rise_array order size front (last_rise order after t l.some)) in
    let found = above_array order size front there (last_above order after t) in
    let to_is : to ≡ there = f.above there (subst (λ (a : ℕ). LastAbove (padded 8 0 order) size a there) (sym at-is) found) in
    let long = length-swap (padded 8 0 order) at to ∙ full order after t few in
    let is = next_is order after t few next (rw (at-is, to_is) at (f.made long)) in
    record { some = omega (arith, l.some); inside = omega arith; is = is; front_same = rw (at-is, is) (front_stays order after t) }

pub next_made : (m place : ℕ) (entry : List ℕ) → 1 ≤ m → m ≤ 8 → place + 1 < factorial (m - 1) → entry ≡ order_at m place
    → (at to : ℕ) (next : List ℕ) → Found m entry at to next → NextMade m (order_at m (place + 1)) entry at next
next_made m place entry some few h e at to next =
    let order = get_or (orders m) place [] in
    let after = get_or (orders m) (suc place) [] in
    let l = order_changes m place (omega arith) in
    let size : n order after l.change ≡ m = sym (order_length order after l.change) ∙ order_long m some place (omega arith) in
    rw (e, add-one place) (
    subst
    (λ (k : ℕ). Found k (order_at m place) at to next → NextMade k (order_at m (suc place)) (order_at m place) at next)
    size
    (by_change order after l (omega (arith, size)) at to next)
    )

-- ---- the first order

pub first_order_is : (n : ℕ) → 1 ≤ n → n ≤ 8 → (order : List ℕ) → Counted order n → order ≡ order_at n 0
first_order_is n some few order c =
    ext_get_or 0 order (order_at n 0) (c.long ∙ sym full) (λ m h. own m ∙ sym (padded_at (get_or (orders n) 0 []) m ∙ ap (λ (l : List ℕ). get_or l m 0) listed))
  where
    listed : get_or (orders n) 0 [] ≡ 0 ∷ other_windows n
    listed =
        led n 0 (factorial_some (n - 1))
        ∙ ap (λ (l : List ℕ). 0 ∷ l) (first_is (n - 1) (other_windows n) (numbers_length 1 (n - 1)))

    full : length (order_at n 0) ≡ 8
    full = padded_length {A = ℕ} 8 0 (get_or (orders n) 0 []) (omega (arith, ap length listed, numbers_length 1 (n - 1)))

    number : (m : ℕ) → m < n → get_or (0 ∷ other_windows n) m 0 ≡ m
    number zero h = refl
    number (suc m) h = number_at 1 (n - 1) m (omega arith) ∙ omega arith

    own : (m : ℕ) → get_or order m 0 ≡ get_or (0 ∷ other_windows n) m 0
    own m =
        elim (dec_lt m n) [
          | yes inside ↦ c.own m inside ∙ sym (number m inside)
          | no outside ↦ c.zeros m (omega arith)
              ∙ sym (get_or-eq_default (0 ∷ other_windows n) 0 {n = m} (omega (arith, numbers_length 1 (n - 1))))
        ]
