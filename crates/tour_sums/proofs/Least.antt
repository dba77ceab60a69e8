-- The least figure.
--     entry_small      no cheapest entry is above 65535
--     cheapest_entry_law   the cheapest entry into a window from another is at most each, and one of them
--     summed_same      a sum over windows does not depend on their order
--     sum_under        moves between different windows cost no less than the cheapest entry into each
--     under            so no order's sum goes under the least figure
-- Assumes nothing.
use mathlib.Core.Path.{◌≡◌, refl, sym, ap, ◌∙◌}
use mathlib.Core.Logic.{◌⊎◌, inl, inr, ⊎_elim}
use mathlib.Core.List.{List, [], ◌∷◌}
use Prim.Native.Nat.{ℕ, zero, suc, ◌+◌, ◌<◌, ◌≤◌, min}
use native.Mathlib.Omega.{arith}
use native.Mathlib.Decide.{dec_le, ℕ_discrete}
use lib.ListN.{length, get_or}
use borrow.Author.Tests.{eq-eqb, ne_eqb}
use Rattle.tour_orders.specs.Orders.{other_windows, without_place}
use Rattle.tour_orders.specs.Told.{occurrences, IsOrder}
use Rattle.tour_orders.proofs.Occurrences.{here, stands, occurrences_without}
use Rattle.tour_orders.proofs.Orders.{Split, split}
use Rattle.tour_sums.specs.Tours.{move_cost, sum_from, tour_sum, cheapest_entry, summed, least_figure}
use Rattle.tour_sums.specs.Promise.{TourSquare, CheapestEntry}

-- ---- the cheapest entry

module _ (square : List (List ℕ)) (b : ℕ) where
  pub own_row : (a : ℕ) → a ≡ b → cheapest_entry square b (suc a) ≡ cheapest_entry square b a
  own_row a e = rw (eq-eqb a b e)

  pub other_row : (a : ℕ) → (a ≡ b → ⊥) → cheapest_entry square b (suc a) ≡ min (move_cost square a b) (cheapest_entry square b a)
  other_row a e = rw (ne_eqb a b e)

  entry_most : (m a : ℕ) → a < m → (a ≡ b → ⊥) → cheapest_entry square b m ≤ move_cost square a b
  entry_most zero a h e = absurd (omega arith)
  entry_most (suc m) a h e = row (ℕ_discrete m b) (ℕ_discrete a m) (entry_most m a)
    where
      row : Dec (m ≡ b) → Dec (a ≡ m) → (a < m → (a ≡ b → ⊥) → cheapest_entry square b m ≤ move_cost square a b)
          → cheapest_entry square b (suc m) ≤ move_cost square a b
      row (yes own) (yes last) known = absurd (e (last ∙ own))
      row (yes own) (no before) known = omega (arith, own_row m own, known (omega arith) e)
      row (no not_own) (yes last) known = rw last (omega (arith, other_row m not_own))
      row (no not_own) (no before) known = omega (arith, other_row m not_own, known (omega arith) e)

  abbrev Met : ℕ → Type 0
  Met m = (a : ℕ) × (a < m) × (a ≡ b → ⊥) × (cheapest_entry square b m ≡ move_cost square a b)

  -- or still 65535
  abbrev MetOr : ℕ → Type 0
  MetOr m = Met m ⊎ (cheapest_entry square b m ≡ 65535)

  entry_met : (m : ℕ) → MetOr m
  entry_met zero = inr refl
  entry_met (suc m) = row (ℕ_discrete m b) (dec_le (move_cost square m b) (cheapest_entry square b m)) (entry_met m)
    where
      longer : (cheapest_entry square b (suc m) ≡ cheapest_entry square b m) → MetOr m → MetOr (suc m)
      longer e known = ⊎_elim (λ k. inl (k.0, omega (arith, k.1), k.2, e ∙ k.3)) (λ k. inr (e ∙ k)) known

      row : Dec (m ≡ b) → Dec (move_cost square m b ≤ cheapest_entry square b m) → MetOr m → MetOr (suc m)
      row (yes own) (yes lower) known = longer (own_row m own) known
      row (yes own) (no higher) known = longer (own_row m own) known
      row (no not_own) (yes lower) known = inl (m, omega arith, not_own, omega (arith, other_row m not_own))
      row (no not_own) (no higher) known = longer (omega (arith, other_row m not_own)) known

pub entry_small : (square : List (List ℕ)) (b m : ℕ) → cheapest_entry square b m ≤ 65535
entry_small square b zero = omega arith
entry_small square b (suc m) =
    elim (ℕ_discrete m b) [
      | yes own ↦ omega (arith, own_row square b m own, entry_small square b m)
      | no not_own ↦ omega (arith, other_row square b m not_own, entry_small square b m)
    ]

pub cheapest_entry_law : (square : List (List ℕ)) (n : ℕ) → TourSquare square n → (b : ℕ) → b < n → CheapestEntry square n b (cheapest_entry square b n)
cheapest_entry_law square n s b h = record { at_most = entry_most square b n; met = ⊎_elim (λ k. k) none (entry_met square b n) }
  where
    by : (a : ℕ) → a < n → (a ≡ b → ⊥) → cheapest_entry square b n ≡ 65535 → Met square b n
    by a inside e dear = (a, inside, e, omega (arith, dear, entry_most square b n a inside e, s.costs a b))

    none : cheapest_entry square b n ≡ 65535 → Met square b n
    none dear =
        elim (ℕ_discrete b 0) [
          | yes first ↦ by 1 (omega (arith, s.some)) (λ e. omega arith) dear
          | no not_first ↦ by 0 (omega arith) (λ e. not_first (sym e)) dear
        ]

-- ---- a sum over windows

summed_without : (f : ℕ → ℕ) (l : List ℕ) (i : ℕ) → i < length l → summed f l ≡ f (get_or l i 0) + summed f (without_place l i)
summed_without f [] i h = absurd (omega arith)
summed_without f (a ∷ l) zero h = refl
summed_without f (a ∷ l) (suc i) h = omega (arith, summed_without f l i (omega arith))

pub summed_same : (f : ℕ → ℕ) (l m : List ℕ) → ((w : ℕ) → occurrences w l ≡ occurrences w m) → summed f l ≡ summed f m
summed_same f [] [] same = refl
summed_same f [] (b ∷ m) same = absurd (omega (arith, here b b m refl, same b))
summed_same f (a ∷ l) m same =
    let s = stands a m (omega (arith, here a a l refl, same a)) in
    taken s.0 s.1 s.2 (summed_same f l (without_place m s.0) (rests s.0 s.1 s.2))
  where
    rests : (i : ℕ) → i < length m → get_or m i 0 ≡ a → (w : ℕ) → occurrences w l ≡ occurrences w (without_place m i)
    rests i h e w = omega (arith, same w, occurrences_without w m i h, ap (λ (x : ℕ). occurrences w (x ∷ without_place m i)) e)

    taken : (i : ℕ) → i < length m → get_or m i 0 ≡ a → summed f l ≡ summed f (without_place m i) → f a + summed f l ≡ summed f m
    taken i h e known = omega (arith, known, summed_without f m i h, ap f e)

-- ---- the moves of an order

module _ (square : List (List ℕ)) (n : ℕ) (s : TourSquare square n) where
  sum_under : (a : ℕ) (l : List ℕ) → ((w : ℕ) → occurrences w (a ∷ l) ≤ 1) → ((w : ℕ) → n ≤ w → occurrences w (a ∷ l) ≡ 0)
      → summed (λ b. cheapest_entry square b n) l ≤ sum_from square a l
  sum_under a [] once inside = omega arith
  sum_under a (b ∷ l) once inside =
      let known = sum_under b l (λ w. omega (arith, once w)) (λ w h. omega (arith, inside w h)) in
      omega (arith, entry_most square b n a within differ)
    where
      differ : a ≡ b → ⊥
      differ e = omega (arith, here a a (b ∷ l) refl, here a b l e, once a)

      within : a < n
      within = elim (dec_le n a) [ yes out ↦ absurd (omega (arith, here a a (b ∷ l) refl, inside a out)) | no not-out ↦ omega arith ]

  pub under : (order : List ℕ) → IsOrder n order → least_figure square n ≤ tour_sum square order
  unfolding least_figure
  under order o = from (split n (omega (arith, s.some)) order o)
    where
      most : (w : ℕ) → occurrences w order ≤ 1
      most w = elim (dec_le n w) [ yes out ↦ omega (arith, o.no_other w out) | no not-out ↦ omega (arith, o.once w (omega arith)) ]

      from : Split n order → summed (λ b. cheapest_entry square b n) (other_windows n) ≤ tour_sum square order
      from p =
          let same = summed_same (λ b. cheapest_entry square b n) p.rest (other_windows n) p.same in
          let below = sum_under 0 p.rest (λ w. rw p.is at (most w)) (λ w h. rw p.is at (o.no_other w h)) in
          rw p.is (omega arith)
