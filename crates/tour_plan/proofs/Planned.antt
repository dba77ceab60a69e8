-- What is promised of the call for a tour, by its number, its square and its tour.
--     square_small      no entry of the square is above 65535
--     tour_square       so that it is one that a tour goes over
--     refuses, accepts  all that is promised of a refused call, and of an accepted one
-- Assumes nothing.
use mathlib.Core.Path.{◌≡◌, refl, sym, ap, subst, ◌∙◌}
use mathlib.Core.Bool.{Bool, true, false, cond, ◌&&◌}
use mathlib.Core.List.{List, []}
use Prim.Native.Nat.{ℕ, ◌/◌, ◌≤◌, ◌<◌}
use native.Mathlib.Omega.{arith}
use native.Mathlib.Decide.{dec_lt}
use lib.Dec.{ltb}
use lib.ListN.{length, get_or, get_or-eq_default}
use borrow.Author.Tests.{ne_eqb}
use Rattle.utilities.proofs.Padded.{all_zero}
use Rattle.route.specs.Step.{window_cells}
use Rattle.route.specs.Target.{target_of}
use Rattle.step_list.specs.Steps.{steps_of, step_of}
use Rattle.step_list.proofs.Steps.{steps_count}
use Rattle.flow_arrows.specs.Promise.{built_cells}
use Rattle.window_square.specs.Square.{window_costs_number, window_cost, square_entry, cost_square}
use Rattle.window_square.specs.Promise.{cost_at}
use Rattle.window_square.specs.Inner.{WindowsReady}
use Rattle.window_square.proofs.Least.{least_small}
use Rattle.window_square.proofs.Numbers.{ready}
use Rattle.window_square.proofs.Calls.{NumbersTold, numbers}
use Rattle.window_square.proofs.Promise.{entry_at, row_long, rows_eight, square_told}
use Rattle.tour_orders.specs.Orders.{orders}
use Rattle.tour_orders.specs.Told.{AllOrders}
use Rattle.tour_sums.specs.declared.SearchedTour.{SearchedTour}
use Rattle.tour_sums.specs.Tours.{searched_tour, told_tour}
use Rattle.tour_sums.specs.Promise.{TourSquare, BestAnswer, LeastAnswer}
use Rattle.tour_plan.specs.declared.WindowTour.{WindowTour}
use Rattle.tour_plan.specs.Plan.{refused_tour, accepted_tour, tour_in, tour_answer}
use Rattle.tour_plan.specs.Promise.{TourPlanned, TourRefused}

-- ---- the square

module _ (costs : List ℕ) (steps : List (List ℕ)) where
  abbrev square : List (List ℕ)
  square = cost_square costs steps

  cost_small : (from to : List ℕ) → window_cost costs from to ≤ 65535
  unfolding window_cost
  cost_small from to = least_small (built_cells costs (target_of to)) (window_cells from)

  entry_small : (i j : ℕ) → square_entry costs steps i j ≤ 65535
  entry_small i j = go (ltb i (length steps) && ltb j (length steps))
    where
      go : (b : Bool) → cond b (window_cost costs (step_of steps i) (step_of steps j)) 65535 ≤ 65535
      go true = cost_small (step_of steps i) (step_of steps j)
      go false = omega arith

  pub square_small : (i j : ℕ) → cost_at square i j ≤ 65535
  square_small i j = go (dec_lt i 8) (dec_lt j 8)
    where
      go : Dec (i < 8) → Dec (j < 8) → cost_at square i j ≤ 65535
      go (yes h) (yes k) = omega (arith, entry_at costs steps i j h k, entry_small i j)
      go (yes h) (no k) = omega (arith, get_or-eq_default (get_or square i []) 0 {n = j} (omega (arith, row_long costs steps i h)))
      go (no h) k =
          let none : get_or square i [] ≡ [] = get_or-eq_default square [] {n = i} (omega (arith, rows_eight costs steps)) in
          rw none (omega arith)

pub tour_square : (costs steps : List ℕ) → WindowsReady costs steps → TourSquare (cost_square costs (steps_of steps)) (length steps / 8)
tour_square costs steps r = record { some = r.some; few = r.few; costs = square_small costs (steps_of steps) }

-- ---- the call

module _ (costs steps : List ℕ) (limit : ℕ) where
  -- of a refused call nothing is promised but its answer, whatever is promised of an accepted one
  pub refuses : {Told : Type 0} → (n : ℕ) → n ≡ window_costs_number costs steps → (n ≡ 0 → ⊥) → (r : WindowTour) → r ≡ refused_tour n
      → (r ≡ tour_answer costs steps limit) × ((r.number ≡ 0 → Told) × (((r.number ≡ 0 → ⊥) → TourRefused r) × NumbersTold costs steps r.number))
  refuses n e h r q =
      let z : r.number ≡ n = ap (λ (w : WindowTour). w.number) q in
      let zero-parts : TourRefused r = rw q (record { found = refl; order = all_zero 8 0; sum = refl; tried = refl; least = refl }) in
      (q ∙ rw (← e, ne_eqb n 0 h), (λ f. absurd (h (sym z ∙ f)), (λ f. zero-parts, numbers costs steps r.number (z ∙ e))))

  -- a tour of n windows over the square, as it is promised
  abbrev pub Told : SearchedTour → ℕ → Type 0
  Told t n =
      let square = cost_square costs (steps_of steps) in
      (t ≡ searched_tour square n limit) × (AllOrders n (orders n) × (BestAnswer square n limit (told_tour t) × LeastAnswer square n (told_tour t)))

  pub accepts : ((x : ℕ) → x < 100 → get_or costs x 0 ≤ 255) → window_costs_number costs steps ≡ 0 → (t : SearchedTour) → Told t (length steps / 8)
      → (r : WindowTour) → r ≡ accepted_tour t
      → (r ≡ tour_answer costs steps limit)
      × ((r.number ≡ 0 → TourPlanned costs (steps_of steps) limit (tour_in r))
      × (((r.number ≡ 0 → ⊥) → TourRefused r) × NumbersTold costs steps r.number))
  accepts byte z t lent r made =
      let told = subst (Told t) (sym (steps_count steps)) lent in
      let n : r.number ≡ 0 = ap (λ (w : WindowTour). w.number) made in
      (made ∙ ap accepted_tour told.0 ∙ rw z, (λ f. rw made (planned told), (λ f. absurd (f n), numbers costs steps r.number (n ∙ sym z))))
    where
      planned : Told t (length (steps_of steps)) → TourPlanned costs (steps_of steps) limit (told_tour t)
      planned (answer, (every, (best, under))) =
          record { square = square_told costs steps byte (ready costs steps z); every_order = every; best = best; under = under }
