-- What is promised of the call for window costs, by its number and its square.
--     numbers    by what 19 and 20 are told
--     refuses    of a refused call
--     accepts    of an accepted one, by the rows that its square is answered in
-- Assumes nothing.
use mathlib.Core.Path.{◌≡◌, refl, sym, ap, ◌∙◌}
use mathlib.Core.Logic.{◌↔◌}
use mathlib.Core.List.{List, map}
use Prim.Native.Nat.{ℕ, zero, suc, ◌≤◌, ◌<◌}
use lib.ListN.{get_or, replicate}
use borrow.Author.Tests.{ne_eqb}
use Rattle.utilities.specs.Lists.{below}
use Rattle.utilities.proofs.Padded.{all_zero}
use Rattle.step_list.specs.Steps.{steps_of}
use Rattle.window_square.specs.declared.WindowRow.{WindowRow}
use Rattle.window_square.specs.declared.WindowCosts.{WindowCosts}
use Rattle.window_square.specs.Square.{window_costs_number, cost_square, rows_of, square_in, refused_window_costs, window_costs_answer}
use Rattle.window_square.specs.Promise.{cost_at, WindowSquare, SquareRefused, WrongCount, NotAmong}
use Rattle.window_square.specs.Inner.{held_row}
use Rattle.window_square.proofs.Numbers.{ready}
use Rattle.window_square.proofs.Told.{nineteen_told, twenty_told}
use Rattle.window_square.proofs.Promise.{rows_eight, square_told}
use Rattle.window_square.proofs.Columns.{rows_held, rows_back}

-- the square of a refused answer
zero_row : (n i j : ℕ) → cost_at (square_in (rows_of (replicate n (replicate 8 0)))) i j ≡ 0
zero_row zero i j = refl
zero_row (suc n) zero j = all_zero 8 0 j
zero_row (suc n) (suc i) j = zero_row n i j

zero_square : SquareRefused (square_in (rows_of (replicate 8 (replicate 8 0))))
zero_square i j = zero_row 8 i j

module _ (costs steps : List ℕ) where
  -- 19 and 20, by what they are told by
  abbrev pub NumbersTold : ℕ → Type 0
  NumbersTold n = ((n ≡ 19) ↔ WrongCount costs steps) × ((n ≡ 20) ↔ NotAmong costs steps)

  pub numbers : (n : ℕ) → n ≡ window_costs_number costs steps → NumbersTold n
  numbers n e = rw e (nineteen_told costs steps, twenty_told costs steps)

  -- of a refused call nothing is promised but its answer, whatever is promised of an accepted one
  pub refuses : {Told : Type 0} → (n : ℕ) → n ≡ window_costs_number costs steps → (n ≡ 0 → ⊥) → (r : WindowCosts) → r ≡ refused_window_costs n
      → (r ≡ window_costs_answer costs steps) × ((r.number ≡ 0 → Told)
      × (((r.number ≡ 0 → ⊥) → SquareRefused (square_in r.rows)) × NumbersTold r.number))
  refuses n e h r q =
      let z : r.number ≡ n = ap (λ (w : WindowCosts). w.number) q in
      (q ∙ rw (← e, ne_eqb n 0 h), (λ f. absurd (h (sym z ∙ f)), (λ f. rw q zero_square, numbers r.number (z ∙ e))))

  pub accepts : ((x : ℕ) → x < 100 → get_or costs x 0 ≤ 255) → window_costs_number costs steps ≡ 0 → (square : List (List ℕ)) (rows : List WindowRow)
      → square ≡ cost_square costs (steps_of steps) → rows ≡ map (held_row square) (below 8) → (r : WindowCosts) → r ≡ record { number = 0; rows = rows }
      → (r ≡ window_costs_answer costs steps)
      × ((r.number ≡ 0 → WindowSquare costs (steps_of steps) (square_in r.rows))
      × (((r.number ≡ 0 → ⊥) → SquareRefused (square_in r.rows)) × NumbersTold r.number))
  accepts byte z square rows e q r made =
      let s = cost_square costs (steps_of steps) in
      let held : rows ≡ rows_of s = q ∙ ap (λ (t : List (List ℕ)). map (held_row t) (below 8)) e ∙ rows_held s (rows_eight costs (steps_of steps)) in
      let told : WindowSquare costs (steps_of steps) (square_in r.rows) = rw (made, held, rows_back s) (square_told costs steps byte (ready costs steps z)) in
      let n : r.number ≡ 0 = ap (λ (w : WindowCosts). w.number) made in
      (made ∙ rw (held, z), (λ f. told, (λ f. absurd (f n), numbers r.number (n ∙ sym z))))
