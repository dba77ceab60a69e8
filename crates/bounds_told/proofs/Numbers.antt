-- The number of the call for bounds.
--     accepted      what an accepted call is given
--     eighteen_told  it is refused with 18 exactly if nothing before is due, and the step has no window or some cell's costs are no from-to
--     ranged        its two floors have a from-to in each cell
--     zero_bounds   a refused answer, part by part
--     is_by_window     its step's target is a window
-- Assumes nothing.
use mathlib.Core.Path.{◌≡◌, refl, sym, ◌∙◌}
use mathlib.Core.Bool.{Bool, true, false, true≢false, not, cond, ◌&&◌, ◌||◌}
use mathlib.Core.Logic.{◌⊎◌, inl, inr, ◌↔◌}
use mathlib.Core.List.{List, ◌∷◌}
use Prim.Native.Nat.{ℕ, ◌≤◌, ◌<◌}
use native.Mathlib.Omega.{arith}
use native.Mathlib.Decide.{dec_lt, ℕ_discrete}
use lib.Dec.{ltb, eqb}
use lib.ListN.{length, get_or}
use borrow.Author.Tests.{ltb-true, lt-ltb, eqb-true, eqb-false, eq-eqb, ne_eqb}
use Rattle.utilities.specs.Lists.{below}
use Rattle.utilities.proofs.Lists.{below_at}
use Rattle.utilities.proofs.Padded.{all_zero}
use Rattle.route.specs.Table.{row}
use Rattle.route.specs.Step.{mark_of, is_window, is_wall_cost, step_number, step_rows_on, step_number_on}
use Rattle.route.specs.Target.{by_window, target_of}
use Rattle.route.proofs.Targets.{at_place, place_of, target_window}
use Rattle.route.proofs.Accepted.{accepted_step}
use Rattle.route.proofs.NoneIs.{none_is_law}
use Rattle.route.proofs.Walls.{accepted_on}
use Rattle.bounds_told.specs.Bounds.{some_of, no_range, bounds_number, refused_bounds}
use Rattle.bounds_told.specs.Promise.{NoRange, above, low_wall, high_wall, NoBounds, BoundsRefused}
use Rattle.bounds_told.proofs.Marks.{some_told, told_some}
use Rattle.bounds_told.proofs.Promise.{Ranged}

pub record Accepted (low high step : List ℕ) : Type 0 where
  pub low_hundred : length low ≡ 100
  pub high_hundred : length high ≡ 100
  pub step_good : step_number step ≡ 0
  pub window_step : is_window step ≡ true
  pub ranges : some_of (no_range low high) (below 100) ≡ false

pub accepted : (low high step : List ℕ) → bounds_number low high step ≡ 0 → Accepted low high step
unfolding bounds_number
accepted low high step =
    go (eqb (length low) 100) (eqb (length high) 100) (eqb (step_number_on low step) 0) (eqb (step_number_on high step) 0) (is_window step)
    (some_of (no_range low high) (below 100)) refl refl refl refl refl refl
  where
    go : (a b d e f g : Bool) → eqb (length low) 100 ≡ a → eqb (length high) 100 ≡ b → eqb (step_number_on low step) 0 ≡ d
        → eqb (step_number_on high step) 0 ≡ e → is_window step ≡ f → some_of (no_range low high) (below 100) ≡ g
        → cond (not a || not b) 1 (cond (not d) (step_number_on low step) (cond (not e) (step_number_on high step) (cond (not f || g) 18 0))) ≡ 0
        → Accepted low high step
    go false b d e f g p q r s t u n = absurd (omega arith)
    go true false d e f g p q r s t u n = absurd (omega arith)
    go true true false e f g p q r s t u n = absurd (eqb-false (step_number_on low step) 0 r n)
    go true true true false f g p q r s t u n = absurd (eqb-false (step_number_on high step) 0 s n)
    go true true true true false g p q r s t u n = absurd (omega arith)
    go true true true true true true p q r s t u n = absurd (omega arith)
    go true true true true true false p q r s t u n = record {
      low_hundred = eqb-true _ _ p;
      high_hundred = eqb-true _ _ q;
      step_good = accepted_on low step (eqb-true _ _ r);
      window_step = t;
      ranges = u;
    }

-- ---- the costs of two floors

module _ (low high : List ℕ) where
  test_true : (x : ℕ) → NoRange low high x → no_range low high x ≡ true
  test_true x (above l) = rw (lt-ltb (get_or high x 0) (get_or low x 0) l)
  test_true x (low_wall a b) = go (ltb (get_or high x 0) (get_or low x 0))
    where
      go : (t : Bool) → (t || ((is_wall_cost low x && not (is_wall_cost high x)) || (is_wall_cost high x && not (is_wall_cost low x)))) ≡ true
      go true = refl
      go false = rw (eq-eqb (get_or low x 0) 255 a, ne_eqb (get_or high x 0) 255 b)
  test_true x (high_wall a b) = go (ltb (get_or high x 0) (get_or low x 0))
    where
      go : (t : Bool) → (t || ((is_wall_cost low x && not (is_wall_cost high x)) || (is_wall_cost high x && not (is_wall_cost low x)))) ≡ true
      go true = refl
      go false = rw (eq-eqb (get_or high x 0) 255 a, ne_eqb (get_or low x 0) 255 b)

  true_test : (x : ℕ) → no_range low high x ≡ true → NoRange low high x
  true_test x = go (ltb (get_or high x 0) (get_or low x 0)) (is_wall_cost low x) (is_wall_cost high x) refl refl refl
    where
      go : (a b c : Bool) → ltb (get_or high x 0) (get_or low x 0) ≡ a → is_wall_cost low x ≡ b → is_wall_cost high x ≡ c
          → (a || ((b && not c) || (c && not b))) ≡ true → NoRange low high x
      go true b c p q r e = above (ltb-true _ _ p)
      go false true false p q r e = low_wall (eqb-true _ _ q) (eqb-false _ _ r)
      go false false true p q r e = high_wall (eqb-true _ _ r) (eqb-false _ _ q)
      go false true true p q r e = absurd (true≢false (sym e))
      go false false false p q r e = absurd (true≢false (sym e))

  -- where the test of all cells fails, no cell's costs are so
  no_cell : some_of (no_range low high) (below 100) ≡ false → (x : ℕ) → x < 100 → NoRange low high x → ⊥
  no_cell e x h n =
      true≢false (sym (told_some (no_range low high) (below 100) x (at_place (below 100) x x h (below_at 100 x h)) (test_true x n)) ∙ e)

  module _ (step : List ℕ) (a : Accepted low high step) (byte : (x : ℕ) → x < 100 → get_or high x 0 ≤ 255) where
    pub ranged : Ranged low high
    ranged = record {
      low_full = a.low_hundred;
      high_full = a.high_hundred;
      ordered = λ x h. elim (dec_lt (get_or high x 0) (get_or low x 0)) [ yes l ↦ absurd (no_cell a.ranges x h (above l)) | no l ↦ omega arith ];
      one_wall = λ x h e. elim (ℕ_discrete (get_or low x 0) 255) [ yes q ↦ q | no q ↦ absurd (no_cell a.ranges x h (high_wall e q)) ];
      byte = byte;
    }

-- ---- 18

module _ (low high step : List ℕ) where
  no_window : step_number_on low step ≡ 0 → is_window step ≡ false → mark_of step ≡ 0
  no_window z w = omega (arith, (accepted_step step (accepted_on low step z)).mark_in, eqb-false (mark_of step) 1 w)

  -- a step's number is never 18
  never_on : (costs : List ℕ) → step_number_on costs step ≡ 18 → ⊥
  unfolding step_number_on
  never_on costs = none_is_law 17 (row 3 (not (eqb (length step) 8)) ∷ step_rows_on costs step) refl

  pub eighteen_told : (bounds_number low high step ≡ 18) ↔ NoBounds low high step
  unfolding bounds_number
  eighteen_told = (
    to (eqb (length low) 100) (eqb (length high) 100) (eqb (step_number_on low step) 0) (eqb (step_number_on high step) 0) (is_window step)
        (some_of (no_range low high) (below 100)) refl refl refl refl refl refl,
    so,
  )
    where
      made : length low ≡ 100 → length high ≡ 100 → step_number_on low step ≡ 0 → step_number_on high step ≡ 0
          → (mark_of step ≡ 0) ⊎ ((x : ℕ) × (x < 100) × NoRange low high x) → NoBounds low high step
      made p q r s w = record { low_hundred = p; high_hundred = q; taken_low = r; taken_high = s; why = w }

      some : some_of (no_range low high) (below 100) ≡ true → (x : ℕ) × (x < 100) × NoRange low high x
      some e =
          let p = some_told (no_range low high) (below 100) e in
          let at = place_of (below 100) p.0 p.1 in
          let x : p.0 ≡ at.0 = sym at.2 ∙ below_at 100 at.0 at.1 in
          (p.0, omega (arith, x, at.1), true_test low high p.0 p.2)

      to : (a b d e f g : Bool) → eqb (length low) 100 ≡ a → eqb (length high) 100 ≡ b → eqb (step_number_on low step) 0 ≡ d
          → eqb (step_number_on high step) 0 ≡ e → is_window step ≡ f → some_of (no_range low high) (below 100) ≡ g
          → cond (not a || not b) 1 (cond (not d) (step_number_on low step) (cond (not e) (step_number_on high step) (cond (not f || g) 18 0))) ≡ 18
          → NoBounds low high step
      to false b d e f g p q r s t u n = absurd (omega arith)
      to true false d e f g p q r s t u n = absurd (omega arith)
      to true true false e f g p q r s t u n = absurd (never_on low n)
      to true true true false f g p q r s t u n = absurd (never_on high n)
      to true true true true false g p q r s t u n =
          made (eqb-true _ _ p) (eqb-true _ _ q) (eqb-true _ _ r) (eqb-true _ _ s) (inl (no_window (eqb-true _ _ r) t))
      to true true true true true true p q r s t u n = made (eqb-true _ _ p) (eqb-true _ _ q) (eqb-true _ _ r) (eqb-true _ _ s) (inr (some u))
      to true true true true true false p q r s t u n = absurd (omega arith)

      by_why : (mark_of step ≡ 0) ⊎ ((x : ℕ) × (x < 100) × NoRange low high x) → (not (is_window step) || some_of (no_range low high) (below 100)) ≡ true
      by_why (inl m) = rw (ne_eqb (mark_of step) 1 (λ e. omega (arith, e, m)))
      by_why (inr (x, h, r)) = go (is_window step)
          (told_some (no_range low high) (below 100) x (at_place (below 100) x x h (below_at 100 x h)) (test_true low high x r))
        where
          go : (b : Bool) → some_of (no_range low high) (below 100) ≡ true → (not b || some_of (no_range low high) (below 100)) ≡ true
          go true e = e
          go false e = refl

      so : NoBounds low high step → bounds_number low high step ≡ 18
      so w =
          rw (eq-eqb _ 100 w.low_hundred, eq-eqb _ 100 w.high_hundred, eq-eqb _ 0 w.taken_low, eq-eqb _ 0 w.taken_high, by_why w.why)

-- a refused answer, part by part
pub zero_bounds : (n : ℕ) → BoundsRefused (refused_bounds n)
zero_bounds n = record { least = all_zero 100 0; greatest = all_zero 100 0; sure = all_zero 100 false }

pub is_by_window : (step : List ℕ) → is_window step ≡ true → by_window (target_of step) ≡ true
is_by_window step e = rw (target_window step e)
