-- What is promised of the call for bounds, by its run and its number.
--     some_so_far, some_found    a test of all cells, one after the other
--     not_low, not_high, .., taken   the number, line by line
--     unmarked, held_as          whether a target is a window, and what it is then
--     runs                       what the run's calls leave
--     refuses, accepts           all that is promised of a refused call, and of an accepted one by its run
-- Assumes nothing.
use mathlib.Core.Path.{◌≡◌, refl, sym, ap, subst, ◌∙◌}
use mathlib.Core.Bool.{Bool, true, false, not, ◌||◌}
use mathlib.Core.Logic.{◌↔◌}
use mathlib.Core.List.{List, [], ◌∷◌, ◌++◌, map}
use Prim.Native.Nat.{ℕ, suc, ◌≤◌, ◌<◌}
use lib.ListN.{length, get_or}
use native.Mathlib.Omega.{arith}
use borrow.Author.Tests.{eq-eqb, ne_eqb}
use Rattle.utilities.specs.Lists.{below}
use Rattle.utilities.proofs.Lists.{below_at}
use Rattle.fields.specs.declared.CellList.{CellList}
use Rattle.route.specs.declared.Target as program
use Rattle.route.specs.declared.Target.TheVariants.{Goal, Window, Corner}
use Rattle.route.specs.Inner.{held_target, WindowHeld, TargetHeld}
use Rattle.route.specs.Step.{portal_of, is_window, step_number_on}
use Rattle.route.specs.Target.{Target, window_of, by_window, TargetIn, target_of}
use Rattle.route.proofs.Targets.{at_place, target_in}
use Rattle.integration_field.specs.Word.{is_portal}
use Rattle.flow_byte.specs.New.{is_in}
use Rattle.flow_arrows.specs.Arrows.{built_cost}
use Rattle.flow_arrows.specs.Promise.{built_cells}
use Rattle.sector.specs.Sector.{sector_bytes}
use Rattle.bounds_told.specs.declared.Bounds.{Bounds}
use Rattle.bounds_told.specs.Bounds.{some_of, no_range, bounds_number, is_sure, refused_bounds, accepted_bounds, bounds_answer}
use Rattle.bounds_told.specs.Promise.{CostBounds, SureMarks, BoundsRefused, NoBounds}
use Rattle.bounds_told.proofs.Marks.{told_some}
use Rattle.bounds_told.proofs.Promise.{cost_bounds, sure_marks, portals}
use Rattle.bounds_told.proofs.Numbers.{accepted, eighteen_told, ranged, zero_bounds, is_by_window}
use Rattle.bounds.specs.Promise.{floor_bytes}

-- ---- all cells, one after the other

module _ (p : ℕ → Bool) where
  last : (l : List ℕ) (x : ℕ) → some_of p l ≡ false → p x ≡ false → some_of p (l ++ (x ∷ [])) ≡ false
  last [] x e q = rw q
  last (y ∷ l) x e q = go (p y) e (λ f. last l x f q)
    where
      go : (b : Bool) → (b || some_of p l) ≡ false → (some_of p l ≡ false → some_of p (l ++ (x ∷ [])) ≡ false) → (b || some_of p (l ++ (x ∷ []))) ≡ false
      go true g f = g
      go false g f = f g

  pub some_so_far : (i : ℕ) → some_of p (below i) ≡ false → p i ≡ false → some_of p (below (suc i)) ≡ false
  some_so_far i e q = last (below i) i e q

  pub some_found : (i : ℕ) → i < 100 → p i ≡ true → some_of p (below 100) ≡ true
  some_found i h e = told_some p (below 100) i (at_place (below 100) i i h (below_at 100 i h)) e

-- ---- the lines of the table

module _ (low high step : List ℕ) where
  pub not_low : (length low ≡ 100 → ⊥) → 1 ≡ bounds_number low high step
  unfolding bounds_number
  not_low h = rw (ne_eqb (length low) 100 h)

  module _ (full : length low ≡ 100) where
    pub not_high : (length high ≡ 100 → ⊥) → 1 ≡ bounds_number low high step
    unfolding bounds_number
    not_high h = rw (eq-eqb (length low) 100 full, ne_eqb (length high) 100 h)

    module _ (whole : length high ≡ 100) where
      pub on_low : (n : ℕ) → n ≡ step_number_on low step → 0 < n → n ≡ bounds_number low high step
      unfolding bounds_number
      on_low n e h =
          rw (eq-eqb (length low) 100 full, eq-eqb (length high) 100 whole, ne_eqb (step_number_on low step) 0 (λ z. omega (arith, e))) e

      module _ (good : 0 ≡ step_number_on low step) where
        pub on_high : (n : ℕ) → n ≡ step_number_on high step → 0 < n → n ≡ bounds_number low high step
        unfolding bounds_number
        on_high n e h =
            rw (
              eq-eqb (length low) 100 full,
              eq-eqb (length high) 100 whole,
              eq-eqb (step_number_on low step) 0 (sym good),
              ne_eqb (step_number_on high step) 0 (λ z. omega (arith, e)),
            )
            e

        module _ (well : 0 ≡ step_number_on high step) where
          pub no_bounds : (not (is_window step) || some_of (no_range low high) (below 100)) ≡ true → 18 ≡ bounds_number low high step
          unfolding bounds_number
          no_bounds h =
              rw (
                eq-eqb (length low) 100 full,
                eq-eqb (length high) 100 whole,
                eq-eqb (step_number_on low step) 0 (sym good),
                eq-eqb (step_number_on high step) 0 (sym well),
                h,
              )

          pub taken : (not (is_window step) || some_of (no_range low high) (below 100)) ≡ false → 0 ≡ bounds_number low high step
          unfolding bounds_number
          taken h =
              rw (
                eq-eqb (length low) 100 full,
                eq-eqb (length high) 100 whole,
                eq-eqb (step_number_on low step) 0 (sym good),
                eq-eqb (step_number_on high step) 0 (sym well),
                h,
              )

-- ---- a target that is a window, or is not

pub unmarked : (t : program.Target) → ((w : CellList 10) → t ≡ Window w → ⊥) → by_window (held_target t) ≡ false
unmarked (Goal n) h = refl
unmarked (Window w) h = absurd (h w refl)
unmarked (Corner n) h = refl

pub held_as : {t : program.Target} {w : CellList 10} → t ≡ Window w → TargetHeld t → WindowHeld w
held_as e h = subst TargetHeld e h

-- ---- the run

module _ (low high : List ℕ) (target : Target) (full : length low ≡ 100) (inside : TargetIn target) (window : by_window target ≡ true)
    (byte : (x : ℕ) → x < 100 → get_or low x 0 ≤ 255) where
  pub runs : (cells other least greatest : List ℕ) (sure : List Bool) → cells ≡ built_cells low target → other ≡ built_cells high target
      → least ≡ map (built_cost cells) (below 100) → greatest ≡ map (built_cost other) (below 100)
      → ((w : List ℕ) → ((n : ℕ) → n < 100 → is_portal (get_or cells n 0) ≡ is_in n w) → sure ≡ map (is_sure cells w least greatest) (below 100))
      → record { number = 0; least = least; greatest = greatest; sure = sure } ≡ accepted_bounds low high target
  runs cells other least greatest sure c o l g s =
      let marks = s (window_of target) (rw c (portals low target full inside window byte)) in
      rw (marks, l, g, c, o)

-- ---- the call

module _ (low high step : List ℕ) where
  -- an answer
  abbrev Promised : Bounds → Type 0
  Promised r =
      (r ≡ bounds_answer low high step)
      × ((r.number ≡ 0 → CostBounds low high (target_of step) r.least r.greatest)
      × ((r.number ≡ 0 → SureMarks low high (target_of step) (floor_bytes step) r.least r.greatest r.sure)
      × (((r.number ≡ 0 → ⊥) → BoundsRefused r) × ((r.number ≡ 18) ↔ NoBounds low high step))))

  -- of a refused call nothing is promised but its answer, whatever is promised of an accepted one
  pub refuses : {Bounded Sure : Type 0} → (n : ℕ) → n ≡ bounds_number low high step → (n ≡ 0 → ⊥) → (r : Bounds) → r ≡ refused_bounds n
      → (r ≡ bounds_answer low high step) × ((r.number ≡ 0 → Bounded) × ((r.number ≡ 0 → Sure)
      × (((r.number ≡ 0 → ⊥) → BoundsRefused r) × ((r.number ≡ 18) ↔ NoBounds low high step))))
  refuses n e h r q =
      let z : r.number ≡ n = ap (λ (b : Bounds). b.number) q in
      let zero-parts : BoundsRefused r = rw q (zero_bounds n) in
      (q ∙ rw (← e, ne_eqb n 0 h), (λ f. absurd (h (sym z ∙ f)), (λ f. absurd (h (sym z ∙ f)), (λ f. zero-parts, rw (z, e) (eighteen_told low high step)))))

  pub accepts : ((x : ℕ) → x < 100 → get_or high x 0 ≤ 255) → bounds_number low high step ≡ 0 → (r : Bounds)
      → r ≡ accepted_bounds low high (target_of step) → Promised r
  unfolding sector_bytes
  accepts byte z r e =
      let ok = accepted low high step z in
      let floors = ranged low high step ok byte in
      let inside = target_in step ok.step_good in
      let window = is_by_window step ok.window_step in
      let bounded = cost_bounds low high (target_of step) floors inside window in
      let sure = sure_marks low high (target_of step) floors inside window (portal_of step) in
      let n : r.number ≡ 0 = ap (λ (b : Bounds). b.number) e in
      let told : (r.number ≡ 18) ↔ NoBounds low high step = rw (n ∙ sym z) (eighteen_told low high step) in
      (e ∙ rw z, (λ f. rw e bounded, (λ f. rw e sure, (λ f. absurd (f n), told))))
