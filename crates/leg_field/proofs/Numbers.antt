-- The number of the field behind a leg, and all that is promised of an answer.
--     same_rows, same_number    for a place in the list it is the leg's
--     beyond_told               21 comes exactly where the place is beyond the list, and neither 1 nor 3 is due
--     place_in, judged_so       what is known where nothing is refused before a step is planned
--     judged_0, none_closed     and where nothing is refused at all
--     refuses, accepts          all that is promised of a refused call, and of an accepted one
-- Assumes nothing.
use mathlib.Core.Path.{◌≡◌, refl, sym, ap, subst, ◌∙◌}
use mathlib.Core.Bool.{Bool, true, false, true≢false, cond, not}
use mathlib.Core.Logic.{◌↔◌}
use mathlib.Core.List.{List, [], ◌∷◌, ◌++◌}
use Prim.Native.Nat.{ℕ, zero, suc, ◌<◌}
use native.Mathlib.Omega.{arith}
use lib.Dec.{leb, eqb}
use lib.ListN.{length, replicate, length-replicate}
use borrow.Author.Tests.{eqb-true, eqb-false, leb-true, leb-false, lt-leb, eq-eqb}
use Rattle.route.specs.Table.{Row, row, first_number}
use Rattle.route.specs.Step.{no_step_list}
use Rattle.route.specs.Target.{Target}
use Rattle.route.proofs.NoneIs.{none_is_law, none_both}
use Rattle.integration_field.specs.declared.BuildAnswer.{BuildAnswer}
use Rattle.integration_field.specs.Answer.{refusal, answer_of}
use Rattle.integration_field.specs.Promise.{BuildRefused}
use Rattle.integration_field.proofs.Answers.{build_refused}
use Rattle.integration_started.specs.Started.{started}
use Rattle.integration_walks.proofs.Promise.{demand3, started_positions}
use Rattle.step_list.specs.Steps.{steps_of}
use Rattle.leg_plan.specs.Leg.{each_rows, out_of_order, disconnected, some_closed, judged_rows, leg_number_by}
use Rattle.leg_plan.specs.Promise.{sector_at, costs_at, target_at}
use Rattle.leg_plan.proofs.Numbers.{Judged, judged, rows_first, closed_15, open_0, ready}
use Rattle.leg_plan.proofs.Closed.{each_is}
use Rattle.leg_plan.proofs.Planned as plan
use Rattle.leg_plan.proofs.Sheet.{built_is}
use Rattle.leg_field.specs.Field.{field_rows, field_number_by, field_answer_by}
use Rattle.leg_field.specs.Promise.{FieldPlanned, AsLeg, BeyondList}

-- a sheet of a floor
abbrev pub blank : List ℕ
blank = replicate 6400 0

pub blank_full : length blank ≡ 6400
blank_full = length-replicate {A = ℕ} 6400 0

module _ (floor steps : List ℕ) (place : ℕ) where
  module _ (inside : place < length (steps_of steps)) (sheet : List ℕ) (full : length sheet ≡ 6400) where
    pub same_rows : first_number (field_rows floor steps place) ≡ first_number (judged_rows floor steps sheet)
    unfolding field_rows judged_rows
    same_rows = rw (lt-leb (length (steps_of steps)) place inside, eq-eqb (length sheet) 6400 full)

    pub same_number : (sight : Bool) → field_number_by sight floor steps place ≡ leg_number_by sight floor steps sheet
    unfolding field_rows judged_rows field_number_by leg_number_by
    same_number sight = rw (lt-leb (length (steps_of steps)) place inside, eq-eqb (length sheet) 6400 full)

  module _ (z : first_number (field_rows floor steps place) ≡ 0) where
    pub place_in : place < length (steps_of steps)
    unfolding field_rows
    place_in = go (eqb (length floor) 6400) (no_step_list steps) (leb (length (steps_of steps)) place) refl z
      where
        rest : ℕ
        rest = first_number (each_rows floor (steps_of steps) ++ (row 9 (out_of_order (steps_of steps)) ∷ row 10 (disconnected (steps_of steps)) ∷ []))

        go : (a b c : Bool) → leb (length (steps_of steps)) place ≡ c → cond (not a) 1 (cond b 3 (cond c 21 rest)) ≡ 0 → place < length (steps_of steps)
        go false b c q e = absurd (omega arith)
        go true true c q e = absurd (omega arith)
        go true false true q e = absurd (omega arith)
        go true false false q e = omega (arith, leb-false (length (steps_of steps)) place q)

    pub judged_so : Judged floor steps blank
    judged_so = judged floor steps blank (sym (same_rows place_in blank blank_full) ∙ z)

  -- a number that is judged before a step is planned is the call's; else 15 decides
  pub judged_first : (sight : Bool) → (first_number (field_rows floor steps place) ≡ 0 → ⊥)
      → field_number_by sight floor steps place ≡ first_number (field_rows floor steps place)
  unfolding field_number_by
  judged_first sight h = rows_first (field_rows floor steps place) (row 15 (some_closed sight floor (steps_of steps)) ∷ []) h

  module _ (sight : Bool) (z : first_number (field_rows floor steps place) ≡ 0) where
    pub fifteen : some_closed sight floor (steps_of steps) ≡ true → field_number_by sight floor steps place ≡ 15
    fifteen c = same_number (place_in z) blank blank_full sight ∙ closed_15 sight floor steps blank (judged_so z) c

    pub none : some_closed sight floor (steps_of steps) ≡ false → field_number_by sight floor steps place ≡ 0
    none c = same_number (place_in z) blank blank_full sight ∙ open_0 sight floor steps blank (judged_so z) c

  -- where nothing is refused, neither is due
  module _ (sight : Bool) (z : field_number_by sight floor steps place ≡ 0) where
    pub judged_0 : first_number (field_rows floor steps place) ≡ 0
    judged_0 = go (first_number (field_rows floor steps place)) refl
      where
        go : (n : ℕ) → first_number (field_rows floor steps place) ≡ n → first_number (field_rows floor steps place) ≡ 0
        go zero e = e
        go (suc n) e = sym (judged_first sight (λ q. absurd (omega (arith, e, q)))) ∙ z

    pub none_closed : some_closed sight floor (steps_of steps) ≡ false
    none_closed = go (some_closed sight floor (steps_of steps)) refl
      where
        go : (b : Bool) → some_closed sight floor (steps_of steps) ≡ b → b ≡ false
        go true e = absurd (omega (arith, fifteen sight judged_0 e, z))
        go false e = refl

-- ---- 21

pub beyond_told : (sight : Bool) (floor steps : List ℕ) (place : ℕ) → (field_number_by sight floor steps place ≡ 21) ↔ BeyondList floor steps place
unfolding field_number_by field_rows
beyond_told sight floor steps place = go (eqb (length floor) 6400) (no_step_list steps) (leb (length (steps_of steps)) place) refl refl refl
  where
    each : List Row
    each = each_rows floor (steps_of steps)

    order : List Row
    order = row 9 (out_of_order (steps_of steps)) ∷ row 10 (disconnected (steps_of steps)) ∷ []

    closed : List Row
    closed = row 15 (some_closed sight floor (steps_of steps)) ∷ []

    rest : ℕ
    rest = first_number ((each ++ order) ++ closed)

    never : rest ≡ 21 → ⊥
    never =
        none_is_law 20 ((each ++ order) ++ closed)
        (none_both 21 (each ++ order) closed (none_both 21 each order (each_is 20 (λ costs step. refl) floor (steps_of steps)) refl) refl)

    go : (a b c : Bool) → eqb (length floor) 6400 ≡ a → no_step_list steps ≡ b → leb (length (steps_of steps)) place ≡ c
        → (cond (not a) 1 (cond b 3 (cond c 21 rest)) ≡ 21) ↔ BeyondList floor steps place
    go false b c p q r = (λ z. absurd (omega arith), λ d. absurd (eqb-false (length floor) 6400 p d.floor_full))
    go true true c p q r = (λ z. absurd (omega arith), λ d. absurd (true≢false (sym q ∙ d.list)))
    go true false true p q r = (
      λ z. record { floor_full = eqb-true (length floor) 6400 p; list = q; beyond = leb-true (length (steps_of steps)) place r },
      λ d. refl,
    )
    go true false false p q r = (
      λ z. absurd (never z),
      λ d. absurd (omega (arith, leb-false (length (steps_of steps)) place r, d.beyond)),
    )

-- ---- an answer

module _ (sight : Bool) (floor steps : List ℕ) (place : ℕ) where
  abbrev costs : List ℕ
  costs = costs_at floor (steps_of steps) place

  abbrev target : Target
  target = target_at sight floor (steps_of steps) place

  abbrev pub Promised : BuildAnswer → Type 0
  Promised r =
      (r ≡ field_answer_by sight floor steps place)
      × ((r.number ≡ 0 → FieldPlanned sight floor (steps_of steps) place r)
      × (AsLeg sight floor steps place r.number
      × (((r.number ≡ 21) ↔ BeyondList floor steps place) × ((r.number ≡ 0 → ⊥) → BuildRefused r))))

  told : (n : ℕ) → n ≡ field_number_by sight floor steps place → AsLeg sight floor steps place n × ((n ≡ 21) ↔ BeyondList floor steps place)
  told n e = (
    λ inside sheet full. e ∙ same_number floor steps place inside sheet full sight,
    subst (λ (m : ℕ). (m ≡ 21) ↔ BeyondList floor steps place) (sym e) (beyond_told sight floor steps place),
  )

  pub refuses : (n : ℕ) → n ≡ field_number_by sight floor steps place → (n ≡ 0 → ⊥) → (r : BuildAnswer) → r ≡ refusal n → Promised r
  unfolding field_answer_by
  refuses zero e h r q = absurd (h refl)
  refuses (suc n) e h r q =
      let number : r.number ≡ suc n = ap (λ (b : BuildAnswer). b.number) q in
      let t = told r.number (number ∙ e) in
      (q ∙ rw (← e), (λ z. absurd (h (sym number ∙ z)), (t.0, (t.1, build_refused (suc n) costs (started costs target) r q))))

  pub accepts : first_number (field_rows floor steps place) ≡ 0 → some_closed sight floor (steps_of steps) ≡ false
      → (r : BuildAnswer) → r ≡ answer_of 0 costs (started costs target) → Promised r
  unfolding field_answer_by
  accepts z o r e =
      let zero_number = none floor steps place sight z o in
      let inside = place_in floor steps place z in
      let j = judged_so floor steps place z in
      let sector_in = (plan.fits sight floor steps blank (ready j) j.sheet_full).in_floor place inside in
      let full = plan.part_hundred floor (sector_at (steps_of steps) place) j.floor_full sector_in in
      let t = told r.number (ap (λ (b : BuildAnswer). b.number) e ∙ sym zero_number) in
      let target_in = plan.target_at_law sight floor steps blank (ready j) j.sheet_full place inside in (
        e ∙ rw zero_number,
        (
          λ _. record {
            inside = inside;
            cells = ap (λ (b : BuildAnswer). b.field.field) e ∙ sym (built_is sight floor (steps_of steps) place);
            walks = rw e (demand3 costs target full target_in);
            positions = rw e (started_positions costs target full target_in);
          },
          (t.0, (t.1, build_refused 0 costs (started costs target) r e)),
        ),
      )
