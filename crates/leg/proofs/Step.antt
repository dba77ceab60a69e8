-- One step of a leg, and step after step.
--     lent_is                  a previous field as it is lent, by what it is lent from
--     made_target              the target that the program makes of a step is the step's, is inside the sector, and is closed where it is
--     made_lent                so of a step of a leg, with a previous field as it is lent
--     built_step               the field that the program builds of it is the step's
--     wrote_step               what writing the step leaves, where its sector's part is lent
--     from_first, from_more, from_last    planning step after step: before the first, a step more, and behind the last
--     shut_first, shut_here, shut_more, shut_last    whether a window from a place on is closed: before the first step, at a closed one, behind an
--                              open one, and behind the last
-- Assumes nothing.
use Rattle.std.specs.Prelude.{Option, Some, None, is_some, option_copied}
use Rattle.std.proofs.Common.{Bor}
use mathlib.Core.Path.{◌≡◌, refl, sym, ap, ap₂, subst, ◌∙◌}
use mathlib.Core.Bool.{Bool, true, false, ◌||◌}
use mathlib.Core.List.{List, [], ◌++◌}
use Prim.Native.Nat.{ℕ, ◌+◌, ◌*◌, ◌/◌, ◌<◌, ◌≤◌}
use lib.ListN.{length, take, drop}
use lib.Seq.{drop-drop}
use Rattle.route.specs.declared.Target as program
use Rattle.route.specs.Step.{sector_of, portal_of, step_number}
use Rattle.route.specs.Target.{Target, window_of}
use Rattle.route.specs.Inner.{listed_target, held_cells, held_target, own_window, TargetHeld}
use Rattle.route.proofs.Accepted.{accepted_step}
use Rattle.route.proofs.Targets.{held_listed, listed_held, held_window}
use Rattle.sector.specs.Sector.{sector_field, sector_bytes}
use Rattle.sector.specs.Inner.{flow_bytes}
use Rattle.flow_byte.specs.Previous.{given}
use Rattle.leg_counting.specs.Counting.{leg_target, is_closed}
use Rattle.leg_counting.specs.Inner.{found_closed}
use Rattle.leg_counting.proofs.Counting.{leg_target_in, closed_listed}
use Rattle.step_list.specs.Steps.{steps_of}
use Rattle.step_list.specs.Inner.{step_at}
use Rattle.step_list.proofs.Steps.{steps_from, from_start, from_here, from_done}
use Rattle.leg_plan.specs.Leg.{part, step_field, step_bytes, closed_from, some_closed, with_part, planned_from, planned}
use Rattle.leg_plan.specs.Inner.{LegReady}

-- a previous field that is kept, and as it is lent
abbrev pub numbers : Option (List ℕ) → List ℕ
numbers (Some previous) = previous
numbers None = []

pub lent_is : (o : Option (Bor (List ℕ))) (kept : Option (List ℕ)) → option_copied o ≡ kept → (is_some o ≡ is_some kept) × (given o ≡ numbers kept)
lent_is o kept e = subst (λ (k : Option (List ℕ)). (is_some o ≡ is_some k) × (given o ≡ numbers k)) e (go o)
  where
    go : (o : Option (Bor (List ℕ))) → (is_some o ≡ is_some (option_copied o)) × (given o ≡ numbers (option_copied o))
    go (Some previous) = (refl, refl)
    go None = (refl, refl)

-- a step's target as the program holds it; and the program finds a window closed exactly where it is
pub record StepTarget (sight : Bool) (step : List ℕ) (has : Bool) (previous : List ℕ) (t : program.Target) : Type 0 where
  pub sector_in : sector_of step < 64
  pub is : held_target t ≡ leg_target sight has previous step
  pub held : TargetHeld t
  pub closed_is : found_closed t ≡ is_closed (leg_target sight has previous step)

pub made_target : (sight : Bool) (step : List ℕ) → step_number step ≡ 0 → (has : Bool) (previous : List ℕ) {t : program.Target}
    → t ≡ listed_target (leg_target sight has previous step) → StepTarget sight step has previous t
made_target sight step accepted has previous {t} is =
    let target = leg_target sight has previous step in
    record {
      sector_in = (accepted_step step accepted).sector_in;
      is = ap held_target is ∙ held_listed target;
      held = subst TargetHeld (sym is) (listed_held target (leg_target_in sight has previous step accepted));
      closed_is = ap found_closed is ∙ closed_listed target;
    }

-- so of a step of a leg, with a previous field as it is lent
pub made_lent : (sight : Bool) {floor : List ℕ} (steps : List ℕ) → LegReady floor steps → (k : ℕ) → k < length steps / 8 → {step : List ℕ}
    → step ≡ step_at steps k → (kept : Option (List ℕ)) (o : Option (Bor (List ℕ))) → option_copied o ≡ kept → {t : program.Target}
    → t ≡ listed_target (leg_target sight (is_some o) (given o) step) → StepTarget sight step (is_some kept) (numbers kept) t
made_lent sight steps ready k h {step} at kept o e q =
    let n = lent_is o kept e in
    made_target sight step (ap step_number at ∙ ready.accepted k h) (is_some kept) (numbers kept) (rw (n.0, n.1) at q)

-- the field that is built of it
module _ (sight : Bool) (floor step : List ℕ) (has : Bool) (previous : List ℕ) {t : program.Target}
    (m : StepTarget sight step has previous t) {sector : ℕ} (own : sector ≡ sector_of step) {cells : List ℕ}
    (built : cells ≡ (sector_field (part floor sector) (held_target t)).field) where
  pub built_step : cells ≡ step_field sight floor has previous step
  built_step = built ∙ ap₂ (λ (n : ℕ) (u : Target). (sector_field (part floor n) u).field) own m.is

  window_is : held_cells (own_window t) ≡ window_of (leg_target sight has previous step)
  window_is = held_window t ∙ ap window_of m.is

  -- as the part is lent: by a length as it was worked out
  pub wrote_step : (sheet : List ℕ) {bytes : List ℕ} → bytes ≡ flow_bytes (Some (portal_of step)) (held_cells (own_window t)) cells has previous
      → (n : ℕ) → n ≡ 100
      → take (sector * 100) sheet ++ (bytes ++ drop n (drop (sector * 100) sheet))
      ≡ with_part sheet (sector_of step) (step_bytes sight floor has previous step)
  unfolding sector_bytes
  wrote_step sheet {bytes} q n f =
      let written : bytes ≡ step_bytes sight floor has previous step = q ∙ rw (window_is, built_step) in
      rw (f, written, own) (ap (λ (x : List ℕ). take (sector_of step * 100) sheet ++ (step_bytes sight floor has previous step ++ x))
      (drop-drop 100 (sector_of step * 100) sheet))

-- ---- step after step

module _ (sight : Bool) (floor steps : List ℕ) where
  -- before the first step there is no previous field
  pub from_first : (sheet : List ℕ) → planned sight floor (steps_of steps) sheet ≡ planned_from sight floor (steps_from steps 0) false [] sheet
  unfolding planned
  from_first sheet = rw (from_start steps)

  pub shut_first : some_closed sight floor (steps_of steps) ≡ closed_from sight floor (steps_from steps 0) false []
  unfolding some_closed
  shut_first = rw (from_start steps)

  -- a step, lent as this part of the bytes, and its built cells
  module _ {k : ℕ} (h : k < length steps / 8) {step : List ℕ} (e : step ≡ step_at steps k) (has : Bool) (previous : List ℕ) where
    pub from_more : {cells : List ℕ} (sheet : List ℕ) {after : List ℕ} → cells ≡ step_field sight floor has previous step
        → after ≡ with_part sheet (sector_of step) (step_bytes sight floor has previous step)
        → planned_from sight floor (steps_from steps k) has previous sheet ≡ planned_from sight floor (steps_from steps (k + 1)) true cells after
    unfolding planned_from
    from_more sheet p q = rw (from_here steps k h, p, q, e)

    -- and the program's test of its target
    module _ {t : program.Target} (p : StepTarget sight step has previous t) {b : Bool} (c : b ≡ found_closed t) where
      shut_at : closed_from sight floor (steps_from steps k) has previous
          ≡ (b || closed_from sight floor (steps_from steps (k + 1)) true (step_field sight floor has previous step))
      unfolding closed_from
      shut_at = rw (from_here steps k h, c, p.closed_is, e)

      pub shut_here : b ≡ true → closed_from sight floor (steps_from steps k) has previous ≡ true
      shut_here z = shut_at ∙ rw z

      pub shut_more : b ≡ false → {cells : List ℕ} → cells ≡ step_field sight floor has previous step
          → closed_from sight floor (steps_from steps k) has previous ≡ closed_from sight floor (steps_from steps (k + 1)) true cells
      shut_more z q = shut_at ∙ rw (z, q)

  -- behind the last step
  pub from_last : (k : ℕ) → length steps / 8 ≤ k → (has : Bool) (previous sheet : List ℕ)
      → planned_from sight floor (steps_from steps k) has previous sheet ≡ sheet
  unfolding planned_from
  from_last k h has previous sheet = rw (from_done steps k h)

  pub shut_last : (k : ℕ) → length steps / 8 ≤ k → (has : Bool) (previous : List ℕ) → closed_from sight floor (steps_from steps k) has previous ≡ false
  unfolding closed_from
  shut_last k h has previous = rw (from_done steps k h)
