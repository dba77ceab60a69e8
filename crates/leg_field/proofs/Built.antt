-- The step at a place of a leg, with the built cells of the step before.
--     earlier         a step before the place, by its place
--     target_is       what it starts from, with what the step before hands it, is what the leg says
--     handed_on       so its built cells, the leg's, are what it hands on
--     answer_at       and its field, with positions, is that of its sector's costs and its target
-- Assumes nothing.
use mathlib.Core.Path.{◌≡◌, sym, ap, ap₂, ◌∙◌}
use mathlib.Core.Bool.{Bool}
use mathlib.Core.List.{List, []}
use Prim.Native.Nat.{ℕ, zero, suc, ◌+◌, ◌/◌, ◌<◌}
use lib.ListN.{length, get_or, take, length-take}
use lib.Seq.{get_or-take}
use native.Mathlib.Omega.{arith}
use native.Mathlib.Numerals.{add-one}
use Rattle.std.specs.Simd.{first_chunks}
use Rattle.std.specs.Prelude.{Option, Some, is_some}
use Rattle.route.specs.declared.Target as program
use Rattle.route.specs.Step.{sector_of}
use Rattle.route.specs.Target.{Target, to_window, by_sight, target_of}
use Rattle.route.specs.Inner.{held_target}
use Rattle.integration_field.specs.declared.BuildAnswer.{BuildAnswer}
use Rattle.integration_field.specs.Answer.{answer_of}
use Rattle.integration_started.specs.Started.{started}
use Rattle.sector.specs.Sector.{sector_field}
use Rattle.leg_counting.specs.Counting.{counting_cells, leg_target}
use Rattle.step_list.specs.Steps.{steps_of}
use Rattle.step_list.specs.Inner.{step_at}
use Rattle.step_list.proofs.Steps.{step_of_law}
use Rattle.leg_plan.specs.Leg.{part}
use Rattle.leg_plan.specs.Promise.{costs_at, target_at, built_at}
use Rattle.leg_plan.proofs.Sheet.{built_is}
use Rattle.leg.proofs.Chunks.{chunk_here}
use Rattle.leg.proofs.Step.{numbers, StepTarget}
use Rattle.leg_field.specs.Inner.{Handed, FieldAt}

pub earlier : (steps : List ℕ) (place k : ℕ) {chunks : List (List ℕ)} → chunks ≡ first_chunks 8 (length steps / 8) steps
    → k < length (take place chunks) → (k < length steps / 8) × (get_or (take place chunks) k [] ≡ step_at steps k)
earlier steps place k {chunks} cut h =
    let before : k < place = omega (arith, length-take place chunks) in
    let here = chunk_here steps k cut (omega (arith, length-take place chunks)) in
    (here.0, get_or-take place chunks k [] before ∙ here.1)

module _ (sight : Bool) (floor steps : List ℕ) where
  -- of the step at a place: its costs, and its target
  abbrev costs : ℕ → List ℕ
  costs k = costs_at floor (steps_of steps) k

  abbrev target : ℕ → Target
  target k = target_at sight floor (steps_of steps) k

  target_is : (k : ℕ) → k < length steps / 8 → (previous : Option (List ℕ)) → Handed sight floor steps k previous
      → leg_target sight (is_some previous) (numbers previous) (step_at steps k) ≡ target k
  target_is zero h previous handed = rw handed (ap (λ (s : List ℕ). by_sight sight (target_of s)) (sym (step_of_law steps zero h)))
  target_is (suc j) h previous handed =
      rw handed (ap (λ (s : List ℕ). to_window (counting_cells (built_at sight floor (steps_of steps) j) s)) (sym (step_of_law steps (suc j) h)))

  -- the step, lent as this part of the bytes, and its target as the program holds it
  module _ {k : ℕ} (h : k < length steps / 8) {step : List ℕ} (e : step ≡ step_at steps k) (previous : Option (List ℕ))
      (handed : Handed sight floor steps k previous) {t : program.Target} (made : StepTarget sight step (is_some previous) (numbers previous) t)
      {sector : ℕ} (own : sector ≡ sector_of step) where
    on_target : held_target t ≡ target k
    on_target = made.is ∙ ap (leg_target sight (is_some previous) (numbers previous)) e ∙ target_is k h previous handed

    on_costs : part floor sector ≡ costs k
    on_costs = ap (part floor) (own ∙ ap sector_of (e ∙ sym (step_of_law steps k h)))

    cells_at : {cells : List ℕ} → cells ≡ (sector_field (part floor sector) (held_target t)).field → cells ≡ built_at sight floor (steps_of steps) k
    cells_at q =
        q ∙ ap₂ (λ (c : List ℕ) (u : Target). (sector_field c u).field) on_costs on_target
        ∙ sym (built_is sight floor (steps_of steps) k)

    pub handed_on : {cells : List ℕ} → cells ≡ (sector_field (part floor sector) (held_target t)).field → Handed sight floor steps (k + 1) (Some cells)
    handed_on q = rw (add-one k) (ap Some (cells_at q))

    pub answer_at : {r : BuildAnswer} → r ≡ answer_of 0 (part floor sector) (started (part floor sector) (held_target t))
        → FieldAt sight floor (steps_of steps) k r
    answer_at q = q ∙ ap₂ (λ (c : List ℕ) (u : Target). answer_of 0 c (started c u)) on_costs on_target
