-- What is promised of the field behind a leg.
-- Assumes nothing.
use Rattle.std.specs.Prelude.{◌≡◌, Bool, false, List, ℕ, ◌≤◌, ◌<◌, length}
use Rattle.route.specs.Step.{no_step_list}
use Rattle.step_list.specs.Steps.{steps_of}
use Rattle.integration_field.specs.declared.BuildAnswer.{BuildAnswer}
use Rattle.integration_walks.specs.Promise.{Demand3, StartedPositions}
use Rattle.leg_plan.specs.Leg.{leg_number_by}
use Rattle.leg_plan.specs.Promise.{costs_at, target_at, built_at}

-- of an accepted call: the cells are the leg's own built costs; demand 3 holds of them and of the count, over the target that the leg plans with; and each
-- position is that of the earliest corner with a walk that arrives at the cell's cost
pub record FieldPlanned (sight : Bool) (floor : List ℕ) (steps : List (List ℕ)) (place : ℕ) (r : BuildAnswer) : Type 0 where
  pub inside : place < length steps
  pub cells : r.field.field ≡ built_at sight floor steps place
  pub walks : Demand3 (costs_at floor steps place) (target_at sight floor steps place) r.field.field r.waves
  pub positions : StartedPositions (costs_at floor steps place) (target_at sight floor steps place) r.field.field r.field.positions

-- of its number, for a place in the list: it is that of the leg with any sheet of a floor
abbrev pub AsLeg : Bool → List ℕ → List ℕ → ℕ → ℕ → Type 0
AsLeg sight floor steps place n = place < length (steps_of steps) → (sheet : List ℕ) → length sheet ≡ 6400 → n ≡ leg_number_by sight floor steps sheet

-- and for one beyond the list: where it is 21, exactly if neither 1 nor 3 is due
pub record BeyondList (floor steps : List ℕ) (place : ℕ) : Type 0 where
  pub floor_full : length floor ≡ 6400
  pub list : no_step_list steps ≡ false
  pub beyond : length (steps_of steps) ≤ place
