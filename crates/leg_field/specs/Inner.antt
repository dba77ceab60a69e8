-- Contracts of functions beneath the call.
-- Assumes nothing.
use Rattle.std.specs.Prelude.{◌≡◌, Bool, List, ℕ, zero, suc, Option, Some, None}
use Rattle.integration_field.specs.declared.BuildAnswer.{BuildAnswer}
use Rattle.integration_field.specs.Answer.{answer_of}
use Rattle.integration_started.specs.Started.{started}
use Rattle.step_list.specs.Steps.{steps_of}
use Rattle.leg_plan.specs.Promise.{costs_at, target_at, built_at}

-- the built cells of the step before the one at a place, if there is one
abbrev pub Handed : Bool → List ℕ → List ℕ → ℕ → Option (List ℕ) → Type 0
Handed sight floor steps zero previous = previous ≡ None
Handed sight floor steps (suc j) previous = previous ≡ Some (built_at sight floor (steps_of steps) j)

-- the field of the step at a place, with positions
abbrev pub FieldAt : Bool → List ℕ → List (List ℕ) → ℕ → BuildAnswer → Type 0
FieldAt sight floor steps place r = r ≡ answer_of 0 (costs_at floor steps place) (started (costs_at floor steps place) (target_at sight floor steps place))
