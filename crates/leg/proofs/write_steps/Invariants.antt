-- `leg::write_steps` meets its contract. The loop's invariant: planning the steps from this place on, with the built cells of the step before, leaves
-- the sheet of the planned leg.
-- Assumes nothing.
use Rattle.std.proofs.Common.{◌≡◌, ℕ, Bool, List, Option, length, is_some}
use Rattle.step_list.specs.Steps.{steps_of}
use Rattle.step_list.proofs.Steps.{steps_from}
use Rattle.leg_plan.specs.Leg.{planned_from, planned}
use Rattle.leg.proofs.Step.{numbers}
use Rattle.leg.proofs.write_steps.Given as goal

pub record Left (sight : Bool) (floor steps sheet₀ : List ℕ) (k : ℕ) (previous : Option (List ℕ)) (sheet : List ℕ) : Type 0 where
  pub sheet_full : length sheet ≡ 6400
  pub comes_to : planned sight floor (steps_of steps) sheet₀ ≡ planned_from sight floor (steps_from steps k) (is_some previous) (numbers previous) sheet

abbrev pub invariant-loop-step : goal.invariant-loop-step
invariant-loop-step l = Left l.sight l.floor l.fn.steps l.initial.sheet l.step-index l.previous l.sheet
