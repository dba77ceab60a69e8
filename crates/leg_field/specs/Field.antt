-- The field behind a leg, our own addition (docs/DECISIONS.md): a floor, a leg's steps, and the place of a step in the list. It answers that step's built
-- field as the leg plans it, over the cells that count, with the position of each cell's corner (02, "Job 2" and "Job 10"), and its wave count.
-- Assumes nothing.
use Rattle.std.specs.Prelude.{Bool, not, List, [], ◌∷◌, ◌++◌, ℕ, leb, eqb, length}
use Rattle.route.specs.Table.{Row, row, first_number}
use Rattle.route.specs.Step.{no_step_list}
use Rattle.step_list.specs.Steps.{steps_of}
use Rattle.integration_field.specs.declared.BuildAnswer.{BuildAnswer}
use Rattle.integration_field.specs.Answer.{answer_of}
use Rattle.integration_started.specs.Started.{started}
use Rattle.leg_plan.specs.Leg.{each_rows, out_of_order, disconnected, some_closed}
use Rattle.leg_plan.specs.Promise.{costs_at, target_at}

-- the leg's lines without 2, and behind 3 the line 21: a place beyond the list
unfoldable pub field_rows : List ℕ → List ℕ → ℕ → List Row
field_rows floor steps place =
    row 1 (not (eqb (length floor) 6400))
    ∷ row 3 (no_step_list steps)
    ∷ row 21 (leb (length (steps_of steps)) place)
    ∷ (each_rows floor (steps_of steps) ++ (row 9 (out_of_order (steps_of steps)) ∷ row 10 (disconnected (steps_of steps)) ∷ []))

-- the call's number: that of the first of these lines, and 15 after 10, where a window of any step of the leg has no counting cell
unfoldable pub field_number_by : Bool → List ℕ → List ℕ → ℕ → ℕ
field_number_by sight floor steps place = first_number (field_rows floor steps place ++ (row 15 (some_closed sight floor (steps_of steps)) ∷ []))

-- what the call answers; a refusal has every other part zero
unfoldable pub field_answer_by : Bool → List ℕ → List ℕ → ℕ → BuildAnswer
field_answer_by sight floor steps place =
    let costs = costs_at floor (steps_of steps) place in
    answer_of (field_number_by sight floor steps place) costs (started costs (target_at sight floor (steps_of steps) place))
