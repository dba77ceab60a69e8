-- The sector call (01, "A leg"): 100 cost bytes, one step, a sheet of 100 bytes and, if wanted, a previous field; it answers the built field
-- and its wave count, and writes the sheet.
-- Assumes nothing.
use Rattle.std.specs.Prelude.{Bool, cond, not, ◌&&◌, List, [], ◌∷◌, ℕ, eqb, length}
use Rattle.route.specs.Table.{row, first_number}
use Rattle.route.specs.declared.PortalWindow.{PortalWindow}
use Rattle.route.specs.Step.{is_window, portal_of, step_number_on}
use Rattle.route.specs.Target.{Target, window_of, by_sight, target_of}
use Rattle.integration_field.specs.declared.IntegrationField.{IntegrationField}
use Rattle.integration_field.specs.declared.BuildAnswer.{BuildAnswer}
use Rattle.integration_field.specs.Built.{built_field}
use Rattle.integration_field.specs.Answer.{answer_of}
use Rattle.integration_started.specs.Started.{started}
use Rattle.flow_byte.specs.New.{new_bytes}
use Rattle.flow_byte.specs.Look.{flow_build}

-- 17 (02, "Job 8"): a window, of one cell too, without a previous field
abbrev pub lacks_previous : List ℕ → Bool → Bool
lacks_previous step has = is_window step && not has

-- its number: the table's lines 1 and 2, the step's 3 to 8 and 16 (02, "Job 3"), 17 (02, "Job 8": after 16), and 12
unfoldable pub sector_number : List ℕ → List ℕ → Bool → List ℕ → List ℕ → ℕ
sector_number costs step has previous sheet =
    first_number (
    row 1 (not (eqb (length costs) 100))
    ∷ row 2 (not (eqb (length sheet) 100))
    ∷ row (step_number_on costs step) (not (eqb (step_number_on costs step) 0))
    ∷ row 17 (lacks_previous step has)
    ∷ row 12 (has && not (eqb (length previous) 100))
    ∷ []
    )

-- A sector's run over a target: the built field, started and built on the costs it was started with ..
abbrev pub sector_field : List ℕ → Target → IntegrationField
sector_field costs target = built_field costs (started costs target)

-- .. and its 100 bytes (01, "Flow byte"): the flow field of the built field, new and built; `portal` is the step's window, whole
unfoldable pub sector_bytes : List ℕ → Target → PortalWindow → Bool → List ℕ → List ℕ
sector_bytes costs target portal has previous =
    let cells = (sector_field costs target).field in
    flow_build cells (new_bytes portal (window_of target) cells has previous)

-- what the call answers: its number, the built field of the step's target and its wave count; a refusal has every other part zero
abbrev pub sector_answer : List ℕ → List ℕ → Bool → List ℕ → List ℕ → BuildAnswer
sector_answer costs step has previous sheet = answer_of (sector_number costs step has previous sheet) costs (started costs (target_of step))

-- what it leaves of the sheet: a refusal writes nothing
abbrev pub sector_sheet : List ℕ → List ℕ → Bool → List ℕ → List ℕ → List ℕ
sector_sheet costs step has previous sheet =
    cond (eqb (sector_number costs step has previous sheet) 0) (sector_bytes costs (target_of step) (portal_of step) has previous) sheet

-- ---- with the sight of a goal, or without: its number is the same, since no field decides it

abbrev pub sector_answer_by : Bool → List ℕ → List ℕ → Bool → List ℕ → List ℕ → BuildAnswer
sector_answer_by sight costs step has previous sheet =
    answer_of (sector_number costs step has previous sheet) costs (started costs (by_sight sight (target_of step)))

abbrev pub sector_sheet_by : Bool → List ℕ → List ℕ → Bool → List ℕ → List ℕ → List ℕ
sector_sheet_by sight costs step has previous sheet =
    cond (eqb (sector_number costs step has previous sheet) 0) (sector_bytes costs (by_sight sight (target_of step)) (portal_of step) has previous) sheet
