-- The call `new` by hand: its number, and the sheet that it leaves (01, "A leg": numbers 2, 3, 4 to 8, 12).
-- Assumes nothing.
use Rattle.std.specs.Prelude.{Bool, cond, not, ◌&&◌, List, [], ◌∷◌, ℕ, ltb, eqb, length}
use Rattle.route.specs.Table.{row, first_number}
use Rattle.route.specs.Step.{step_number}
use Rattle.flow_byte.specs.New.{flow_new}

-- 12 for a previous field lent as other than 100 numbers
abbrev pub misfit_number : Bool → List ℕ → ℕ
misfit_number has previous = cond (has && not (eqb (length previous) 100)) 12 0

-- 2, the step's 3 to 8, and 12 for a previous field lent as other than 100 numbers
unfoldable pub new_number : List ℕ → Bool → List ℕ → List ℕ → ℕ
new_number step has previous sheet =
    first_number (
    row 2 (not (eqb (length sheet) 100))
    ∷ row (step_number step) (ltb 0 (step_number step))
    ∷ row 12 (has && not (eqb (length previous) 100))
    ∷ []
    )

-- the sheet that it leaves; a refused call writes nothing
abbrev pub new_sheet : List ℕ → List ℕ → Bool → List ℕ → List ℕ → List ℕ
new_sheet step cells has previous sheet = cond (eqb (new_number step has previous sheet) 0) (flow_new step cells has previous) sheet
