-- The call `build` by hand: its number, and the sheet that it leaves (01, "A leg": number 2).
-- Assumes nothing.
use Rattle.std.specs.Prelude.{cond, not, List, [], ◌∷◌, ℕ, eqb, length}
use Rattle.route.specs.Table.{row, first_number}
use Rattle.flow_byte.specs.Look.{flow_build}

-- its number: 2 for a sheet that is not 100 bytes, else 0
unfoldable pub build_number : List ℕ → ℕ
build_number sheet = first_number (row 2 (not (eqb (length sheet) 100)) ∷ [])

-- the sheet that it leaves; a refused call writes nothing
abbrev pub build_sheet : List ℕ → List ℕ → List ℕ
build_sheet cells sheet = cond (eqb (build_number sheet) 0) (flow_build cells sheet) sheet
