-- `bounds_sure::permitted_towards` meets its contract: nothing is found outside the sector or where the look passes over, else the cell there.
-- Assumes nothing.
use Rattle.std.proofs.Common.{◌≡◌, ℕ, ◌<◌, Bool, List, sym, ap, ◌∙◌, arith}
use Rattle.std.specs.Prelude.{Some, None}
use Rattle.utilities.specs.declared.CompassDir.{CompassDir}
use Rattle.fields.specs.declared.FieldCell.{FieldCell}
use Rattle.fields.specs.Cell.{stepped, cell_at, index_of, index_or}
use Rattle.fields.proofs.Steps.{stepped_cell, step_told, index_told, index_of_cell, cell_inside}
use Rattle.flow_byte.specs.Look.{is_passed_over}
use Rattle.bounds_sure.proofs.Loops.{along_outside, along_passed, along_found}
use Rattle.bounds_sure.proofs.permitted_towards.Goals as goal

-- the answer of the test is of the index
tested : (cells : List ℕ) (i : ℕ) (from to : FieldCell) {b : Bool} → from ≡ cell_at i → b ≡ is_passed_over cells (index_of from) (index_of to)
    → is_passed_over cells i (index_of to) ≡ b
tested cells i from to e f =
    let g : index_of from ≡ i = ap index_of e ∙ index_of_cell i in
    ap (λ (j : ℕ). is_passed_over cells j (index_of to)) (sym g) ∙ sym f

-- the index of the cell there
index : (i : ℕ) (d : CompassDir) (to : FieldCell) (n : ℕ) → stepped (cell_at i) d ≡ Some to → n ≡ index_or 100 to → (n ≡ index_of to) × (n < 100)
index i d to n arrives e = index_told (stepped_cell (cell_at i) d to arrives).within e

pub returns-in_default-clause-found : goal.returns-in_default-clause-found
returns-in_default-clause-found c =
    let a = c.args in
    let outside : stepped (cell_at a.index) a.dir ≡ None
    = step_told a.index a.dir c.from_index-from.ensures c.get_in_compass_direction.ensures.answer c.in_default.is in
    sym (along_outside a.cells.now a.index a.dir outside)

pub is_passed_over-requires : goal.is_passed_over-requires
is_passed_over-requires c =
    let a = c.args in
    let arrives : stepped (cell_at a.index) a.dir ≡ Some c.in-Some.to
    = step_told a.index a.dir c.from_index-from.ensures c.get_in_compass_direction.ensures.answer c.in-Some.is in
    (rw c.from_index-from.ensures (cell_inside a.index c.requires), (stepped_cell (cell_at a.index) a.dir c.in-Some.to arrives).within)

pub returns-then-is_passed_over-clause-found : goal.returns-then-is_passed_over-clause-found
returns-then-is_passed_over-clause-found c =
    let a = c.args in
    let arrives : stepped (cell_at a.index) a.dir ≡ Some c.in-Some.to
    = step_told a.index a.dir c.from_index-from.ensures c.get_in_compass_direction.ensures.answer c.in-Some.is in
    let passed = tested a.cells.now a.index _ c.in-Some.to c.from_index-from.ensures c.is_passed_over.ensures ∙ c.if-is_passed_over.true in
    sym (along_passed a.cells.now a.index a.dir c.in-Some.to arrives passed)

pub overflow_cast-result : goal.overflow_cast-result
overflow_cast-result c =
    let a = c.args in
    let arrives : stepped (cell_at a.index) a.dir ≡ Some c.in-Some.to
    = step_told a.index a.dir c.from_index-from.ensures c.get_in_compass_direction.ensures.answer c.in-Some.is in
    let n = index a.index a.dir c.in-Some.to _ arrives c.as_1d_index.ensures in
    omega (arith, n.1)

pub returns-clause-found : goal.returns-clause-found
returns-clause-found c =
    let a = c.args in
    let arrives : stepped (cell_at a.index) a.dir ≡ Some c.in-Some.to
    = step_told a.index a.dir c.from_index-from.ensures c.get_in_compass_direction.ensures.answer c.in-Some.is in
    let n = index a.index a.dir c.in-Some.to _ arrives c.as_1d_index.ensures in
    let passed = tested a.cells.now a.index _ c.in-Some.to c.from_index-from.ensures c.is_passed_over.ensures ∙ c.if-is_passed_over.false in
    rw n.0 (sym (along_found a.cells.now a.index a.dir c.in-Some.to arrives passed))

pub returns-clause-inside : goal.returns-clause-inside
returns-clause-inside c =
    let a = c.args in
    let arrives : stepped (cell_at a.index) a.dir ≡ Some c.in-Some.to
    = step_told a.index a.dir c.from_index-from.ensures c.get_in_compass_direction.ensures.answer c.in-Some.is in
    let n = index a.index a.dir c.in-Some.to _ arrives c.as_1d_index.ensures in
    n.1
