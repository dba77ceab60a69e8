-- `flow_following::first_trail` meets its contract: whether the byte has arrived, then where its step leads.
-- Assumes nothing.
use Rattle.std.proofs.Common.{◌≡◌, ℕ, ◌<◌, sym, ◌∙◌, arith}
use Rattle.std.specs.Prelude.{Some}
use Rattle.fields.specs.Cell.{cell_at, index_of, index_or, stepped}
use Rattle.fields.specs.declared.FieldCell.{FieldCell}
use Rattle.fields.proofs.Steps.{stepped_cell, index_told}
use Rattle.flow_bits.specs.Byte.{dir_of}
use Rattle.flow_following.proofs.first_trail.Goals as goal

-- the index of the next cell
next_index : (byte index led : ℕ) (to : FieldCell) → stepped (cell_at index) (dir_of byte) ≡ Some to → led ≡ index_or 100 to
    → (led ≡ index_of to) × (led < 100)
next_index byte index led to leads e = index_told (stepped_cell _ _ _ leads).within e

pub overflow_cast-result : goal.overflow_cast-result
overflow_cast-result c =
    let i = next_index c.args.byte c.args.index _ c.in-Some.to (sym c.next_cell.ensures ∙ c.in-Some.is) c.as_1d_index.ensures in
    omega (arith, i.1)

pub overflow_add-result-2 : goal.overflow_add-result-2
overflow_add-result-2 c =
    let i = next_index c.args.byte c.args.index _ c.in-Some.to (sym c.next_cell.ensures ∙ c.in-Some.is) c.as_1d_index.ensures in
    omega (arith, i.1)

pub returns : goal.returns
returns c =
    let leads = sym c.next_cell.ensures ∙ c.in-Some.is in
    let i = next_index c.args.byte c.args.index _ c.in-Some.to leads c.as_1d_index.ensures in
    sym (rw (sym c.is_arrival.ensures ∙ c.if-is_arrival.false, leads) (omega (arith, i.0)))
