-- `flow_build::look_from` meets its contract: the look of the cell goes on by what it sees where the step arrives.
-- Assumes nothing.
use Rattle.std.proofs.Common.{◌≡◌, ℕ, get_or, sym, ap, ◌∙◌}
use Rattle.fields.specs.declared.FieldCell.{FieldCell}
use Rattle.std.specs.Prelude.{Some}
use Rattle.fields.specs.Cell.{cell_at, index_of, stepped}
use Rattle.fields.proofs.Steps.{cell_of_index, index_below, stepped_cell}
use Rattle.flow_bits.specs.Byte.{bits_of}
use Rattle.flow_build.specs.Inner.{seen_key, key_after, bits_after}
use Rattle.flow_build.proofs.Passes.{on_cell}
use Rattle.flow_build.proofs.look_from.Goals as goal

pub seen_key-seen-requires : goal.seen_key-seen-requires
seen_key-seen-requires c =
    let e = sym c.get_in_compass_direction.ensures.answer ∙ c.in-Some.is in
    record { from_in = c.requires.0; to_in = (stepped_cell _ _ _ e).within; keys_are = c.requires.1 }

pub returns : goal.returns
returns c =
    let a = c.args in
    let i = index_of a.from in
    let cells = a.cells.now in
    let to = c.in-Some.to in
    let arrives : stepped (cell_at i) a.dir ≡ Some to =
    ap (λ (x : FieldCell). stepped x a.dir) (cell_of_index a.from c.requires.0) ∙ sym c.get_in_compass_direction.ensures.answer ∙ c.in-Some.is in
    let x = seen_key cells i (index_of to) in
    let key = get_or a.best.now i 0 in
    let found = get_or a.bits.now i 0 in
    let e = c.seen_key-seen.ensures in
    let pointed = c.convert_compass_dir_to_bits_dir-pointed in
    let k : c.key_after.result ≡ key_after x key = c.key_after.ensures ∙ ap (λ (y : ℕ). key_after y key) e in
    let b : c.bits_after.result ≡ bits_after x key (bits_of a.dir) found =
    c.bits_after.ensures
    ∙ ap (λ (y : ℕ). bits_after y key pointed.result found) e
    ∙ ap (λ (y : ℕ). bits_after x key y found) pointed.ensures in
    rw (k, b) (on_cell cells i (index_below a.from c.requires.0) a.dir a.best.now a.bits.now to arrives)
