-- `flow_build::seen_key` meets its contract: the diagonal rule, then the key at the neighbour's place.
-- Assumes nothing.
use Rattle.std.proofs.Common.{ℕ, List, get_or, sym, ap, ◌∙◌}
use Rattle.utilities.proofs.Lists.{table_at}
use Rattle.fields.specs.Cell.{index_of}
use Rattle.fields.proofs.Steps.{index_below}
use Rattle.integration_field.proofs.Diagonal.{passes_at}
use Rattle.flow_build.specs.Inner.{cell_key, seen_key}
use Rattle.flow_build.proofs.seen_key.Goals as goal

pub returns-then-passes_wall : goal.returns-then-passes_wall
unfolding seen_key
returns-then-passes_wall c =
    let a = c.args in
    rw (passes_at a.cells.now a.from a.to c.requires.from_in c.requires.to_in ∙ sym c.passes_wall.ensures ∙ c.if-passes_wall.true)

pub returns : goal.returns
unfolding seen_key
returns c =
    let a = c.args in
    let n = index_of a.to in
    let at : ℕ → ℕ = λ k. cell_key (get_or a.cells.now k 0) in
    rw (passes_at a.cells.now a.from a.to c.requires.from_in c.requires.to_in ∙ sym c.passes_wall.ensures ∙ c.if-passes_wall.false)
    (ap (λ (l : List ℕ). get_or l n 0) c.requires.keys_are ∙ table_at at 0 100 n (index_below a.to c.requires.to_in))
