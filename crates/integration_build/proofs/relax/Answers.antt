-- `integration_build::relax` meets its contract. What it writes where the definition does not is the cell's own value.
-- Assumes nothing.
use mathlib.Core.Path.{sym, ◌∙◌}
use native.Mathlib.Omega.{arith}
use lib.Seq.{set-get_or}
use Rattle.integration_field.specs.Wave.{relaxed}
use Rattle.integration_build.proofs.Changed.{changed_few, changed_offer}
use Rattle.integration_build.proofs.relax.Goals as goal
use Rattle.integration_build.proofs.relax.Goals.{then-written, else-written}

pub push_if-requires : goal.push_if-requires
push_if-requires c = omega (arith, changed_few c.requires.changed)

pub returns-clause-offers : goal.returns-clause-offers
unfolding relaxed
returns-clause-offers c =
    let a = c.args in
    let test = sym c.is_written-written.ensures in
    elim c.if-written.branch [
      | then-written w ↦ rw (w.new-is, test ∙ w.if-written.true)
      | else-written w ↦ rw (w.new-is, test ∙ w.if-written.false) (set-get_or a.cells.now a.index 0)
    ]

pub returns-clause-changes : goal.returns-clause-changes
returns-clause-changes c =
    let a = c.args in
    let p = c.requires in
    changed_offer p.changed a.index p.inside a.sum p.not_below (returns-clause-offers c) c.is_written-written.ensures c.is_first-first.ensures c.push_if.ensures
