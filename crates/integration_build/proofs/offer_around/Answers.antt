-- `integration_build::offer_around` meets its contract: a turn makes the offer in one direction, and after the last none are left.
-- Assumes nothing.
use mathlib.Core.Path.{sym, ◌∙◌}
use Rattle.utilities.specs.declared.CompassDir.TheVariants.{North}
use Rattle.utilities.specs.Compass.{orthogonal}
use Rattle.fields.specs.Cell.{cell_at}
use Rattle.integration_build.proofs.Loops.{around_step, around_end}
use Rattle.integration_build.proofs.offer_around.Goals as goal

pub loop-dir-preserved : goal.loop-dir-preserved
loop-dir-preserved c =
    let a = c.args in
    let l = c.loop-dir in
    record {
      offers_left = l.invariant.offers_left
          ∙ around_step a.costs.now a.value (cell_at a.from) orthogonal l.dir-index North _ _ c.loop-dir-test.true c.offer_towards.ensures.offers;
      changed = c.offer_towards.ensures.changes;
    }

pub returns-clause-offers : goal.returns-clause-offers
returns-clause-offers c =
    let a = c.args in
    let l = c.loop-dir in
    sym (l.invariant.offers_left ∙ around_end a.costs.now a.value (cell_at a.from) orthogonal l.dir-index l.cells c.loop-dir-test.false)
