-- `integration_build::offer_wave` meets its contract: a turn makes the offers of one cell, and after the last none are left.
-- Assumes nothing.
use mathlib.Core.Path.{sym, ◌∙◌}
use Rattle.fields.specs.CellList.{held}
use Rattle.integration_build.proofs.Loops.{wave_step, wave_end}
use Rattle.integration_build.proofs.offer_wave.Goals as goal

pub loop-cell-preserved : goal.loop-cell-preserved
loop-cell-preserved c =
    let l = c.loop-cell in
    record {
      offers_left = l.invariant.offers_left
          ∙ wave_step _ _ _ l.cell-index _ _ _ _ c.loop-cell-test.true c.from-from.ensures c.low_bits-value.ensures c.offer_around.ensures.offers;
      changed = c.offer_around.ensures.changes;
    }

pub returns-clause-offers : goal.returns-clause-offers
returns-clause-offers c =
    let l = c.loop-cell in
    sym (l.invariant.offers_left ∙ wave_end c.args.costs.now c.args.before.now (held c.args.wave.now) l.cell-index l.cells c.loop-cell-test.false)
