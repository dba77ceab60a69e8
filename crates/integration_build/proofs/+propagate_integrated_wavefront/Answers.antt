-- `integration_build::propagate_integrated_wavefront` meets its contract: no wave is left, or none changes a cell, or one does and the others go on.
-- Assumes nothing.
use Prim.Native.Nat.{◌+◌}
use native.Mathlib.Omega.{arith}
use Rattle.integration_build.proofs.Recursion.{settles_none, settles_empty, settles_still, settles_more, settles_on}
use Rattle.integration_build.proofs.+propagate_integrated_wavefront.Goals as goal

pub returns-then-falling-eq0 : goal.returns-then-falling-eq0
returns-then-falling-eq0 t c = settles_on (rw c.if-falling-eq0.true (settles_none _ _ _))

pub returns-then-wavefront-eq0 : goal.returns-then-wavefront-eq0
returns-then-wavefront-eq0 t c = settles_on (settles_empty _ _ _ _ c.if-wavefront-eq0.true)

pub returns-then-next-eq0 : goal.returns-then-next-eq0
returns-then-next-eq0 t c =
    let made = c.offer_wave.ensures in
    settles_on (settles_still _ _ _ _ _ c.requires.full made.offers made.changes _ c.if-next-eq0.true)

pub returns : goal.returns
returns t c =
    let made = c.offer_wave.ensures in
    let rest = c.propagate_integrated_wavefront.ensures in
    record {
      more = rest.more + 1;
      counted_on = omega (arith, rest.counted_on);
      settles = settles_more _ _ _ _ _ c.requires.full made.offers made.changes _ _ _ c.if-falling-eq0.false c.if-next-eq0.false rest.settles;
    }
