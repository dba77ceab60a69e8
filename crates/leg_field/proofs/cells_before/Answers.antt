-- `leg_field::cells_before` meets its contract. The loop's invariant: the built cells of the step before this place are held.
-- Assumes nothing.
use Rattle.std.proofs.Common.{ap}
use Rattle.route.specs.declared.RouteStep.{RouteStep}
use Rattle.leg.proofs.Step.{made_lent}
use Rattle.leg_field.proofs.Built.{earlier, handed_on}
use Rattle.leg_field.proofs.cells_before.Goals as goal

pub build_step-requires : goal.build_step-requires
build_step-requires c =
    let a = c.args in
    let l = c.loop-step in
    let e = earlier a.steps.now a.place l.step-index c.as_chunks.ensures.front c.loop-step-test.true in
    let m = made_lent a.sight a.steps.now c.requires.0 l.step-index e.0 e.1 l.previous _ c.as_ref.ensures.value c.leg_target-target.ensures in
    record { floor_full = c.requires.0.floor_full; sector_in = rw (ap (λ (s : RouteStep). s.sector) c.new-sector.ensures) m.sector_in; target_held = m.held }

pub loop-step-preserved : goal.loop-step-preserved
loop-step-preserved c =
    let a = c.args in
    let l = c.loop-step in
    let e = earlier a.steps.now a.place l.step-index c.as_chunks.ensures.front c.loop-step-test.true in
    let m = made_lent a.sight a.steps.now c.requires.0 l.step-index e.0 e.1 l.previous _ c.as_ref.ensures.value c.leg_target-target.ensures in
    handed_on a.sight a.floor.now a.steps.now e.0 e.1 l.previous l.invariant m (ap (λ (s : RouteStep). s.sector) c.new-sector.ensures)
    c.build_step.ensures
