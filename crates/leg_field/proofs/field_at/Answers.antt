-- `leg_field::field_at` meets its contract: the step at the place, with the built cells of the step before.
-- Assumes nothing.
use Rattle.std.proofs.Common.{ap}
use Rattle.route.specs.declared.RouteStep.{RouteStep}
use Rattle.leg.proofs.Chunks.{chunk_at}
use Rattle.leg.proofs.Step.{made_lent}
use Rattle.leg_field.proofs.Built.{answer_at}
use Rattle.leg_field.proofs.field_at.Goals as goal

pub field_of-requires : goal.field_of-requires
field_of-requires c =
    let a = c.args in
    let at = chunk_at a.steps.now a.place c.requires.1 c.as_chunks.ensures.front in
    let m = made_lent a.sight a.steps.now c.requires.0 a.place c.requires.1 at c.cells_before-previous.result _ c.as_ref.ensures.value c.leg_target-target.ensures in
    record { floor_full = c.requires.0.floor_full; sector_in = rw (ap (λ (s : RouteStep). s.sector) c.new.ensures) m.sector_in; target_held = m.held }

pub returns : goal.returns
returns c =
    let a = c.args in
    let at = chunk_at a.steps.now a.place c.requires.1 c.as_chunks.ensures.front in
    let m = made_lent a.sight a.steps.now c.requires.0 a.place c.requires.1 at c.cells_before-previous.result _ c.as_ref.ensures.value c.leg_target-target.ensures in
    answer_at a.sight a.floor.now a.steps.now c.requires.1 at c.cells_before-previous.result c.cells_before-previous.ensures m
    (ap (λ (s : RouteStep). s.sector) c.new.ensures) c.field_of.ensures
