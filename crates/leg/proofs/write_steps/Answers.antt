-- `leg::write_steps` meets its contract: before the first step all is left to plan, a step more leaves that much less, and behind the last it is done.
-- Assumes nothing.
use Rattle.std.proofs.Common.{◌≤◌, ◌/◌, length, is_some, arith, sym, ap, ◌∙◌}
use Rattle.route.specs.Step.{step_number}
use Rattle.leg.proofs.Chunks.{chunk_here}
use Rattle.leg.proofs.Step.{numbers, lent_is, from_first, from_more, from_last}
use Rattle.leg.proofs.write_steps.Goals as goal

pub loop-step-init : goal.loop-step-init
loop-step-init c =
    record {
      sheet_full = c.requires.1;
      comes_to = from_first c.args.sight c.args.floor.now c.args.steps.now c.args.sheet.now;
    }

pub write_step-cells-requires : goal.write_step-cells-requires
write_step-cells-requires c =
    let steps = c.args.steps.now in
    let k = c.loop-step.step-index in
    let here = chunk_here steps k c.as_chunks.ensures.front c.loop-step-test.true in
    record {
      floor_full = c.requires.0.floor_full;
      accepted = ap step_number here.1 ∙ c.requires.0.accepted k here.0;
      sheet_full = c.loop-step.invariant.sheet_full;
    }

pub loop-step-preserved : goal.loop-step-preserved
loop-step-preserved c =
    let l = c.loop-step in
    let steps = c.args.steps.now in
    let here = chunk_here steps l.step-index c.as_chunks.ensures.front c.loop-step-test.true in
    let wrote = c.write_step-cells in
    let n = lent_is c.as_ref.result l.previous c.as_ref.ensures.value in
    record {
      sheet_full = omega (arith, l.invariant.sheet_full);
      comes_to =
          l.invariant.comes_to
          ∙ from_more c.args.sight c.args.floor.now steps here.0 here.1 (is_some l.previous)
          (numbers l.previous) l.sheet (rw (n.0, n.1) at wrote.ensures.cells) (rw (n.0, n.1) at wrote.ensures.wrote);
    }

pub returns : goal.returns
returns c =
    let l = c.loop-step in
    let steps = c.args.steps.now in
    let done : length steps / 8 ≤ l.step-index = omega (arith, c.as_chunks.ensures.front_len, c.loop-step-test.false) in
    sym (l.invariant.comes_to
    ∙ from_last c.args.sight c.args.floor.now steps l.step-index done (is_some l.previous) (numbers l.previous) l.sheet)
