-- `leg::is_some_closed` meets its contract: at a closed window, behind an open one, and behind the last step.
-- Assumes nothing.
use Rattle.std.proofs.Common.{◌+◌, ◌/◌, ◌≤◌, true, length, is_some, arith, refl, sym, ap, ◌∙◌}
use Rattle.route.specs.declared.RouteStep.{RouteStep}
use Rattle.leg.proofs.Chunks.{chunk_here}
use Rattle.leg.proofs.Step.{numbers, made_lent, built_step, shut_first, shut_here, shut_more, shut_last}
use Rattle.leg.proofs.is_some_closed.Goals as goal

pub loop-k-init : goal.loop-k-init
loop-k-init c = shut_first c.args.sight c.args.floor.now c.args.steps.now

pub returns-then-is_closed : goal.returns-then-is_closed
returns-then-is_closed c =
    let l = c.loop-k in
    let steps = c.args.steps.now in
    let here = chunk_here steps l.k c.as_chunks.ensures.front c.loop-k-test.true in
    let m = made_lent c.args.sight steps c.requires l.k here.0 here.1 l.previous _ c.as_ref.ensures.value c.leg_target-target.ensures in
    sym (l.invariant
    ∙ shut_here c.args.sight c.args.floor.now steps here.0 here.1 _ _ m c.is_closed.ensures c.if-is_closed.true)

-- no window is closed where the last step's is open
pub returns-then-k-steps : goal.returns-then-k-steps
returns-then-k-steps c =
    let l = c.loop-k in
    let steps = c.args.steps.now in
    let here = chunk_here steps l.k c.as_chunks.ensures.front c.loop-k-test.true in
    let m = made_lent c.args.sight steps c.requires l.k here.0 here.1 l.previous _ c.as_ref.ensures.value c.leg_target-target.ensures in
    let done : length steps / 8 ≤ l.k + 1 = omega (arith, c.as_chunks.ensures.front_len, c.if-k-steps.true) in
    sym (l.invariant
    ∙ shut_more c.args.sight c.args.floor.now steps here.0 here.1 _ _ m c.is_closed.ensures c.if-is_closed.false refl
    ∙ shut_last c.args.sight c.args.floor.now steps (l.k + 1) done true _)

pub build_step-requires : goal.build_step-requires
build_step-requires c =
    let l = c.loop-k in
    let steps = c.args.steps.now in
    let here = chunk_here steps l.k c.as_chunks.ensures.front c.loop-k-test.true in
    let m = made_lent c.args.sight steps c.requires l.k here.0 here.1 l.previous _ c.as_ref.ensures.value c.leg_target-target.ensures in
    let own = ap (λ (s : RouteStep). s.sector) c.new-sector.ensures in
    record { floor_full = c.requires.floor_full; sector_in = rw own m.sector_in; target_held = m.held }

pub loop-k-preserved : goal.loop-k-preserved
loop-k-preserved c =
    let l = c.loop-k in
    let floor = c.args.floor.now in
    let steps = c.args.steps.now in
    let here = chunk_here steps l.k c.as_chunks.ensures.front c.loop-k-test.true in
    let m = made_lent c.args.sight steps c.requires l.k here.0 here.1 l.previous _ c.as_ref.ensures.value c.leg_target-target.ensures in
    let own = ap (λ (s : RouteStep). s.sector) c.new-sector.ensures in
    l.invariant
    ∙ shut_more c.args.sight floor steps here.0 here.1 _ _ m c.is_closed.ensures c.if-is_closed.false
    (built_step c.args.sight floor _ (is_some l.previous) (numbers l.previous) m own c.build_step.ensures)

pub returns : goal.returns
returns c =
    let l = c.loop-k in
    let steps = c.args.steps.now in
    let done : length steps / 8 ≤ l.k = omega (arith, c.as_chunks.ensures.front_len, c.loop-k-test.false) in
    sym (l.invariant ∙ shut_last c.args.sight c.args.floor.now steps l.k done (is_some l.previous) (numbers l.previous))
