-- `sector::plan_by_sight` meets its contract: refused by its number, or what the run of its step's target leaves.
-- Assumes nothing.
use Rattle.std.proofs.Common.{is_some, refl, sym, ap, ◌∙◌, arith}
use Rattle.refusals.proofs.Numbers.{not_zero}
use Rattle.flow_byte.specs.Previous.{given}
use Rattle.route.specs.declared.RouteStep.{RouteStep}
use Rattle.route.proofs.Targets.{seen_target, seen_held}
use Rattle.sector.proofs.Numbers.{one_due, two_due, accepted}
use Rattle.sector.proofs.Planned.{refuses, ran}
use Rattle.sector.proofs.plan_by_sight.Goals as goal

pub returns-in_default : goal.returns-in_default
returns-in_default c =
    let a = c.args in
    let n = c.number.ensures ∙ one_due a.costs.now a.step.now (is_some a.previous) (given a.previous) a.sheet.now c.in_default.ensures.1 in
    refuses a.sight a.costs.now a.step.now (is_some a.previous) (given a.previous) a.sheet.now _ n (λ z. omega (arith, z, c.number.ensures))
    _ c.refused.ensures _ refl

pub returns-in_default-as_mut_array : goal.returns-in_default-as_mut_array
returns-in_default-as_mut_array c =
    let a = c.args in
    let d = c.number-in_default-as_mut_array in
    let n = d.ensures
    ∙ two_due a.costs.now a.step.now (is_some a.previous) (given a.previous) a.sheet.now c.in-Ok.ensures.1.long c.in_default-as_mut_array.ensures.cases in
    refuses a.sight a.costs.now a.step.now (is_some a.previous) (given a.previous) a.sheet.now _ n (λ z. omega (arith, z, d.ensures))
    _ c.refused-in_default-as_mut_array.ensures _ refl

pub run-requires : goal.run-requires
run-requires c =
    let a = c.args in
    let long = c.in-Some.ensures.cases.long in
    let zero = c.in-Ok-accepted_previous.ensures.number a.sheet.now long in
    let ok = accepted _ a.step.now _ _ a.sheet.now (sym zero) in
    let target = c.as_target-target in
    seen_held a.step.now c.new-route_step.result target.result c.new-route_step.ensures target.ensures a.sight c.by_sight.result c.by_sight.ensures ok.step_good

-- costs are bytes
pub returns-in-Ok-accepted_previous : goal.returns-in-Ok-accepted_previous
returns-in-Ok-accepted_previous c =
    let a = c.args in
    let own = c.in-Ok.ensures.1.same in
    let step = c.new-route_step in
    let made = c.as_target-target in
    let lent = c.in-Ok-accepted_previous in
    let zero = rw own at (lent.ensures.number a.sheet.now c.in-Some.ensures.cases.long) in
    ran a.sight a.costs.now a.step.now (is_some a.previous) (given a.previous) a.sheet.now (λ x h. omega (arith, c.type_inv.costs x)) zero
    _ _ _ _ _ own (seen_target a.step.now step.result made.result step.ensures made.ensures a.sight c.by_sight.result c.by_sight.ensures)
    (ap (λ (s : RouteStep). s.portal) step.ensures) lent.ensures.same.0 lent.ensures.same.1 _ _ c.run.ensures.answer c.run.ensures.sheet

pub returns-in-Err : goal.returns-in-Err
returns-in-Err c =
    let a = c.args in
    let d = c.number-in-Err in
    let lent = c.in-Err in
    let n = rw c.in-Ok.ensures.1.same at (d.ensures ∙ lent.ensures.number a.sheet.now c.in-Some.ensures.cases.long) in
    refuses a.sight a.costs.now a.step.now (is_some a.previous) (given a.previous) a.sheet.now _ n (λ z. not_zero lent.refusal (sym d.ensures ∙ z))
    _ c.refused-in-Err.ensures _ c.in-Some.ensures.cases.same
