-- `leg::plan_by_sight` meets its contract: refused by its bytes, or by a closed window before anything is written, or written step after step.
-- Assumes nothing.
use Rattle.std.proofs.Common.{arith, refl, sym, ◌∙◌}
use Rattle.std.proofs.lemmas.Result.{err_from_is_err_and}
use Rattle.refusals.proofs.Numbers.{not_zero}
use Rattle.leg_plan.proofs.Numbers.{judged, judged_first, closed_15, open_0, ready}
use Rattle.leg_journey.proofs.Promised.{refuses, plans}
use Rattle.leg.proofs.plan_by_sight.Goals as goal

pub returns-in_err-leg_number : goal.returns-in_err-leg_number
returns-in_err-leg_number c =
    let e = err_from_is_err_and c.from_residual.result c.from_residual.ensures.1 in
    let first = c.in_err-leg_number.ensures c.args.sheet.now refl in
    let some = not_zero c.in_err-leg_number.field-0.0 in
    let p = refuses c.args.sight c.args.floor.now c.args.steps.now c.args.sheet.now _
    (first ∙ sym (judged_first c.args.sight c.args.floor.now c.args.steps.now c.args.sheet.now (λ z. some (first ∙ z)))) some in
    rw (e.1, e.2) (record { number = p.0; sheet = p.1.0; planned = p.1.1.0; arrives = p.1.1.1.0; fifteen = p.1.1.1.1.0; sixteen = p.1.1.1.1.1 })

-- where no number is told by the bytes, the leg is judged
pub is_some_closed-requires : goal.is_some_closed-requires
is_some_closed-requires c =
    ready (judged c.args.floor.now c.args.steps.now c.args.sheet.now (sym (c.in_ok-leg_number.ensures c.args.sheet.now refl)))

pub returns-then-is_some_closed : goal.returns-then-is_some_closed
returns-then-is_some_closed c =
    let ok = judged c.args.floor.now c.args.steps.now c.args.sheet.now (sym (c.in_ok-leg_number.ensures c.args.sheet.now refl)) in
    let p = refuses c.args.sight c.args.floor.now c.args.steps.now c.args.sheet.now 15
    (sym (closed_15 c.args.sight c.args.floor.now c.args.steps.now c.args.sheet.now ok (sym c.is_some_closed.ensures ∙ c.if-is_some_closed.true)))
    (λ z. omega (arith, z)) in
    record { number = p.0; sheet = p.1.0; planned = p.1.1.0; arrives = p.1.1.1.0; fifteen = p.1.1.1.1.0; sixteen = p.1.1.1.1.1 }

pub write_steps-requires : goal.write_steps-requires
write_steps-requires c =
    let ok = judged c.args.floor.now c.args.steps.now c.args.sheet.now (sym (c.in_ok-leg_number.ensures c.args.sheet.now refl)) in
    (ready ok, ok.sheet_full)

-- the costs of a floor are bytes
pub returns : goal.returns
returns c =
    let ok = judged c.args.floor.now c.args.steps.now c.args.sheet.now (sym (c.in_ok-leg_number.ensures c.args.sheet.now refl)) in
    let p = plans c.args.sight c.args.floor.now c.args.steps.now c.args.sheet.now (λ i. omega (arith, c.type_inv.floor i))
    (open_0 c.args.sight c.args.floor.now c.args.steps.now c.args.sheet.now ok (sym c.is_some_closed.ensures ∙ c.if-is_some_closed.false)) _
    c.write_steps.ensures in
    record { number = p.0; sheet = p.1.0; planned = p.1.1.0; arrives = p.1.1.1.0; fifteen = p.1.1.1.1.0; sixteen = p.1.1.1.1.1 }
