-- `leg_field::field_by_sight` meets its contract: refused by its number, or the field of the step at the place.
-- Assumes nothing.
use Rattle.std.proofs.Common.{sym, ◌∙◌, arith}
use Rattle.refusals.proofs.Numbers.{not_zero}
use Rattle.step_list.proofs.Steps.{steps_count}
use Rattle.leg_plan.proofs.Numbers.{ready}
use Rattle.leg_field.proofs.Numbers.{place_in, judged_so, judged_0, none_closed, refuses, accepts}
use Rattle.leg_field.proofs.field_by_sight.Goals as goal

-- where the number is 0: planning is given what it asks, and the place is in the list
pub field_at-requires : goal.field_at-requires
field_at-requires c =
    let a = c.args in
    let none = judged_0 a.floor.now a.steps.now a.place a.sight (sym c.in-Ok.ensures) in
    (ready (judged_so a.floor.now a.steps.now a.place none), omega (arith, place_in a.floor.now a.steps.now a.place none, steps_count a.steps.now))

pub returns-in-Ok : goal.returns-in-Ok
returns-in-Ok c =
    let a = c.args in
    let zero = sym c.in-Ok.ensures in
    let none = judged_0 a.floor.now a.steps.now a.place a.sight zero in
    let p =
    accepts a.sight a.floor.now a.steps.now a.place none (none_closed a.floor.now a.steps.now a.place a.sight zero) c.field_at.result c.field_at.ensures in
    record { answer = p.0; planned = p.1.0; as_leg = p.1.1.0; beyond = p.1.1.1.0; refused = p.1.1.1.1 }

pub returns-in-Err : goal.returns-in-Err
returns-in-Err c =
    let a = c.args in
    let n = c.number.ensures ∙ c.in-Err.ensures in
    let p =
    refuses a.sight a.floor.now a.steps.now a.place c.number.result n (λ z. not_zero c.in-Err.refusal (sym c.number.ensures ∙ z)) c.refused.result
    c.refused.ensures in
    record { answer = p.0; planned = p.1.0; as_leg = p.1.1.0; beyond = p.1.1.1.0; refused = p.1.1.1.1 }
