-- `leg_field::number_by_sight` meets its contract: the number that is judged before a step is planned, or 15, or 0.
-- Assumes nothing.
use Rattle.std.proofs.Common.{sym, ◌∙◌}
use Rattle.std.proofs.lemmas.Result.{err_from_is_err_and}
use Rattle.refusals.proofs.Numbers.{not_zero}
use Rattle.leg_plan.proofs.Numbers.{ready}
use Rattle.leg_field.proofs.Numbers.{judged_so, judged_first, fifteen, none}
use Rattle.leg_field.proofs.number_by_sight.Goals as goal

pub returns-in_err-field_number : goal.returns-in_err-field_number
returns-in_err-field_number c =
    let a = c.args in
    let p = err_from_is_err_and c.from_residual.result c.from_residual.ensures.1 in
    let first = c.in_err-field_number.ensures in
    rw (p.1, p.2) (first ∙ sym (judged_first a.floor.now a.steps.now a.place a.sight (λ z. not_zero _ (first ∙ z))))

pub is_some_closed-requires : goal.is_some_closed-requires
is_some_closed-requires c =
    let a = c.args in
    ready (judged_so a.floor.now a.steps.now a.place (sym c.in_ok-field_number.ensures))

pub returns-then-is_some_closed : goal.returns-then-is_some_closed
returns-then-is_some_closed c =
    let a = c.args in
    sym (fifteen a.floor.now a.steps.now a.place a.sight (sym c.in_ok-field_number.ensures) (sym c.is_some_closed.ensures ∙ c.if-is_some_closed.true))

pub returns : goal.returns
returns c =
    let a = c.args in
    sym (none a.floor.now a.steps.now a.place a.sight (sym c.in_ok-field_number.ensures) (sym c.is_some_closed.ensures ∙ c.if-is_some_closed.false))
