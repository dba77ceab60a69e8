-- `leg::leg_number` meets its contract: a line of the table at each return.
-- Assumes nothing.
use Rattle.std.proofs.Common.{sym, ◌∙◌}
use Rattle.std.proofs.lemmas.Result.{err_from_is_err_and}
use borrow.Author.Tests.{ne_eqb}
use Rattle.refusals.proofs.Numbers.{not_zero}
use Rattle.route.proofs.Rows.{tests}
use Rattle.leg_plan.specs.Leg.{judged_rows}
use Rattle.leg_plan.proofs.Numbers.{each_first, nine_then_ten}
use Rattle.leg.proofs.Chunks.{chunks_are}
use Rattle.leg.proofs.leg_number.Goals as goal

pub returns-in_default : goal.returns-in_default
unfolding judged_rows
returns-in_default c sheet e = search (tests, ne_eqb _ 6400 c.in_default.ensures.1)

pub returns-then-sheet_length-ne6400 : goal.returns-then-sheet_length-ne6400
unfolding judged_rows
returns-then-sheet_length-ne6400 c sheet e = search (tests, c.in-Ok.ensures.1.long, ne_eqb _ 6400 (λ h. c.if-sheet_length-ne6400.true (sym e ∙ h)))

pub returns-then-is_no_step_list : goal.returns-then-is_no_step_list
unfolding judged_rows
returns-then-is_no_step_list c sheet e =
    search (tests, c.in-Ok.ensures.1.long, e ∙ c.if-sheet_length-ne6400.false, sym c.is_no_step_list.ensures ∙ c.if-is_no_step_list.true)

pub returns-in_err-each_step : goal.returns-in_err-each_step
unfolding judged_rows
returns-in_err-each_step c sheet e =
    let p = err_from_is_err_and c.from_residual.result c.from_residual.ensures.1 in
    let cut = c.as_chunks.ensures.front ∙ chunks_are c.args.steps.now in
    let number = rw (c.in-Ok.ensures.1.same, cut) at c.in_err-each_step.ensures in
    rw (p.1, p.2, number) (search (
      tests,
      c.in-Ok.ensures.1.long,
      e ∙ c.if-sheet_length-ne6400.false,
      sym c.is_no_step_list.ensures ∙ c.if-is_no_step_list.false,
      each_first,
      ne_eqb _ 0 (λ z. not_zero _ (number ∙ z)),
    ))

pub returns-then-is_out_of_order : goal.returns-then-is_out_of_order
returns-then-is_out_of_order c sheet e =
    let cut = c.as_chunks.ensures.front ∙ chunks_are c.args.steps.now in
    let left = nine_then_ten c.args.floor.now c.args.steps.now sheet c.in-Ok.ensures.1.long (e ∙ c.if-sheet_length-ne6400.false)
    (sym c.is_no_step_list.ensures ∙ c.if-is_no_step_list.false) (sym (rw (c.in-Ok.ensures.1.same, cut) at c.in_ok-each_step.ensures)) in
    sym (left ∙ rw (sym (rw cut at c.is_out_of_order.ensures) ∙ c.if-is_out_of_order.true))

pub returns-then-is_disconnected : goal.returns-then-is_disconnected
returns-then-is_disconnected c sheet e =
    let cut = c.as_chunks.ensures.front ∙ chunks_are c.args.steps.now in
    let left = nine_then_ten c.args.floor.now c.args.steps.now sheet c.in-Ok.ensures.1.long (e ∙ c.if-sheet_length-ne6400.false)
    (sym c.is_no_step_list.ensures ∙ c.if-is_no_step_list.false) (sym (rw (c.in-Ok.ensures.1.same, cut) at c.in_ok-each_step.ensures)) in
    sym (left ∙ rw (sym (rw cut at c.is_out_of_order.ensures) ∙ c.if-is_out_of_order.false, sym (rw cut at c.is_disconnected.ensures) ∙ c.if-is_disconnected.true))

pub returns : goal.returns
returns c sheet e =
    let cut = c.as_chunks.ensures.front ∙ chunks_are c.args.steps.now in
    let left = nine_then_ten c.args.floor.now c.args.steps.now sheet c.in-Ok.ensures.1.long (e ∙ c.if-sheet_length-ne6400.false)
    (sym c.is_no_step_list.ensures ∙ c.if-is_no_step_list.false) (sym (rw (c.in-Ok.ensures.1.same, cut) at c.in_ok-each_step.ensures)) in
    sym (left ∙ rw (sym (rw cut at c.is_out_of_order.ensures) ∙ c.if-is_out_of_order.false, sym (rw cut at c.is_disconnected.ensures) ∙ c.if-is_disconnected.false))
