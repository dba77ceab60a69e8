-- `leg_field::field_number` meets its contract: a line of the table at each return, and below them the leg's.
-- Assumes nothing.
use Rattle.std.proofs.Common.{◌<◌, length, sym, ◌∙◌, arith}
use Rattle.route.proofs.Rows.{tests}
use Rattle.step_list.specs.Steps.{steps_of}
use Rattle.step_list.proofs.Steps.{steps_count}
use Rattle.leg_field.specs.Field.{field_rows}
use Rattle.leg_field.proofs.Numbers.{blank, blank_full, same_rows}
use Rattle.leg_field.proofs.field_number.Goals as goal

pub returns-then-floor-ne6400 : goal.returns-then-floor-ne6400
unfolding field_rows
returns-then-floor-ne6400 c = search tests

pub returns-then-is_no_step_list : goal.returns-then-is_no_step_list
unfolding field_rows
returns-then-is_no_step_list c = search (tests, sym c.is_no_step_list.ensures ∙ c.if-is_no_step_list.true)

pub returns-then-steps-place : goal.returns-then-steps-place
unfolding field_rows
returns-then-steps-place c = rw (steps_count _) (search (tests, sym c.is_no_step_list.ensures ∙ c.if-is_no_step_list.false))

pub returns : goal.returns
returns c =
    let steps = c.args.steps.now in
    let inside : c.args.place < length (steps_of steps) = omega (arith, steps_count steps) in
    c.leg_number.ensures blank blank_full ∙ sym (same_rows c.args.floor.now steps c.args.place inside blank blank_full)
