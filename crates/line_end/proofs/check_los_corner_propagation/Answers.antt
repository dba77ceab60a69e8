-- `line_end::check_los_corner_propagation` meets its contract: the two tests are those of the definition.
-- Assumes nothing.
use Rattle.std.proofs.Common.{◌≡◌, true, sym, ◌∙◌}
use Rattle.fields.specs.Cell.{inside}
use Rattle.line_end.specs.LineEnd.{answer, line_end_answer}
use Rattle.line_end.proofs.Promise.{promised}
use Rattle.line_end.proofs.check_los_corner_propagation.Goals as goal

pub returns-then-is_inside-2 : goal.returns-then-is_inside-2
unfolding line_end_answer
returns-then-is_inside-2 c =
    let corner_in : inside c.args.corner ≡ true = sym c.is_inside.ensures ∙ c.if-is_inside.true in
    let goal_in : inside c.args.goal ≡ true = sym c.is_inside-then-is_inside.ensures ∙ c.if-is_inside-2.true in
    let p = promised c.args.corner c.args.goal (answer 0 c.corner_line_end-cell.result) (rw (corner_in, goal_in, c.corner_line_end-cell.ensures)) in
    record { answer = p.0; slanted = p.1.0; straight = p.1.1.0; mirrored = p.1.1.1.0; refused = p.1.1.1.1 }
