-- `get_cells_between_points`, by the test that it makes. Where both cells lie in the sector the line stays in it, so that the cells of the
-- drawn indexes are the line's.
-- Assumes nothing.
use Rattle.std.proofs.Common.{◌≡◌, true, ◌&&◌, sym, ◌∙◌}
use Rattle.fields.specs.Cell.{inside}
use Rattle.line_nearest.specs.Line.{line, line_call}
use Rattle.line_nearest.proofs.Calls.{both_in, promised, outside, accepted}
use Rattle.line_nearest.proofs.Theorem.{line_inside}
use Rattle.bresenham.proofs.Drawn.{drawn_answer}
use Rattle.bresenham.proofs.get_cells_between_points.Goals as goal

pub returns-then-not-both_inside : goal.returns-then-not-both_inside
unfolding line_call
returns-then-not-both_inside c =
    let s = c.args.source in
    let t = c.args.target in
    let no = sym c.both_inside.ensures ∙ c.if-not-both_inside.true in
    let p = promised s t c.told_line.result (c.told_line.ensures ∙ sym (outside s t (line s t) no)) in
    record { answer = p.0; nearest = p.1.0; list = p.1.1.0; refused = p.1.1.1 }

pub returns : goal.returns
unfolding line_call
returns c =
    let s = c.args.source in
    let t = c.args.target in
    let within : (inside s && inside t) ≡ true = sym c.both_inside.ensures ∙ c.if-not-both_inside.false in
    let i = both_in s t within in
    let cells = drawn_answer c.draw_cells_between_points.ensures (line_inside s t i.0 i.1) in
    let p = promised s t c.told_line-2.result (c.told_line-2.ensures ∙ cells ∙ sym (accepted s t (line s t) within)) in
    record { answer = p.0; nearest = p.1.0; list = p.1.1.0; refused = p.1.1.1 }
