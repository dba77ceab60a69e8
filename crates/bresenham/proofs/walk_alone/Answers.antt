-- `bresenham::walk_alone`, by the tests that it makes. A walk between cells of the sector stays in it, so that the cells of the drawn indexes
-- are the walk's.
-- Assumes nothing.
use Rattle.std.proofs.Common.{◌≡◌, true, ◌&&◌, [], sym, ap, ◌∙◌, arith}
use Rattle.fields.specs.declared.CellList.{CellList}
use Rattle.fields.specs.Cell.{inside}
use Rattle.line_nearest.specs.Line.{answered}
use Rattle.line_nearest.proofs.Calls.{both_in, accepted, none_back}
use Rattle.bresenham.specs.Inner.{major_of, minor_of, walked, DrawnIn}
use Rattle.bresenham.proofs.Drawn.{major_in, minor_in, drawn_answer, walk_inside}
use Rattle.bresenham.proofs.walk_alone.Goals as goal

pub returns-then-major : goal.returns-then-major
returns-then-major c =
    let a = c.args in
    let s = a.source in
    let t = a.target in
    let in_both : (inside s && inside t) ≡ true = sym c.both_inside.ensures ∙ c.if-not-both_inside.false in
    let none = none_back a.steep (major_of a.steep s) (minor_of a.steep s) (major_of a.steep t) (minor_of a.steep t) (omega arith) in
    let drawn : DrawnIn [] c.none.result =
    record {
      indexes = ap (λ (d : CellList 10). d.cells) c.none.ensures;
      many = ap (λ (d : CellList 10). d.count) c.none.ensures;
    } in
    drawn_answer drawn (λ k h. absurd (omega arith)) ∙ ap answered (sym none) ∙ sym (accepted s t (walked a.steep s t) in_both)

pub returns : goal.returns
returns c =
    let a = c.args in
    let s = a.source in
    let t = a.target in
    let in_both : (inside s && inside t) ≡ true = sym c.both_inside.ensures ∙ c.if-not-both_inside.false in
    let i = both_in s t in_both in
    let cells =
    walk_inside (major_of a.steep s) (minor_of a.steep s) (major_of a.steep t) (minor_of a.steep t) (omega arith) (major_in a.steep t i.1)
    (minor_in a.steep s i.0) (minor_in a.steep t i.1) a.steep in
    drawn_answer c.walk.ensures cells ∙ sym (accepted s t (walked a.steep s t) in_both)
