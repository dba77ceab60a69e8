-- `bounds::has_no_range` meets its contract: each cell passed has a from-to.
-- Assumes nothing.
use Rattle.std.proofs.Common.{◌≡◌, add-one, sym, ◌∙◌, arith}
use Rattle.bounds_told.specs.Bounds.{no_range}
use Rattle.bounds.proofs.Laws.{some_so_far, some_found}
use Rattle.bounds.proofs.has_no_range.Goals as goal

pub returns-then-is_no_range : goal.returns-then-is_no_range
returns-then-is_no_range c =
    let a = c.args in
    sym (some_found (no_range a.low.now a.high.now) c.loop-i.i (omega arith) (sym c.is_no_range.ensures ∙ c.if-is_no_range.true))

pub loop-i-preserved : goal.loop-i-preserved
loop-i-preserved c =
    let l = c.loop-i in
    let a = c.args in
    rw (add-one l.i) (some_so_far (no_range a.low.now a.high.now) l.i l.invariant (sym c.is_no_range.ensures ∙ c.if-is_no_range.false))

pub returns : goal.returns
returns c =
    let l = c.loop-i in
    let e : l.i ≡ 100 = omega arith in
    sym (rw e at l.invariant)
