-- `Wave::mark_line` meets its contract. The invariant is `Walking`: what is left of the line from its i-th cell on does what the whole line does.
-- Assumes nothing.
use Rattle.std.proofs.Common.{arith, sym, ◌∙◌}
use Rattle.integration_init.proofs.Lines.{walk_goes, walk_stops, walk_ends}
use Rattle.integration_init.proofs.Wave.mark_line.Goals as goal

pub returns-then-is_stopped : goal.returns-then-is_stopped
returns-then-is_stopped c =
    let l = c.loop-cell in
    walk_stops l.invariant c.from-n.result c.loop-cell-test.true c.from-n.ensures (sym c.is_stopped.ensures ∙ c.if-is_stopped.true)

pub loop-cell-preserved : goal.loop-cell-preserved
loop-cell-preserved c =
    let l = c.loop-cell in
    walk_goes l.invariant c.from-n.result c.loop-cell-test.true c.from-n.ensures
    (omega (arith, c.from-n.ensures, c.requires.line_in l.cell-index c.loop-cell-test.true))
    (sym c.is_stopped.ensures ∙ c.if-is_stopped.false) c.mark.ensures

pub returns : goal.returns
returns c = walk_ends c.loop-cell.invariant c.loop-cell-test.false
