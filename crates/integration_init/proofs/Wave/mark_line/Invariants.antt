-- The invariant of `Wave::mark_line` is `Walking`: what is left of the line from its i-th cell on does what the whole line does.
-- Assumes nothing.
use Rattle.integration_init.proofs.Lines.{Walking}
use Rattle.integration_init.proofs.Wave.mark_line.Given as goal

abbrev pub invariant-loop-cell : goal.invariant-loop-cell
invariant-loop-cell l = Walking l.self.cost l.corner l.line l.initial.field l.field l.previous l.value l.cell-index
