-- `bounds_sure::permitted_from` meets its contract. The loop's invariant: the neighbours in the directions passed are listed.
-- Assumes nothing.
use Rattle.bounds_sure.proofs.Loops.{Listed}
use Rattle.bounds_sure.proofs.permitted_from.Given as goal

abbrev pub invariant-loop-dir : goal.invariant-loop-dir
invariant-loop-dir l = Listed l.cells l.index l.dir-items l.dir-index l.listed
