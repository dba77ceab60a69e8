-- `bounds_sure::costs_of` meets its contract. The loop's invariant: the costs of the first i cells are in their places.
-- Assumes nothing.
use Rattle.utilities.proofs.Lists.{FilledTo}
use Rattle.flow_arrows.specs.Arrows.{built_cost}
use Rattle.bounds_sure.proofs.costs_of.Given as goal

abbrev pub invariant-loop-i : goal.invariant-loop-i
invariant-loop-i l = FilledTo 100 (built_cost l.cells) l.i l.costs
