-- `flow_following::first_trails` meets its contract. The loop's invariant: the trails of the first i cells are in their places.
-- Assumes nothing.
use Rattle.utilities.proofs.Lists.{FilledTo}
use Rattle.flow_arrivals.specs.Inner.{trail_after}
use Rattle.flow_following.proofs.first_trails.Given as goal

abbrev pub invariant-loop-i : goal.invariant-loop-i
invariant-loop-i l = FilledTo 100 (trail_after l.sheet 1) l.i l.trails
