-- `flow_following::doubled` meets its contract. The loop's invariant: the first i trails have gone on, in their places.
-- Assumes nothing.
use Rattle.utilities.proofs.Lists.{FilledTo}
use Rattle.flow_arrivals.specs.Inner.{doubled_trail}
use Rattle.flow_following.proofs.doubled.Given as goal

abbrev pub invariant-loop-i : goal.invariant-loop-i
invariant-loop-i l = FilledTo 100 (doubled_trail l.trails) l.i l.further
