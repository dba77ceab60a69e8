-- `flow_following::all_moves` meets its contract. The loop's invariant: the trails are those of so many moves.
-- Assumes nothing.
use Prim.Native.Nat.{◌-◌, ◌≤◌}
use Rattle.flow_arrivals.proofs.Trails.{Made}
use Rattle.flow_following.proofs.all_moves.Given as goal

abbrev pub invariant-loop-made : goal.invariant-loop-made
invariant-loop-made l = (1 ≤ l.made) × Made l.sheet l.made l.trails

abbrev pub decreases-loop-made : goal.decreases-loop-made
decreases-loop-made l = 100 - l.made
