-- `leg::is_disconnected` meets its contract. The loop's invariant: the steps from the one before place k on decide.
-- Assumes nothing.
use Rattle.std.proofs.Common.{◌≡◌, ◌-◌, drop}
use Rattle.leg_plan.specs.Leg.{disconnected}
use Rattle.leg.proofs.is_disconnected.Given as goal

abbrev pub invariant-loop-k : goal.invariant-loop-k
invariant-loop-k l = disconnected l.steps ≡ disconnected (drop (l.k - 1) l.steps)
