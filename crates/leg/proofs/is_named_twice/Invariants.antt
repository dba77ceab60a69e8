-- `leg::is_named_twice` meets its contract. The loop's invariant: the steps from place k on decide.
-- Assumes nothing.
use Rattle.std.proofs.Common.{◌≡◌, drop}
use Rattle.leg_plan.specs.Leg.{names_twice}
use Rattle.leg.proofs.is_named_twice.Given as goal

abbrev pub invariant-loop-k : goal.invariant-loop-k
invariant-loop-k l = names_twice l.steps ≡ names_twice (drop l.k l.steps)
