-- `leg::is_some_closed` meets its contract. The loop's invariant: a window of the leg is closed exactly if one from place k on is, with the built
-- cells of the step before.
-- Assumes nothing.
use Rattle.std.proofs.Common.{◌≡◌, is_some}
use Rattle.step_list.specs.Steps.{steps_of}
use Rattle.step_list.proofs.Steps.{steps_from}
use Rattle.leg_plan.specs.Leg.{closed_from, some_closed}
use Rattle.leg.proofs.Step.{numbers}
use Rattle.leg.proofs.is_some_closed.Given as goal

abbrev pub invariant-loop-k : goal.invariant-loop-k
invariant-loop-k l =
    some_closed l.sight l.floor (steps_of l.fn.steps) ≡ closed_from l.sight l.floor (steps_from l.fn.steps l.k) (is_some l.previous) (numbers l.previous)
