-- `leg::each_step` meets its contract. The loop's invariant: the steps from this place on decide.
-- Assumes nothing.
use Rattle.std.proofs.Common.{◌≡◌, drop}
use Rattle.route.specs.Table.{first_number}
use Rattle.leg_plan.specs.Leg.{each_rows}
use Rattle.leg.proofs.each_step.Given as goal

abbrev pub invariant-loop-step : goal.invariant-loop-step
invariant-loop-step l = first_number (each_rows l.floor l.steps) ≡ first_number (each_rows l.floor (drop l.step-index l.steps))
