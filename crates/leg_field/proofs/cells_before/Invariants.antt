-- `leg_field::cells_before` meets its contract. The loop's invariant: the built cells of the step before this place are held.
-- Assumes nothing.
use Rattle.leg_field.specs.Inner.{Handed}
use Rattle.leg_field.proofs.cells_before.Given as goal

abbrev pub invariant-loop-step : goal.invariant-loop-step
invariant-loop-step l = Handed l.sight l.floor l.fn.steps l.step-index l.previous
