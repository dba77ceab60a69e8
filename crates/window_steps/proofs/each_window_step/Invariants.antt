-- `window_steps::each_window_step` meets its contract. The loop's invariant: the steps from place k on decide.
-- Assumes nothing.
use Rattle.std.proofs.Common.{◌≡◌}
use Rattle.route.specs.Table.{first_number}
use Rattle.step_list.specs.Steps.{steps_of}
use Rattle.step_list.proofs.Steps.{steps_from}
use Rattle.window_square.specs.Square.{window_step_rows}
use Rattle.window_steps.proofs.each_window_step.Given as goal

abbrev pub invariant-loop-k : goal.invariant-loop-k
invariant-loop-k l =
    first_number (window_step_rows l.costs l.sector (steps_of l.steps)) ≡ first_number (window_step_rows l.costs l.sector (steps_from l.steps l.k))
