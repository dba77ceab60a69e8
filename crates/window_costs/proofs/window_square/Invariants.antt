-- `window_costs::window_square` meets its contract. The loop's invariant: the first j columns are filled.
-- Assumes nothing.
use Rattle.step_list.specs.Steps.{steps_of}
use Rattle.utilities.proofs.Lists.{FilledTo}
use Rattle.window_square.proofs.Columns.{column_of}
use Rattle.window_costs.proofs.window_square.Given as goal

abbrev pub invariant-loop-j : goal.invariant-loop-j
invariant-loop-j l = FilledTo 8 (column_of l.costs (steps_of l.steps)) l.j l.columns
