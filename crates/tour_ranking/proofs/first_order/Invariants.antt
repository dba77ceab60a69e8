-- `tour_ranking::first_order` meets its contract. The loop's invariant: the numbers before `window` stand at their own places, and 0 behind them.
-- Assumes nothing.
use Rattle.tour_ranking.proofs.Loops.{Counted}
use Rattle.tour_ranking.proofs.first_order.Given as goal

abbrev pub invariant-loop-window : goal.invariant-loop-window
invariant-loop-window l = Counted l.order l.window
