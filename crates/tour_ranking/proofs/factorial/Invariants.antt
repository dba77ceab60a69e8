-- `tour_ranking::factorial` meets its contract. The loop's invariant: the product is that of the numbers from 1 to `number`.
-- Assumes nothing.
use mathlib.Core.Path.{◌≡◌}
use Rattle.tour_orders.specs.Orders.{factorial}
use Rattle.tour_ranking.proofs.factorial.Given as goal

abbrev pub invariant-loop-number : goal.invariant-loop-number
invariant-loop-number l = l.product ≡ factorial l.number
