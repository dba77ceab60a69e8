-- `tour_search::search_tours` meets its contract.
-- Assumes nothing.
use Rattle.std.proofs.Common.{ℕ, ◌-◌, ◌≤◌, arith}
use Rattle.tour_orders.specs.Orders.{factorial}
use Rattle.tour_sums.specs.Tours.{tried_count}
use Rattle.tour_sums.proofs.Promised.{tried_is}
use Rattle.tour_ranking.proofs.Loops.{factorial_few}
use Rattle.tour_search.proofs.Answers.{answered, promised}
use Rattle.tour_search.proofs.search_tours.Goals as goal

-- the number tried is at most that of all orders, and so at most 5040
at_most_all : (n limit : ℕ) → tried_count n limit ≤ factorial (n - 1)
at_most_all n limit = omega (arith, tried_is n limit)

pub best_tour-requires : goal.best_tour-requires
best_tour-requires c = (c.requires, omega (arith, c.tried_count-tried.ensures, at_most_all c.args.n c.args.limit))

pub overflow_cast-result : goal.overflow_cast-result
overflow_cast-result c =
    let n = c.args.n in
    omega (arith, c.tried_count-tried.ensures, at_most_all n c.args.limit, factorial_few (n - 1) (omega (arith, c.requires.few)))

pub returns-clause-answer : goal.returns-clause-answer
returns-clause-answer c =
    answered c.args.square c.args.n c.args.limit c.tried_count-tried.ensures c.best_tour.ensures c.least_figure.ensures

pub returns-clause-orders : goal.returns-clause-orders
returns-clause-orders c = (promised c.args.square c.args.n c.args.limit c.requires (returns-clause-answer c)).1.0

pub returns-clause-best : goal.returns-clause-best
returns-clause-best c = (promised c.args.square c.args.n c.args.limit c.requires (returns-clause-answer c)).1.1.0

pub returns-clause-least : goal.returns-clause-least
returns-clause-least c = (promised c.args.square c.args.n c.args.limit c.requires (returns-clause-answer c)).1.1.1
