-- `tour_search::tried_count` meets its contract.
-- Assumes nothing.
use Rattle.std.proofs.Common.{arith}
use Rattle.tour_sums.proofs.Promised.{tried_is}
use Rattle.tour_search.proofs.tried_count.Goals as goal

pub returns : goal.returns
returns c = omega (arith, tried_is c.args.n c.args.limit, c.factorial.ensures, c.min.ensures, c.from.ensures)
