-- `tour_ranking::next_order` meets its contract: the places that are found are those of the change from the order to the next.
-- Assumes nothing.
use Rattle.std.proofs.Common.{arith}
use Rattle.tour_ranking.proofs.Made.{next_made}
use Rattle.tour_ranking.proofs.next_order.Goals as goal

pub returns : goal.returns
returns c place h e =
    next_made c.args.n place _ (omega arith) c.requires.1 h e c.last_rise-at.result c.last_above-to.result _
    (record {
      rise = c.last_rise-at.ensures.1;
      above = c.last_above-to.ensures.1;
      made = rw c.swap.ensures.after at c.reverse.ensures;
    })
