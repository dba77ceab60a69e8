-- `tour_ranking::first_order` meets its contract. The loop's invariant: the numbers before `window` stand at their own places, and 0 behind them.
-- Assumes nothing.
use Rattle.std.proofs.Common.{◌≡◌, arith}
use Rattle.tour_ranking.proofs.Made.{first_order_is}
use Rattle.tour_ranking.proofs.first_order.Goals as goal

pub returns : goal.returns
returns c =
    let l = c.loop-window in
    let all : l.window ≡ c.args.n = omega arith in
    first_order_is c.args.n c.requires.0 c.requires.1 l.order (rw all at l.invariant)
