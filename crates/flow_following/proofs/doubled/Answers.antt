-- `flow_following::doubled` meets its contract: all trails have gone on.
-- Assumes nothing.
use Rattle.std.proofs.Common.{◌≡◌, arith}
use Rattle.utilities.proofs.Lists.{filled_all}
use Rattle.flow_arrivals.specs.Inner.{doubled_trail}
use Rattle.flow_following.proofs.doubled.Goals as goal

pub returns : goal.returns
returns c =
    let l = c.loop-i in
    let e : l.i ≡ 100 = omega arith in
    filled_all 100 (doubled_trail c.args.trails.now) l.further (rw e at l.invariant)
