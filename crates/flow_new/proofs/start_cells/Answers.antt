-- `flow_new::start_cells` meets its contract: all flags are the rule's.
-- Assumes nothing.
use Rattle.std.proofs.Common.{◌≡◌, get_or, arith}
use Rattle.utilities.proofs.Lists.{filled_all}
use Rattle.flow_byte.specs.New.{start_of}
use Rattle.flow_new.specs.Inner.{start_bytes}
use Rattle.flow_new.proofs.start_cells.Goals as goal

pub returns : goal.returns
unfolding start_bytes
returns c =
    let l = c.loop-i in
    let e : l.i ≡ 100 = omega arith in
    filled_all 100 (λ k. start_of (get_or c.args.cells.now k 0)) l.flags (rw e at l.invariant)
