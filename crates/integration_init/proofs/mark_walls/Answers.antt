-- `integration_init::mark_walls` meets its contract: the cells before place i are the definition's, and so in the end are all.
-- Assumes nothing.
use Rattle.std.proofs.Common.{◌≡◌, ◌∙◌, arith}
use lib.ListN.{length-set}
use Rattle.integration_init.proofs.Starts.{wall_step, wall_end}
use Rattle.integration_init.proofs.mark_walls.Goals as goal

pub loop-i-preserved : goal.loop-i-preserved
loop-i-preserved c =
    let l = c.loop-i in
    record {
      full = length-set l.cells l.i c.wall_or.result ∙ l.invariant.full;
      same = wall_step c.args.costs.now l.cells c.told-costs l.invariant.full l.i c.wall_or.result
          c.loop-i-test.true c.wall_or.ensures l.invariant.same;
    }

pub returns : goal.returns
returns c =
    let l = c.loop-i in
    let e : l.i ≡ 100 = omega arith in
    wall_end c.args.costs.now l.cells c.told-costs l.invariant.full (rw e at l.invariant.same)
