-- `flow_following::first_trails` meets its contract: one trail more is in its place.
-- Assumes nothing.
use Rattle.std.proofs.Common.{◌∙◌, arith}
use Rattle.utilities.proofs.Lists.{filled_more}
use Rattle.flow_arrivals.specs.Inner.{trail_after}
use Rattle.flow_arrivals.proofs.Trails.{first_made}
use Rattle.flow_following.proofs.first_trails.Goals as goal

pub loop-i-preserved : goal.loop-i-preserved
loop-i-preserved c =
    let l = c.loop-i in
    let sheet = c.args.sheet.now in
    filled_more 100 (trail_after sheet 1) l.i l.trails _ (omega arith) (c.first_trail.ensures ∙ first_made sheet l.i) l.invariant
