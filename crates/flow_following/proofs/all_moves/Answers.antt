-- `flow_following::all_moves` meets its contract: the trails are those of so many moves, and these decide.
-- Assumes nothing.
use mathlib.Core.Logic.{inr}
use Rattle.std.proofs.Common.{arith}
use Rattle.flow_arrivals.proofs.Trails.{round_made, short_made, told_all, all_decide}
use Rattle.flow_following.proofs.all_moves.Goals as goal
use Rattle.flow_following.proofs.all_moves.Goals.{then-loop-made-test+else-not-all_arrived, else-loop-made-test}

pub doubled-trails-requires : goal.doubled-trails-requires
doubled-trails-requires c =
    let l = c.loop-made in
    short_made c.args.sheet.now l.made l.trails l.invariant.1 (omega arith)

pub loop-made-preserved : goal.loop-made-preserved
loop-made-preserved c =
    let l = c.loop-made in
    (omega arith, round_made c.args.sheet.now l.made l.trails l.invariant.1 c.doubled-trails.ensures)

pub returns : goal.returns
returns c =
    let sheet = c.args.sheet.now in
    let l = c.loop-made in
    let made = l.invariant.1 in
    told_all sheet l.made l.trails made
    (elim c.loop-made-test.branch [
      | then-loop-made-test+else-not-all_arrived w ↦ all_decide sheet l.made l.trails made (w.all_arrived.ensures w.if-not-all_arrived.false)
      | else-loop-made-test w ↦ λ x h. inr (omega (arith, w.loop-made-test.false))
    ])
    c.all_told.ensures
