-- `bounds_sure::permitted_from` meets its contract: the neighbours in one direction after the other.
-- Assumes nothing.
use Rattle.std.proofs.Common.{arith, sym}
use Rattle.bounds_sure.proofs.Loops.{listed_over, listed_more, listed_all}
use Rattle.bounds_sure.proofs.permitted_from.Goals as goal
use Rattle.bounds_sure.proofs.permitted_from.Goals.{in-Some, in_default}

pub loop-dir-preserved : goal.loop-dir-preserved
loop-dir-preserved c =
    let cells = c.args.cells.now in
    let i = c.args.index in
    let l = c.loop-dir in
    let h = c.loop-dir-test.true in
    elim c.match-permitted_towards.branch [
      | in-Some w ↦ rw (w.listed-is, w.push.ensures)
          (listed_more cells i _ l.dir-index l.listed w.in-Some.to h (omega arith) w.in-Some.ensures.inside l.invariant w.in-Some.ensures.found)
      | in_default w ↦ rw w.listed-is (listed_over cells i _ l.dir-index l.listed h l.invariant (sym w.in_default.ensures.found))
    ]

pub returns : goal.returns
returns c = listed_all c.args.cells.now c.args.index _ c.loop-dir.dir-index c.loop-dir.listed (omega arith) c.loop-dir.invariant
