-- `leg_writer::put_steps` meets its contract: one more byte of the steps stands behind the head, and after the last the whole.
-- Assumes nothing.
use Rattle.std.proofs.Common.{arith, add-one}
use lib.ListN.{length-set}
use lib.Seq.{paste-suc}
use Rattle.leg_writer.proofs.put_steps.Goals as goal

pub loop-i-preserved : goal.loop-i-preserved
loop-i-preserved c =
    record {
      same_size = simp length-set c.loop-i.invariant.same_size;
      holds = rw (c.loop-i.invariant.holds, add-one c.loop-i.i) (paste-suc c.args.file.now 6 c.args.steps.now c.loop-i.i 0 (omega arith) (omega arith));
    }
