-- `leg_writer::put_steps` meets its contract. The loop's invariant: the first i bytes of the steps stand behind the head.
-- Assumes nothing.
use Rattle.std.proofs.Common.{◌≡◌, ℕ, List, length}
use lib.Seq.{paste}
use Rattle.leg_writer.proofs.put_steps.Given as goal

-- the first i bytes of the steps are put
pub record Put (steps before : List ℕ) (i : ℕ) (file : List ℕ) : Type 0 where
  pub same_size : length file ≡ length before
  pub holds : file ≡ paste before 6 steps i

abbrev pub invariant-loop-i : goal.invariant-loop-i
invariant-loop-i l = Put l.steps l.initial.file l.i l.file
