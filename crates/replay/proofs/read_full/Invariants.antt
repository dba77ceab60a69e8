-- How `replay` is proved. It promises no more than that it is safe and ends, since no contract can say what a file holds; whether records agree is
-- tested by running it. Its loops go over ranges, but for one that goes to the length of a record, which less the place is its measure.
-- `replay::read_full` stays inside the record, and each turn puts at least one byte.
-- Assumes nothing.
use Rattle.std.proofs.Common.{◌-◌, ◌≤◌, length}
use Rattle.replay.proofs.read_full.Given as goal

abbrev pub invariant-loop-done : goal.invariant-loop-done
invariant-loop-done g l = l.done ≤ length l.«record»

abbrev pub decreases-loop-done : goal.decreases-loop-done
decreases-loop-done g l = length l.«record» - l.done
