-- `replay_records::summed` is safe: the sum stays below the modulus.
-- Assumes nothing.
use Rattle.std.proofs.Common.{◌<◌}
use Rattle.replay_records.proofs.summed.Given as goal

abbrev pub invariant-loop-byte : goal.invariant-loop-byte
invariant-loop-byte l = l.sum < 4294967291
