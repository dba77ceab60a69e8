-- `replay_records::field_of` meets its contract: the field keeps its 100 cells.
-- Assumes nothing.
use Rattle.std.proofs.Common.{◌≡◌, length}
use Rattle.replay_records.proofs.field_of.Given as goal

abbrev pub invariant-loop-i : goal.invariant-loop-i
invariant-loop-i l = length l.field ≡ 100
