-- How `replay_records` is proved. Its one promise is that a field which is called the same agrees with the recorded bytes: each comparison that
-- passes is one place more that agrees, and one that fails answers false. The other loops only go to the end of their array.
-- `replay_records::same_field` meets its contract. The loop's invariant: the cells before place i are the same.
-- Assumes nothing.
use Rattle.replay_records.specs.Same.{SameFirst}
use Rattle.replay_records.proofs.same_field.Given as goal

abbrev pub invariant-loop-i : goal.invariant-loop-i
invariant-loop-i l = SameFirst l.i l.field.positions l.field.los_corners l.field.field l.bytes
