-- `flow_build::look_in_direction` meets its contract. The loop's invariant: the looks of the rows before have gone on.
-- Assumes nothing.
use Prim.Native.Nat.{◌*◌}
use Rattle.flow_build.specs.Inner.{LooksOn}
use Rattle.flow_build.proofs.look_in_direction.Given as goal

abbrev pub invariant-loop-row : goal.invariant-loop-row
invariant-loop-row l = LooksOn l.cells l.dir 0 (l.row * 10) l.initial.best l.initial.bits l.best l.bits
