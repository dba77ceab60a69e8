-- `flow_build::look_from_row` meets its contract. The loop's invariant: the looks of the row's cells before the column have gone on.
-- Assumes nothing.
use Prim.Native.Nat.{◌+◌, ◌*◌}
use Rattle.flow_build.specs.Inner.{LooksOn}
use Rattle.flow_build.proofs.look_from_row.Given as goal

abbrev pub invariant-loop-column : goal.invariant-loop-column
invariant-loop-column l = LooksOn l.cells l.dir (l.row * 10) (l.row * 10 + l.column) l.initial.best l.initial.bits l.best l.bits
