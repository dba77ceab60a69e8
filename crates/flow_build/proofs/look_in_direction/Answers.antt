-- `flow_build::look_in_direction` meets its contract: the looks of one row more have gone on.
-- Assumes nothing.
use Rattle.std.proofs.Common.{◌+◌, ◌*◌, arith}
use Rattle.flow_build.proofs.Passes.{on_to, then_on}
use Rattle.flow_build.proofs.look_in_direction.Goals as goal

pub loop-row-preserved : goal.loop-row-preserved
loop-row-preserved c =
    let l = c.loop-row in
    let a = c.args in
    let at = l.row * 10 in
    then_on a.cells.now a.dir 0 at (at + 10) ((l.row + 1) * 10) (omega arith) l.invariant c.look_from_row.ensures

pub returns : goal.returns
returns c =
    let l = c.loop-row in
    let a = c.args in
    on_to a.cells.now a.dir 0 (l.row * 10) 100 (omega arith) l.invariant
