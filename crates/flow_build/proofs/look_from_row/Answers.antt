-- `flow_build::look_from_row` meets its contract: the looks of one cell more have gone on.
-- Assumes nothing.
use Rattle.std.proofs.Common.{◌+◌, ◌*◌, arith}
use Rattle.flow_build.proofs.Passes.{on_to, then_on}
use Rattle.flow_build.proofs.look_from_row.Goals as goal

pub loop-column-preserved : goal.loop-column-preserved
loop-column-preserved c =
    let l = c.loop-column in
    let a = c.args in
    let first = a.row * 10 in
    let at = first + l.column in
    then_on a.cells.now a.dir first at (at + 1) (first + (l.column + 1)) (omega arith) l.invariant c.look_from.ensures

pub returns : goal.returns
returns c =
    let l = c.loop-column in
    let a = c.args in
    on_to a.cells.now a.dir (a.row * 10) (a.row * 10 + l.column) (a.row * 10 + 10) (omega arith) l.invariant
