-- `flow_build::calculate_flow_cells` meets its contract: no cell looks, or each gets the byte of its look.
-- Assumes nothing.
use Rattle.std.proofs.Common.{◌∙◌, arith}
use Rattle.flow_build.proofs.Passes.{new_looks, held_bytes_law, none_looks}
use Rattle.flow_build.proofs.calculate_flow_cells.Goals as goal

pub returns-then-none_looks : goal.returns-then-none_looks
returns-then-none_looks c = none_looks c.args.cells.now c.args.sheet.now (omega arith) (c.none_looks.ensures c.if-none_looks.true)

pub returns : goal.returns
returns c = c.point_cells.ensures ∙ held_bytes_law c.args.cells.now _ _ c.args.sheet.now (c.look_around.ensures new_looks)
