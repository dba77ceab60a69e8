-- `Wave::spread_around` meets its contract. The invariant is `Spreading`: the directions that are left do what all four do.
-- Assumes nothing.
use Rattle.std.proofs.Common.{◌+◌, drop, sym, ap, ◌∙◌, arith}
use Rattle.utilities.specs.declared.CompassDir.{CompassDir}
use Rattle.utilities.specs.Compass.{orthogonal}
use Rattle.fields.specs.Cell.{cell_at, stepped}
use Rattle.fields.specs.CellList.{held}
use Rattle.integration_started.specs.Sight.{Sight, spread_towards, spread_around}
use Rattle.integration_started.specs.CornerLine.{corner_line}
use Rattle.integration_init.specs.Held.{sight_of}
use Rattle.integration_init.proofs.Spreads.{spread_on, spread_ends}
use Rattle.integration_init.proofs.Walls.{lent_towards}
use Rattle.integration_init.proofs.Waves.{around_step, around_end}
use Rattle.integration_init.proofs.Wave.spread_around.Goals as goal

pub loop-side-preserved : goal.loop-side-preserved
loop-side-preserved c =
    let a = c.args in
    let w = a.self.now in
    let l = c.loop-side in
    let line = corner_line w.goal in
    let dir = c.from_boundary-dir.result in
    let held_now = sight_of l.field (held l.next) in
    let towards : CompassDir → Sight = λ (d : CompassDir). spread_towards line w.cost a.from d (stepped (cell_at a.from) d) held_now in
    spread_on l.invariant _ c.loop-side-test.true
    (around_step line w.cost a.from l.side held_now c.loop-side-test.true
    ∙ ap (λ (d : CompassDir). spread_around line w.cost a.from (drop (l.side + 1) orthogonal) (towards d)) (sym c.from_boundary-dir.ensures))
    c.spread_towards.ensures
    (lent_towards line w.cost c.requires.in_wave.wave_in _ _ held_now a.from dir (stepped (cell_at a.from) dir) l.invariant.lent)

pub returns : goal.returns
returns c = spread_ends c.loop-side.invariant (omega arith) (around_end (corner_line c.args.self.now.goal) c.args.self.now.cost c.args.from)
