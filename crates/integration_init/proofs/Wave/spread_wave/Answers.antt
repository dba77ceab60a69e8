-- `Wave::spread_wave` meets its contract. The invariant is `Spreading`: what is left of the wave from place k on does what the whole wave does.
-- Assumes nothing.
use Rattle.std.proofs.Common.{ℕ, ◌+◌, length, sym, ap, ◌∙◌, arith}
use lib.Seq.{slice}
use Rattle.utilities.specs.Compass.{orthogonal}
use Rattle.fields.specs.CellList.{held}
use Rattle.integration_started.specs.Sight.{Sight, spread_around, wave_spread}
use Rattle.integration_started.specs.CornerLine.{corner_line}
use Rattle.integration_init.specs.Held.{sight_of}
use Rattle.integration_init.proofs.Spreads.{spread_on, spread_ends, wave_step, wave_end}
use Rattle.integration_init.proofs.Walls.{lent_around}
use Rattle.integration_init.proofs.Wave.spread_wave.Goals as goal

pub loop-cell-preserved : goal.loop-cell-preserved
loop-cell-preserved c =
    let w = c.args.self.now in
    let cells = held c.args.cells.now in
    let l = c.loop-cell in
    let p = c.requires in
    let line = corner_line w.goal in
    let held_now = sight_of l.field (held l.next) in
    let rest : Sight → Sight = wave_spread line w.cost (slice (l.cell-index + 1) (length cells) cells) in
    spread_on l.invariant _ c.loop-cell-test.true
    (wave_step line w.cost cells (length cells) l.cell-index held_now c.loop-cell-test.true (omega arith)
    ∙ ap (λ (n : ℕ). rest (spread_around line w.cost n orthogonal held_now)) (sym c.from.ensures))
    c.spread_around.ensures
    (lent_around line w.cost p.in_wave.wave_in _ _ held_now _ orthogonal l.invariant.lent)

pub returns : goal.returns
returns c =
    let w = c.args.self.now in
    let cells = held c.args.cells.now in
    spread_ends c.loop-cell.invariant (omega arith) (wave_end (corner_line w.goal) w.cost cells (length cells))
