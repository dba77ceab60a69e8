-- The invariant of `Wave::spread_wave` is `Spreading`: what is left of the wave from place k on does what the whole wave does.
-- Assumes nothing.
use Rattle.std.proofs.Common.{[], length}
use lib.Seq.{slice}
use Rattle.fields.specs.CellList.{held}
use Rattle.integration_started.specs.Sight.{wave_spread}
use Rattle.integration_started.specs.CornerLine.{corner_line}
use Rattle.integration_init.specs.Held.{sight_of}
use Rattle.integration_init.proofs.Spreads.{Spreading}
use Rattle.integration_init.proofs.Wave.spread_wave.Given as goal

abbrev pub invariant-loop-cell : goal.invariant-loop-cell
invariant-loop-cell l =
    let line = corner_line l.self.goal in
    Spreading (wave_spread line l.self.cost (held l.cells) (sight_of l.initial.field []))
    (λ k. wave_spread line l.self.cost (slice k (length (held l.cells)) (held l.cells))) (length (held l.cells)) l.self.goal l.self.ends l.field l.next
    l.cell-index
