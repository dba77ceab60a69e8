-- The invariant of `Wave::spread_around` is `Spreading`: the directions that are left do what all four do.
-- Assumes nothing.
use Rattle.std.proofs.Common.{drop}
use Rattle.utilities.specs.Compass.{orthogonal}
use Rattle.fields.specs.CellList.{held}
use Rattle.integration_started.specs.Sight.{spread_around}
use Rattle.integration_started.specs.CornerLine.{corner_line}
use Rattle.integration_init.specs.Held.{sight_of}
use Rattle.integration_init.proofs.Spreads.{Spreading}
use Rattle.integration_init.proofs.Wave.spread_around.Given as goal

abbrev pub invariant-loop-side : goal.invariant-loop-side
invariant-loop-side l =
    let line = corner_line l.self.goal in
    Spreading (spread_around line l.self.cost l.from orthogonal (sight_of l.initial.field (held l.initial.next)))
    (λ k. spread_around line l.self.cost l.from (drop k orthogonal)) 4 l.self.goal l.self.ends l.field l.next l.side
