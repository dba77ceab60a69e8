-- `Wave::meet_wall` meets its contract: one side after the other.
-- Assumes nothing.
use Rattle.std.proofs.Common.{◌≡◌, ap, ◌∙◌}
use Rattle.utilities.specs.declared.CompassDir.{CompassDir}
use Rattle.utilities.specs.Compass.{opposite, lower_side}
use Rattle.integration_started.specs.Sight.{Sight, side_tried, wall_met}
use Rattle.integration_started.specs.CornerLine.{corner_line}
use Rattle.integration_init.proofs.Held.{applied_ready, applied_then}
use Rattle.integration_init.proofs.Wave.meet_wall.Goals as goal

pub try_side-requires-2 : goal.try_side-requires-2
try_side-requires-2 c =
    let a = c.args in
    let tried : CompassDir → Sight → Sight = λ (side : CompassDir). side_tried (corner_line a.self.now.goal) a.self.now.cost a.from a.wall side in
    record {
      ready = applied_ready c.requires.ready (tried c.lower_side-side.result) c.try_side.ensures;
      in_wave = c.requires.in_wave;
      wall_in = c.requires.wall_in;
    }

pub returns : goal.returns
unfolding wall_met
returns c =
    let a = c.args in
    let tried : CompassDir → Sight → Sight = λ (side : CompassDir). side_tried (corner_line a.self.now.goal) a.self.now.cost a.from a.wall side in
    let e : c.lower_side-side.result ≡ lower_side a.dir = c.lower_side-side.ensures in
    let f : c.inverse.result ≡ opposite (lower_side a.dir) = c.inverse.ensures ∙ ap opposite e in
    rw (← f, ← e)
    (applied_then c.requires.ready (tried c.lower_side-side.result) c.try_side.ensures (tried c.inverse.result) c.try_side-2.ensures)
