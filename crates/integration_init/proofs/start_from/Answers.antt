-- `integration_init::start_from` meets its contract: walls, then the goal, then sight from it. The field holds what the waves of sight leave.
-- Assumes nothing.
use Rattle.std.proofs.Common.{refl}
use Rattle.integration_started.specs.Sight.{walls}
use Rattle.integration_started.specs.Started.{sight_from, started_from}
use Rattle.integration_init.proofs.Starts.{goal_sight, goal_ready}
use Rattle.integration_init.proofs.Waves.{held_field}
use Rattle.integration_init.proofs.start_from.Goals as goal

pub spread_sight-requires : goal.spread_sight-requires
spread_sight-requires c =
    rw (c.mark_walls.ensures, c.unmarked-field.ensures) (record { ready = goal_ready c.args.costs.now c.args.goal c.told-costs c.requires; none = refl; goal_in = c.requires })

pub returns : goal.returns
unfolding started_from sight_from
returns c =
    let costs = c.args.costs.now in
    held_field (c.spread_sight.ensures (walls costs) (rw (c.mark_walls.ensures, c.unmarked-field.ensures) (goal_sight costs c.args.goal)))
