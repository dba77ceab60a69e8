-- `integration_target::build_window` meets its contract: the field that starts at the window's cells is the one that the target starts.
-- Assumes nothing.
use mathlib.Core.Path.{ap, ◌∙◌}
use Rattle.route.specs.Inner.{held_cells}
use Rattle.route.specs.Target.{to_window}
use Rattle.integration_started.specs.Started.{started}
use Rattle.integration_build.specs.Without.{built_without}
use Rattle.integration_walks.proofs.Promise.{accepts_started}
use Rattle.integration_target.proofs.build_window.Goals as goal

pub build_without_positions-requires : goal.build_without_positions-requires
unfolding started
build_without_positions-requires c =
    rw c.start_at-field.ensures (accepts_started c.args.costs.now (to_window (held_cells c.args.window)) c.told-costs c.requires.window_in)

pub returns : goal.returns
unfolding started
returns c = c.build_without_positions.ensures ∙ ap (built_without c.args.costs.now) c.start_at-field.ensures
