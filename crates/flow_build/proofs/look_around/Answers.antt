-- `flow_build::look_around` meets its contract: eight passes, each from where the one before came to. The keys are the same in all of them.
-- Assumes nothing.
use Rattle.utilities.specs.declared.CompassDir.TheVariants.{North, East, South, West, NorthEast, SouthEast, SouthWest, NorthWest}
use Rattle.flow_byte.specs.Look.{look_around}
use Rattle.flow_build.proofs.Passes.{pass_on}
use Rattle.flow_build.proofs.look_around.Goals as goal

pub returns : goal.returns
unfolding look_around
returns c =
    let cells = c.args.cells.now in
    λ held.
    pass_on cells NorthWest c.look_in_direction-8.ensures
    (pass_on cells SouthWest c.look_in_direction-7.ensures
    (pass_on cells SouthEast c.look_in_direction-6.ensures
    (pass_on cells NorthEast c.look_in_direction-5.ensures
    (pass_on cells West c.look_in_direction-4.ensures
    (pass_on cells South c.look_in_direction-3.ensures
    (pass_on cells East c.look_in_direction-2.ensures
    (pass_on cells North c.look_in_direction.ensures held)))))))
