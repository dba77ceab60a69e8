-- `integration_build::corner_wave`, the loop's invariant: the places hold the corners before this one.
-- Assumes nothing.
use mathlib.Core.Path.{◌≡◌}
use lib.ListN.{take}
use Rattle.integration_field.specs.Listed.{padded}
use Rattle.integration_build.proofs.corner_wave.Given as goal

abbrev pub invariant-loop-corner : goal.invariant-loop-corner
invariant-loop-corner l = l.wave ≡ record { cells = padded (take l.corner-index l.corners); count = l.corner-index }
