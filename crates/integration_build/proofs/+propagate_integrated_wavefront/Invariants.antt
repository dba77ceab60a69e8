-- `integration_build::propagate_integrated_wavefront` calls itself with one less of `falling`, which is its measure.
-- Assumes nothing.
use Rattle.integration_build.proofs.+propagate_integrated_wavefront.Given as goal

abbrev pub decreases-propagate_integrated_wavefront : goal.decreases-propagate_integrated_wavefront
decreases-propagate_integrated_wavefront l = l.falling
