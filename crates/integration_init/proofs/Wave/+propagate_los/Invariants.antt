-- `integration_init::propagate_los` calls itself with one less of `falling`, which is its measure.
-- Assumes nothing.
use Rattle.integration_init.proofs.Wave.+propagate_los.Given as goal

abbrev pub decreases-propagate_los : goal.decreases-propagate_los
decreases-propagate_los l = l.falling
