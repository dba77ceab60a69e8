-- `integration_bits::is_goal` meets its contract: a mask of one bit is a flag, whatever the bit (`integration_field/proofs/Flags.antt`).
-- Assumes nothing.
use Rattle.integration_field.proofs.Flags.{mask_flag}
use Rattle.integration_bits.proofs.is_goal.Goals as goal

pub returns : goal.returns
returns c = mask_flag c.args.word 17
