-- `flow_bits::is_pathable` meets its contract: a mask of one bit is a flag.
-- Assumes nothing.
use Rattle.integration_field.proofs.Flags.{mask_flag}
use Rattle.flow_bits.proofs.is_pathable.Goals as goal

pub returns : goal.returns
returns c = mask_flag c.args.byte 4
