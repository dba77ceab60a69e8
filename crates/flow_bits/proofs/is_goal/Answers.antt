-- `flow_bits::is_goal` meets its contract: a mask of one bit is a flag.
-- Assumes nothing.
use Rattle.std.proofs.Common.{◌^◌, bit_and}
use Rattle.integration_field.specs.Word.{flag}
use Rattle.integration_field.proofs.Flags.{mask_flag}
use Rattle.flow_bits.specs.Byte.{is_pathable}
use Rattle.flow_bits.proofs.Bytes.{and_taken, and_left}
use Rattle.flow_bits.proofs.is_goal.Goals as goal

pub returns-then-byte-eq-BITS_GOAL : goal.returns-then-byte-eq-BITS_GOAL
returns-then-byte-eq-BITS_GOAL c =
    let byte = c.args.byte in
    and_taken (bit_and byte (2 ^ 6)) (2 ^ 6) (flag 6 byte) (is_pathable byte) (mask_flag byte 6) _ c.if-byte-eq-BITS_GOAL.true c.is_pathable.ensures

pub returns-else-byte-eq-BITS_GOAL : goal.returns-else-byte-eq-BITS_GOAL
returns-else-byte-eq-BITS_GOAL c =
    let byte = c.args.byte in
    and_left (bit_and byte (2 ^ 6)) (2 ^ 6) (flag 6 byte) (is_pathable byte) (mask_flag byte 6) c.if-byte-eq-BITS_GOAL.false
