-- `flow_bits::has_line_of_sight` meets its contract: a mask of one bit is a flag.
-- Assumes nothing.
use Rattle.std.proofs.Common.{◌^◌, bit_and}
use Rattle.integration_field.specs.Word.{flag}
use Rattle.integration_field.proofs.Flags.{mask_flag}
use Rattle.flow_bits.specs.Byte.{is_pathable}
use Rattle.flow_bits.proofs.Bytes.{and_taken, and_left}
use Rattle.flow_bits.proofs.has_line_of_sight.Goals as goal

pub returns-then-byte-eq-BITS_HAS_LOS : goal.returns-then-byte-eq-BITS_HAS_LOS
returns-then-byte-eq-BITS_HAS_LOS c =
    let byte = c.args.byte in
    and_taken (bit_and byte (2 ^ 5)) (2 ^ 5) (flag 5 byte) (is_pathable byte) (mask_flag byte 5) _ c.if-byte-eq-BITS_HAS_LOS.true c.is_pathable.ensures

pub returns-else-byte-eq-BITS_HAS_LOS : goal.returns-else-byte-eq-BITS_HAS_LOS
returns-else-byte-eq-BITS_HAS_LOS c =
    let byte = c.args.byte in
    and_left (bit_and byte (2 ^ 5)) (2 ^ 5) (flag 5 byte) (is_pathable byte) (mask_flag byte 5) c.if-byte-eq-BITS_HAS_LOS.false
