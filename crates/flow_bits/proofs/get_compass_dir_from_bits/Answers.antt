-- `flow_bits::get_compass_dir_from_bits` meets its contract: the masked low half names the direction, or none.
-- Assumes nothing.
use Rattle.std.proofs.Common.{◌≡◌, ℕ, sym, ap, ◌∙◌, bit_and, rules}
use Rattle.utilities.specs.Compass.{all}
use Rattle.flow_bits.specs.Byte.{dir_with, dir_of}
use Rattle.flow_bits.proofs.Bytes.{dir_mask, dir_none}
use Rattle.flow_bits.proofs.get_compass_dir_from_bits.Goals as goal

named : (byte x : ℕ) → bit_and byte 15 ≡ x → dir_with all x ≡ dir_of byte
named byte x e = ap (dir_with all) (sym e) ∙ dir_mask byte

pub returns-in-1 : goal.returns-in-1
returns-in-1 c = named c.args.byte 1 c.in-1.is

pub returns-in-2 : goal.returns-in-2
returns-in-2 c = named c.args.byte 2 c.in-2.is

pub returns-in-4 : goal.returns-in-4
returns-in-4 c = named c.args.byte 4 c.in-4.is

pub returns-in-8 : goal.returns-in-8
returns-in-8 c = named c.args.byte 8 c.in-8.is

pub returns-in-3 : goal.returns-in-3
returns-in-3 c = named c.args.byte 3 c.in-3.is

pub returns-in-6 : goal.returns-in-6
returns-in-6 c = named c.args.byte 6 c.in-6.is

pub returns-in-12 : goal.returns-in-12
returns-in-12 c = named c.args.byte 12 c.in-12.is

pub returns-in-9 : goal.returns-in-9
returns-in-9 c = named c.args.byte 9 c.in-9.is

pub returns-in_default : goal.returns-in_default
returns-in_default c =
    let byte = c.args.byte in
    sym (dir_none (bit_and byte 15)
    (search rules) (search rules) (search rules) (search rules) (search rules) (search rules) (search rules) (search rules))
    ∙ dir_mask byte
