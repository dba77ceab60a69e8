-- The flow byte (01, "Flow byte"): a direction in the low half, flags in the high half.
-- Assumes nothing.
use Rattle.std.specs.Prelude.{Bool, cond, not, ◌&&◌, List, [], ◌∷◌, ℕ, ◌+◌, ◌*◌, ◌/◌, ◌%◌, ◌^◌, eqb}
use Rattle.utilities.specs.declared.CompassDir.{CompassDir}
use Rattle.utilities.specs.declared.CompassDir.TheVariants.{Zero}
use Rattle.utilities.specs.Compass.{differences, rises, falls, all}
use Rattle.integration_field.specs.Word.{flag}

-- a direction's bits: N 1, E 2, S 4, W 8, diagonals by sum; Zero has none
abbrev pub bits_of : CompassDir → ℕ
bits_of d = let δ = differences d in falls δ.row * 1 + rises δ.column * 2 + rises δ.row * 4 + falls δ.column * 8

-- the first direction of a list that has these bits, Zero where none has
abbrev pub dir_with : List CompassDir → ℕ → CompassDir
dir_with [] bits = Zero
dir_with (d ∷ ds) bits = cond (eqb (bits_of d) bits) d (dir_with ds bits)

-- the direction of a byte: the one whose bits are its low half
unfoldable pub dir_of : ℕ → CompassDir
dir_of byte = dir_with all (byte % 16)

-- 0x10, a cell that can be walked
abbrev pub is_pathable : ℕ → Bool
is_pathable byte = flag 4 byte

-- all of 0xE0
abbrev pub is_impassable : ℕ → Bool
is_impassable byte = eqb (byte / 2 ^ 5 % 2 ^ 3) 7

-- the flags 0x20, 0x40 and 0x80 are read where 0x10 is set, and a wall where it is not
abbrev pub has_line_of_sight : ℕ → Bool
has_line_of_sight byte = flag 5 byte && is_pathable byte

abbrev pub is_goal : ℕ → Bool
is_goal byte = flag 6 byte && is_pathable byte

abbrev pub is_portal_goal : ℕ → Bool
is_portal_goal byte = flag 7 byte && is_pathable byte

abbrev pub is_wall : ℕ → Bool
is_wall byte = is_impassable byte && not (is_pathable byte)
