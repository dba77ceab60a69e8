-- The bytes of a flow field, cell by cell.
--     built_byte_law, new_byte_law      the byte at an index
--     new_length                100 bytes
--     pointed_is                a byte made of a direction: its arrow has that direction's bits, and it has not all of 0xE0
--     portal_kept, window_bits_law  a window cell's byte, whatever the step's window: 0x10 is set, and not all of 0xE0
--     made_byte, portal_byte    the byte that building makes of a new one, and of a window cell's: it can be walked, so that it does not look
-- Assumes nothing.
use mathlib.Core.Path.{◌≡◌, refl, sym, ap, ◌∙◌}
use mathlib.Core.Bool.{Bool, true, false, true≢false, cond, not, ◌&&◌, ◌||◌}
use mathlib.Core.List.{List}
use Prim.Native.Nat.{ℕ, ◌+◌, ◌-◌, ◌%◌, ◌<◌, ◌≤◌}
use native.Mathlib.Omega.{arith}
use lib.Dec.{leb, eqb}
use lib.Bits.{bit_or}
use lib.ListN.{length, get_or, length-map}
use borrow.Author.Tests.{not-true}
use Rattle.utilities.specs.declared.CompassDir.{CompassDir}
use Rattle.utilities.specs.declared.CompassDir.TheVariants.{North, East, South, West, NorthEast, SouthEast, SouthWest, NorthWest, Zero}
use Rattle.utilities.specs.Compass.{points, opposite, lower_side}
use Rattle.utilities.proofs.Compass.{small}
use Rattle.utilities.specs.Lists.{below}
use Rattle.utilities.proofs.Lists.{table_at}
use Rattle.route.specs.declared.PortalWindow.{PortalWindow}
use Rattle.route.specs.Window.{stride}
use Rattle.route.proofs.Below.{holds_at}
use Rattle.flow_bits.specs.Byte.{bits_of, is_pathable, is_impassable}
use Rattle.flow_byte.specs.New.{is_in, start_of, facing_bits, facing_value, unless_end, facing_choice, window_bits, new_byte, new_bytes}
use Rattle.flow_byte.specs.Look.{pointed, built_byte, flow_build}

-- ---- a byte at an index

pub built_byte_law : (cells sheet : List ℕ) (i : ℕ) → i < 100 → get_or (flow_build cells sheet) i 0 ≡ built_byte cells i (get_or sheet i 0)
unfolding flow_build
built_byte_law cells sheet i h = table_at (λ i. built_byte cells i (get_or sheet i 0)) 0 100 i h

module _ (portal : PortalWindow) (window cells : List ℕ) (has : Bool) (previous : List ℕ) where
  pub new_byte_law : (i : ℕ) → i < 100 → get_or (new_bytes portal window cells has previous) i 0 ≡ new_byte portal window (get_or cells i 0) has previous i
  unfolding new_bytes
  new_byte_law i h = table_at (λ i. new_byte portal window (get_or cells i 0) has previous i) 0 100 i h

  pub new_length : length (new_bytes portal window cells has previous) ≡ 100
  unfolding new_bytes
  new_length = length-map (below 100) (λ i. new_byte portal window (get_or cells i 0) has previous i)

-- ---- a direction's byte

pub record Pointed (d : CompassDir) : Type 0 where
  pub arrow_is : pointed 0 d % 16 ≡ bits_of d
  pub unmarked : is_impassable (pointed 0 d) ≡ false

pub pointed_is : (d : CompassDir) → points d ≡ true → Pointed d
unfolding pointed
pointed_is North e = record { arrow_is = refl; unmarked = refl }
pointed_is East e = record { arrow_is = refl; unmarked = refl }
pointed_is South e = record { arrow_is = refl; unmarked = refl }
pointed_is West e = record { arrow_is = refl; unmarked = refl }
pointed_is NorthEast e = record { arrow_is = refl; unmarked = refl }
pointed_is SouthEast e = record { arrow_is = refl; unmarked = refl }
pointed_is SouthWest e = record { arrow_is = refl; unmarked = refl }
pointed_is NorthWest e = record { arrow_is = refl; unmarked = refl }
pointed_is Zero e = absurd (true≢false (sym e))

-- ---- a window cell's byte

-- bits below 0x20, or-ed onto 0x90
pub record Kept (byte : ℕ) : Type 0 where
  pub pathable : is_pathable byte ≡ true
  pub unmarked : is_impassable byte ≡ false

pub portal_kept : (b : ℕ) → b < 32 → Kept (bit_or 0x90 b)
portal_kept b h = record {
  pathable = holds_at 32 (λ b. is_pathable (bit_or 0x90 b)) refl b h;
  unmarked = not-true (is_impassable (bit_or 0x90 b)) (holds_at 32 (λ b. not (is_impassable (bit_or 0x90 b))) refl b h);
}

-- and onto the goal's 0x70
pub goal_kept : (b : ℕ) → b < 32 → Kept (bit_or 0x70 b)
goal_kept b h = record {
  pathable = holds_at 32 (λ b. is_pathable (bit_or 0x70 b)) refl b h;
  unmarked = not-true (is_impassable (bit_or 0x70 b)) (holds_at 32 (λ b. not (is_impassable (bit_or 0x70 b))) refl b h);
}

bits_few : (d : CompassDir) → bits_of d ≤ 12
bits_few d = let s = small d refl in omega (arith, s.columns, s.rows)

-- the bits of a side, straight or towards either end
abbrev pub side_bits : Bool → Bool → CompassDir → ℕ
side_bits straight lower side =
    cond straight (bits_of side) (cond lower (bits_of side + bits_of (lower_side side)) (bits_of side + bits_of (opposite (lower_side side))))

side_bits_law : (a b : Bool) (side : CompassDir) → side_bits a b side < 32
side_bits_law true b side = omega (arith, bits_few side)
side_bits_law false true side = omega (arith, bits_few side, bits_few (lower_side side))
side_bits_law false false side = omega (arith, bits_few side, bits_few (opposite (lower_side side)))

facing_bits_law : (side : CompassDir) (lower straight higher : ℕ) → facing_bits side lower straight higher < 32
unfolding facing_bits
facing_bits_law side lower straight higher = side_bits_law (leb straight lower && leb straight higher) (leb lower straight && leb lower higher) side

pub window_bits_law : (portal : PortalWindow) (has : Bool) (previous : List ℕ) (i : ℕ) → window_bits portal has previous i < 32
unfolding window_bits facing_choice
window_bits_law portal has previous i = go (not has || eqb portal.start portal.end)
  where
    side : CompassDir
    side = portal.boundary

    lower : ℕ
    lower = unless_end (eqb i portal.start) (facing_value previous side (i - stride side))

    higher : ℕ
    higher = unless_end (eqb i portal.end) (facing_value previous side (i + stride side))

    go : (t : Bool) → cond t (bits_of side) (facing_bits side lower (facing_value previous side i) higher) < 32
    go true = side_bits_law true true side
    go false = facing_bits_law side lower (facing_value previous side i) higher

-- ---- new and built

module _ (portal : PortalWindow) (window cells : List ℕ) (has : Bool) (previous : List ℕ) where
  abbrev bytes : List ℕ
  bytes = flow_build cells (new_bytes portal window cells has previous)

  -- what building begins from
  abbrev new_at : ℕ → ℕ
  new_at x = new_byte portal window (get_or cells x 0) has previous x

  pub made_byte : (x : ℕ) → x < 100 → get_or bytes x 0 ≡ built_byte cells x (new_at x)
  made_byte x h = built_byte_law cells (new_bytes portal window cells has previous) x h ∙ ap (built_byte cells x) (new_byte_law portal window cells has previous x h)

  pub portal_byte : (x : ℕ) → x < 100 → is_in x window ≡ true → get_or cells x 0 ≡ 0x80000 → get_or bytes x 0 ≡ bit_or 0x90 (window_bits portal has previous x)
  unfolding new_byte start_of built_byte
  portal_byte x h i e =
      let b = window_bits portal has previous x in
      let n : new_at x ≡ bit_or 0x90 b = rw (e, i) in
      rw (made_byte x h, n, (portal_kept b (window_bits_law portal has previous x)).pathable)
