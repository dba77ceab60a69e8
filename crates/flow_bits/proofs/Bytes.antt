-- Masks of a flow byte.
--     and_taken, and_left    two tests, one after the other
--     all_mask               `byte & 0xE0 == 0xE0`
--     dir_mask, dir_none     the direction of the low half
-- Assumes nothing.
use mathlib.Core.Path.{◌≡◌, refl, sym, ap, ◌∙◌}
use mathlib.Core.Bool.{Bool, true, false, ◌&&◌}
use Prim.Native.Nat.{ℕ, ◌*◌, ◌/◌, ◌%◌, ◌^◌}
use native.Mathlib.Omega.{arith}
use borrow.Author.Tests.{eq-eqb, ne_eqb, eqb-true, eqb-false}
use lib.Dec.{eqb}
use lib.Bits.{bit_and, and_high, and_mask}
use Rattle.utilities.specs.Compass.{all}
use Rattle.utilities.specs.declared.CompassDir.TheVariants.{Zero}
use Rattle.flow_bits.specs.Byte.{dir_with, dir_of, is_impassable}

-- `a == p && b`, where the first test is t: it holds, and the second decides; or it fails, and is the answer
module _ (a p : ℕ) (t b : Bool) (test : eqb a p ≡ t) where
  pub and_taken : (r : Bool) → a ≡ p → r ≡ b → r ≡ (t && b)
  and_taken r h e = rw (← test, eq-eqb a p h, e)

  pub and_left : (a ≡ p → ⊥) → eqb a p ≡ (t && b)
  and_left h = rw (← test, ne_eqb a p h)

seven_eqb : (b : ℕ) → eqb (b * 32) 224 ≡ eqb b 7
seven_eqb b = by_test (eqb b 7) refl
  where
    by_test : (t : Bool) → eqb b 7 ≡ t → eqb (b * 32) 224 ≡ t
    by_test true e = eq-eqb (b * 32) 224 (omega (arith, eqb-true b 7 e))
    by_test false e = ne_eqb (b * 32) 224 (λ h. eqb-false b 7 e (omega arith))

pub all_mask : (byte : ℕ) → eqb (bit_and byte 224) 224 ≡ is_impassable byte
all_mask byte = ap (λ (n : ℕ). eqb n 224) (and_high byte 3 5) ∙ seven_eqb (byte / 2 ^ 5 % 2 ^ 3)

pub dir_mask : (byte : ℕ) → dir_with all (bit_and byte 15) ≡ dir_of byte
unfolding dir_of
dir_mask byte = ap (dir_with all) (and_mask byte 4)

pub dir_none : (x : ℕ) → (x ≡ 1 → ⊥) → (x ≡ 2 → ⊥) → (x ≡ 4 → ⊥) → (x ≡ 8 → ⊥) → (x ≡ 3 → ⊥) → (x ≡ 6 → ⊥) → (x ≡ 12 → ⊥) → (x ≡ 9 → ⊥) → dir_with all x ≡ Zero
dir_none x n e s w ne se sw nw = rw (other 1 n, other 2 e, other 4 s, other 8 w, other 3 ne, other 6 se, other 12 sw, other 9 nw)
  where
    other : (k : ℕ) → (x ≡ k → ⊥) → eqb k x ≡ false
    other k f = ne_eqb k x (λ h. f (sym h))
