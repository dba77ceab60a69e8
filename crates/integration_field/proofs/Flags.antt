-- A mask of one bit is the flag of that bit, whatever the bit.
--     mask_flag     `x & m == m` with m = 2 ^ k
--     small_flag    a number below 2 ^ k has no bit k
-- Assumes nothing.
use mathlib.Core.Path.{◌≡◌, ap, ◌∙◌}
use mathlib.Core.Bool.{false}
use Prim.Native.Nat.{ℕ, zero, suc, ◌+◌, ◌-◌, ◌*◌, ◌<◌, ◌/◌, ◌%◌, ◌^◌}
use native.Mathlib.Nat.{mod-lt, div-eq_of_lt}
use native.Mathlib.Omega.{arith}
use borrow.Author.Tests.{eq-eqb, ne_eqb}
use lib.Dec.{eqb, lit<}
use lib.Bits.{bit_and, and_high}
use lib.Pow.{pow_pos}
use Rattle.integration_field.specs.Word.{flag}

bit_eqb : (b p : ℕ) → b < 2 → 0 < p → eqb (b * p) p ≡ eqb b 1
bit_eqb zero p l h = ne_eqb (0 * p) p (λ e. omega arith)
bit_eqb (suc zero) p l h = eq-eqb (1 * p) p (omega arith)
bit_eqb (suc (suc b)) p l h = absurd (omega arith)

pub mask_flag : (x k : ℕ) → eqb (bit_and x (2 ^ (1 + k) - 2 ^ k)) (2 ^ k) ≡ flag k x
mask_flag x k = ap (λ (n : ℕ). eqb n (2 ^ k)) (and_high x 1 k) ∙ bit_eqb (x / 2 ^ k % 2) (2 ^ k) (mod-lt (x / 2 ^ k) (lit< tt)) (pow_pos k)

pub small_flag : (x k : ℕ) → x < 2 ^ k → flag k x ≡ false
small_flag x k h = rw (div-eq_of_lt h)
