-- One mask of three flags: LOS, GOAL and BLOCKED (bits 16, 17, 18).
--     three_mask    the mask finds something in a word exactly where one of the three is set
--     none_set      of three flags of which none is set, each is false
--     one_set       a word with one of them set is left as it is by sight: BLOCKED or GOAL, or in sight and no wall
-- Assumes nothing.
use mathlib.Core.Path.{◌≡◌, refl, sym, ap, ◌∙◌}
use mathlib.Core.Bool.{Bool, true, false, not, cond, ◌||◌, true≢false}
use Prim.Native.Nat.{ℕ, ◌+◌, ◌*◌, ◌/◌, ◌%◌, ◌^◌, ◌<◌}
use native.Mathlib.Nat.{mod-lt}
use native.Mathlib.Omega.{arith}
use borrow.Author.Tests.{eq-eqb, ne_eqb, eqb-true, eqb-false}
use lib.Bits.{bit_and, and_high}
use lib.Dec.{eqb, lit<}
use Rattle.integration_field.specs.Word.{flag, is_los, is_goal, is_blocked}

-- three bits of a number, one by one
three_bits : (y : ℕ) → y % 8 ≡ y % 2 + y / 2 % 2 * 2 + y / 4 % 2 * 4
three_bits y =
    let second : y / 2 ≡ y / 4 * 2 + y / 2 % 2 = omega arith in
    let third : y / 4 ≡ y / 8 * 2 + y / 4 % 2 = omega arith in
    omega arith

module _ (x : ℕ) where
  -- what the mask leaves of a word
  masked : bit_and x 0x70000 ≡ (x / 2 ^ 16 % 2 + x / 2 ^ 17 % 2 * 2 + x / 2 ^ 18 % 2 * 4) * 2 ^ 16
  masked =
      let second : x / 2 ^ 16 / 2 ≡ x / 2 ^ 17 = omega arith in
      let third : x / 2 ^ 16 / 4 ≡ x / 2 ^ 18 = omega arith in
      and_high x 3 16 ∙ ap (λ (n : ℕ). n * 2 ^ 16) (rw (second, third) at (three_bits (x / 2 ^ 16)))

  -- a flag that is set, and one that is not
  flag_set : (k : ℕ) → flag k x ≡ true → x / 2 ^ k % 2 ≡ 1
  flag_set k e = eqb-true (x / 2 ^ k % 2) 1 e

  flag_clear : (k : ℕ) → flag k x ≡ false → x / 2 ^ k % 2 ≡ 0
  flag_clear k e =
      let small : x / 2 ^ k % 2 < 2 = mod-lt (x / 2 ^ k) (lit< tt) in
      omega (arith, eqb-false (x / 2 ^ k % 2) 1 e)

  pub three_mask : not (eqb (bit_and x 0x70000) 0) ≡ ((is_blocked x || is_goal x) || is_los x)
  three_mask = go (is_blocked x) (is_goal x) (is_los x) refl refl refl
    where
      m : ℕ
      m = bit_and x 0x70000

      go : (b g l : Bool) → is_blocked x ≡ b → is_goal x ≡ g → is_los x ≡ l → not (eqb m 0) ≡ ((b || g) || l)
      go true g l eb eg el = ap not (ne_eqb m 0 (λ e. omega (arith, masked, flag_set 18 eb)))
      go false true l eb eg el = ap not (ne_eqb m 0 (λ e. omega (arith, masked, flag_set 17 eg)))
      go false false true eb eg el = ap not (ne_eqb m 0 (λ e. omega (arith, masked, flag_set 16 el)))
      go false false false eb eg el = ap not (eq-eqb m 0 (omega (arith, masked, flag_clear 18 eb, flag_clear 17 eg, flag_clear 16 el)))

pub none_set : (b g l : Bool) → ((b || g) || l) ≡ false → (b ≡ false) × (g ≡ false) × (l ≡ false)
none_set true g l e = absurd (true≢false e)
none_set false true l e = absurd (true≢false e)
none_set false false true e = absurd (true≢false e)
none_set false false false e = (refl, refl, refl)

pub one_set : {A : Type 0} (b g i l : Bool) (s met seen : A) → ((b || g) || l) ≡ true → (l ≡ true → i ≡ false)
    → cond (b || g) s (cond i met (cond l s seen)) ≡ s
one_set true g i l s met seen e clear = refl
one_set false true i l s met seen e clear = refl
one_set false false i true s met seen e clear = rw (clear refl)
one_set false false i false s met seen e clear = absurd (true≢false (sym e))
