-- Sums of a number and a difference.
--     sum_told, sum_made           a sum in ℤ, told by what the difference adds and takes away
--     within_true, true_within     what the test of a sum says
--     both_in, low_out, high_out   and what its two halves make of it
--     back                         the difference turned round takes the sum back
--     ten_rises, ten_falls         ten times a difference
--     single_read, rises_read      what is read back from a difference's 64 bits
--     Made, added, tenfold         a number that the machine makes of others, and what is read back from its bits
--     cast_back                    and casts to one that has no sign
--     sum                          the sum of a number and a difference
--     still_true, still_false      what the test of a difference says, of its bits
-- Assumes nothing.
use mathlib.Core.Path.{◌≡◌, refl, sym, subst, ap, ◌∙◌}
use mathlib.Core.Bool.{Bool, true, false, ◌&&◌, and-eq-true_iff, false≢true}
use Prim.Native.Nat.{ℕ, zero, suc, ◌+◌, ◌-◌, ◌*◌, ◌<◌, ◌≤◌, ◌^◌}
use native.Mathlib.Omega.{arith}
use lib.Dec.{T, leb, ltb}
use lib.IntN.{ℤ, pos, negsuc, nat_abs, neg_ℤ, sub_ℕ, ◌+ℤ◌, ◌*ℤ◌, +ℤ-neg_ℤ_cancel, pos-ne-negsuc}
use lib.Signed.{le_z, non_neg}
use mir.Syntax.{w64}
use mir.Val.{Fits, SFits, to_z, of_z}
use mir.ValLaws.{to_z-of_z, to_z_pos}
use borrow.Author.Tests.{lt-ltb, le-ltb, ltb-true, ltb-false, leb-true, le-leb, ne_eqb}
use Rattle.utilities.specs.Compass.{within, rises, falls, still}

-- a difference of two numbers
sub_pos : (a b : ℕ) → b ≤ a → sub_ℕ a b ≡ pos (a - b)
sub_pos a b h = rw (le-ltb a b h)

sub_neg : (a b : ℕ) → a < b → sub_ℕ a b ≡ negsuc (b - suc a)
sub_neg a b h = rw (lt-ltb a b h)

sub_told : (a b n : ℕ) → pos n ≡ sub_ℕ a b → n + b ≡ a
sub_told a b n e = go (ltb a b) refl
  where
    go : (t : Bool) → ltb a b ≡ t → n + b ≡ a
    go true q = absurd (pos-ne-negsuc n _ (e ∙ sub_neg a b (ltb-true a b q)))
    go false q = let k : n ≡ a - b = ap nat_abs (e ∙ sub_pos a b (ltb-false a b q)) in omega (arith, ltb-false a b q)

pub sum_told : (x n : ℕ) (δ : ℤ) → pos n ≡ pos x +ℤ δ → n + falls δ ≡ x + rises δ
sum_told x n (pos k) e = let p : n ≡ x + k = ap nat_abs e in omega arith
sum_told x n (negsuc k) e = let p : n + suc k ≡ x = sub_told x (suc k) n e in omega arith

pub sum_made : (x n : ℕ) (δ : ℤ) → n + falls δ ≡ x + rises δ → pos n ≡ pos x +ℤ δ
sum_made x n (pos k) e = let p : n ≡ x + k = omega arith in ap pos p
sum_made x n (negsuc k) e = let p : x - suc k ≡ n = omega arith in sym (sub_pos x (suc k) (omega arith) ∙ ap pos p)

pub within_true : (m : ℕ) (s : ℤ) → within m s ≡ true → (s ≡ pos (nat_abs s)) × (nat_abs s ≤ m)
within_true m (pos n) e = (refl, leb-true n m ((and-eq-true_iff (leb 0 n) (leb n m)).0 e).1)
within_true m (negsuc n) e = absurd (false≢true e)

pub true_within : (m n : ℕ) → n ≤ m → within m (pos n) ≡ true
true_within m n h = rw (le-leb 0 n (omega arith), le-leb n m h)

pub back : (x n : ℕ) (δ : ℤ) → pos n ≡ pos x +ℤ δ → pos x ≡ pos n +ℤ neg_ℤ δ
back x n δ e = rw e (sym (+ℤ-neg_ℤ_cancel (pos x) δ))

neg_rises : (n : ℕ) → rises (neg_ℤ (pos n)) ≡ 0
neg_rises zero = refl
neg_rises (suc n) = refl

neg_falls : (n : ℕ) → falls (neg_ℤ (pos n)) ≡ n
neg_falls zero = refl
neg_falls (suc n) = omega arith

pub ten_rises : (δ : ℤ) → rises (δ *ℤ pos 10) ≡ rises δ * 10
ten_rises (pos n) = refl
ten_rises (negsuc n) = neg_rises (suc n * 10)

pub ten_falls : (δ : ℤ) → falls (δ *ℤ pos 10) ≡ falls δ * 10
ten_falls (pos n) = refl
ten_falls (negsuc n) = omega (arith, neg_falls (suc n * 10))

-- ---- in 64 bits
pub record Single (δ : ℤ) : Type 0 where
  pub one : rises δ + falls δ ≤ 1

few_fits : (δ : ℤ) → rises δ + falls δ < 2 ^ 62 → SFits w64 δ
few_fits (pos n) h = record { sfits = omega arith }
few_fits (negsuc n) h = record { sfits = omega arith }

pub plain_fits : (x : ℕ) (δ : ℤ) → x < 2 ^ 62 → rises δ + falls δ < 2 ^ 62 → SFits w64 (pos x +ℤ δ)
plain_fits x (pos n) h s = record { sfits = omega arith }
plain_fits x (negsuc n) h s = go (ltb x (suc n)) refl
  where
    go : (t : Bool) → ltb x (suc n) ≡ t → SFits w64 (sub_ℕ x (suc n))
    go true q = rw (sub_neg x (suc n) (ltb-true x (suc n) q)) (record { sfits = omega arith })
    go false q = rw (sub_pos x (suc n) (ltb-false x (suc n) q)) (record { sfits = omega arith })

pub natural_fits : {z : ℤ} {n : ℕ} → pos n ≡ z → n < 2 ^ 62 → SFits w64 z
natural_fits e h = rw (← e) (record { sfits = omega arith })

pub single_read : (δ : ℤ) → Single δ → to_z w64 (of_z w64 δ) ≡ δ
single_read δ s = to_z-of_z w64 δ (few_fits δ (omega (arith, s.one)))

-- what a difference adds, by what is read back from its bits: 1 at most
pub rises_read : {n : ℕ} (δ : ℤ) → Single δ → n ≡ rises (to_z w64 (of_z w64 δ)) → (n ≡ rises δ) × (n ≤ 1)
rises_read δ s e = let p = e ∙ ap rises (single_read δ s) in (p, omega (arith, p, s.one))

-- what the machine makes of two numbers that it reads
pub record Made (s z : ℤ) : Type 0 where
  pub fits : SFits w64 s
  pub read : to_z w64 (of_z w64 s) ≡ z

made : {s z : ℤ} → s ≡ z → SFits w64 z → Made s z
made {s} {z} e f = let g = subst (SFits w64) (sym e) f in record { fits = g; read = to_z-of_z w64 s g ∙ e }

pub added : {x y a b : ℤ} → x ≡ a → y ≡ b → SFits w64 (a +ℤ b) → Made (x +ℤ y) (a +ℤ b)
added p q = made (λ i. p i +ℤ q i)

pub tenfold : {x : ℤ} (δ : ℤ) → x ≡ δ → Single δ → Made (x *ℤ pos 10) (δ *ℤ pos 10)
tenfold δ p s = made (λ i. p i *ℤ pos 10) (few_fits (δ *ℤ pos 10) (omega (arith, s.one, ten_rises δ, ten_falls δ)))

pub sum : (x : ℕ) (δ : ℤ) → x < 2 ^ 62 → Single δ → Made (to_z w64 x +ℤ to_z w64 (of_z w64 δ)) (pos x +ℤ δ)
sum x δ h s = added (to_z_pos w64 x (omega arith)) (single_read δ s) (plain_fits x δ h (omega (arith, s.one)))

-- its test, in two halves
module _ (m : ℕ) {s z : ℤ} (w : Made s z) where
  pub both_in : le_z (pos 0) (to_z w64 (of_z w64 s)) ≡ true → le_z (to_z w64 (of_z w64 s)) (pos m) ≡ true → within m z ≡ true
  both_in p q = rw (← w.read, p, q)

  pub low_out : le_z (pos 0) (to_z w64 (of_z w64 s)) ≡ false → within m z ≡ false
  low_out p = rw (← w.read, p)

  pub high_out : le_z (to_z w64 (of_z w64 s)) (pos m) ≡ false → within m z ≡ false
  high_out q = rw (← w.read, q) (nothing (le_z (pos 0) (to_z w64 (of_z w64 s))))
    where
      nothing : (b : Bool) → (b && false) ≡ false
      nothing true = refl
      nothing false = refl

-- a number that is not below 0, cast back
pub cast_back : {z : ℤ} (n : ℕ) → z ≡ pos n → n < 2 ^ 64 → T (non_neg z) × Fits w64 (nat_abs z)
cast_back n e h = rw e (tt, record { fits = h })

-- a test of a difference is one of its bits
pub still_true : (δ : ℤ) → Single δ → of_z w64 δ ≡ 0 → still δ ≡ true
still_true (pos n) s e = rw e
still_true (negsuc n) s e = absurd (omega (arith, s.one))

pub still_false : (δ : ℤ) → (of_z w64 δ ≡ 0 → ⊥) → still δ ≡ false
still_false (pos n) f = ne_eqb n 0 f
still_false (negsuc n) f = ne_eqb (suc n) 0 (λ e. omega arith)
