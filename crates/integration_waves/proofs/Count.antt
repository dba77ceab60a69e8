-- How many numbers below n pass a test.
-- Assumes nothing.
use mathlib.Core.Path.{◌≡◌, refl, subst}
use mathlib.Core.Bool.{Bool, true, false}
use Prim.Native.Nat.{ℕ, zero, suc, ◌+◌, ◌≤◌, ◌<◌}
use native.Mathlib.Omega.{arith}
use native.Mathlib.Decide.{ℕ_discrete}
use lib.Dec.{leb}
use borrow.Author.Tests.{leb-true, leb-false}

abbrev pub bit : Bool → ℕ
bit true = 1
bit false = 0

pub count : ℕ → (ℕ → Bool) → ℕ
count zero p = zero
count (suc n) p = bit (p n) + count n p

bit_le : (b : Bool) → bit b ≤ 1
bit_le true = omega arith
bit_le false = omega arith

pub count_le : (n : ℕ) (p : ℕ → Bool) → count n p ≤ n
unfolding count
count_le zero p = omega arith
count_le (suc n) p = omega (arith, bit_le (p n), count_le n p)

-- a test that passes wherever another does counts no less
count_mono : (n : ℕ) (p q : ℕ → Bool) → ((x : ℕ) → bit (p x) ≤ bit (q x)) → count n p ≤ count n q
unfolding count
count_mono zero p q h = omega arith
count_mono (suc n) p q h = omega (arith, h n, count_mono n p q h)

-- and more, if it passes at one more
pub count_more : (n : ℕ) (p q : ℕ → Bool) → ((x : ℕ) → bit (p x) ≤ bit (q x)) → (x : ℕ) → x < n → bit (p x) < bit (q x) → count n p < count n q
unfolding count
count_more zero p q h x l e = omega arith
count_more (suc n) p q h x l e =
    elim (ℕ_discrete x n) [ yes same ↦ omega (arith, count_mono n p q h, at same) | no other ↦ omega (arith, h n, count_more n p q h x (omega arith) e) ]
  where
    at : x ≡ n → bit (p n) < bit (q n)
    at same = subst (λ (y : ℕ). bit (p y) < bit (q y)) same e

pub leb_grows : (a b c d : ℕ) → b ≤ a → c ≤ d → bit (leb a c) ≤ bit (leb b d)
leb_grows a b c d h l = go (leb a c) (leb b d) refl refl
  where
    go : (s t : Bool) → leb a c ≡ s → leb b d ≡ t → bit s ≤ bit t
    go true true p q = omega arith
    go true false p q = omega (arith, leb-true a c p, leb-false b d q)
    go false true p q = omega arith
    go false false p q = omega arith
