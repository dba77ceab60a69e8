-- A test that holds for each number below n, computed once.
-- Assumes nothing.
use mathlib.Core.Path.{◌≡◌}
use mathlib.Core.Bool.{Bool, true, ◌&&◌, and-eq-true_iff}
use Prim.Native.Nat.{ℕ, zero, suc, ◌<◌}
use native.Mathlib.Omega.{arith}
use native.Mathlib.Decide.{ℕ_discrete}
use native.Mathlib.Nat.{not-suc-le-zero}
use lib.Dec.{eqb}
use borrow.Author.Tests.{eqb-true}

abbrev pub holds : ℕ → (ℕ → Bool) → Bool
holds zero t = true
holds (suc n) t = t n && holds n t

pub holds_at : (n : ℕ) (t : ℕ → Bool) → holds n t ≡ true → (k : ℕ) → k < n → t k ≡ true
holds_at zero t e k h = absurd (not-suc-le-zero h)
holds_at (suc n) t e k h = pick (ℕ_discrete k n) (λ l. holds_at n t p.1 k l)
  where
    p : (t n ≡ true) × (holds n t ≡ true)
    p = (and-eq-true_iff (t n) (holds n t)).0 e

    pick : Dec (k ≡ n) → (k < n → t k ≡ true) → t k ≡ true
    pick (yes q) f = rw q p.0
    pick (no q) f = f (omega arith)

-- two functions that agree at each number below n
pub same_at : (n : ℕ) (f g : ℕ → ℕ) → holds n (λ k. eqb (f k) (g k)) ≡ true → (k : ℕ) → k < n → f k ≡ g k
same_at n f g e k h = eqb-true (f k) (g k) (holds_at n (λ k. eqb (f k) (g k)) e k h)
