-- A run of n numbers from x, each d more than the one before.
-- Assumes nothing.
use mathlib.Core.Path.{◌≡◌, refl, ap}
use mathlib.Core.List.{List, [], ◌∷◌}
use Prim.Native.Nat.{ℕ, zero, suc, ◌+◌, ◌*◌, ◌<◌}
use native.Mathlib.Nat.{le_of_suc-le-suc, not-suc-le-zero, suc-mul}
use native.Mathlib.Omega.{arith}
use lib.ListN.{length, get_or}

abbrev pub run : ℕ → ℕ → ℕ → List ℕ
run zero x d = []
run (suc n) x d = x ∷ run n (x + d) d

pub run_length : (n x d : ℕ) → length (run n x d) ≡ n
run_length zero x d = refl
run_length (suc n) x d = ap suc (run_length n (x + d) d)

pub run_at : (n x d k : ℕ) → k < n → get_or (run n x d) k 0 ≡ x + k * d
run_at zero x d k h = absurd (not-suc-le-zero h)
run_at (suc n) x d zero h = omega arith
run_at (suc n) x d (suc k) h = omega (arith, run_at n (x + d) d k (le_of_suc-le-suc h), suc-mul k d)
