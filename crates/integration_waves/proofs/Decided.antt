-- What waves are leaves no choice.
--     waves_decide_values    two runs of waves over the same grid leave the same in every cell, wave after wave
-- Assumes nothing.
use mathlib.Core.Path.{◌≡◌, sym}
use Prim.Native.Nat.{ℕ, zero, suc, ◌≤◌, ◌<◌}
use native.Mathlib.Omega.{arith}
use native.Mathlib.Decide.{dec_lt}
use Rattle.integration_waves.specs.Walks.{Grid}
use Rattle.integration_waves.specs.Waves.{Changed, Waves}

module _ (g : Grid) (Open : ℕ → Type 0) where
  -- wave k left the same in both runs, and what it changed in one it changed in the other
  abbrev Alike : (ℕ → ℕ → ℕ) → (ℕ → ℕ → ℕ) → ℕ → Type 0
  Alike v u k = ((x : ℕ) → v k x ≡ u k x) × ((y : ℕ) → Changed g Open v k y → Changed g Open u k y)

  -- then the next wave of the second leaves no more than that of the first: it takes the same offers
  not_above : (v u : ℕ → ℕ → ℕ) → Waves g Open v → Waves g Open u → (k : ℕ) → Alike v u k → (x : ℕ) → u (suc k) x ≤ v (suc k) x
  not_above v u p q k a x = go (dec_lt (v (suc k) x) (v k x))
    where
      go : Dec (v (suc k) x < v k x) → u (suc k) x ≤ v (suc k) x
      go (yes c) = let h = p.offered k x c in omega (arith, h.4, a.0 h.0, q.relaxes k h.0 x (a.1 h.0 h.1) h.2 h.3)
      go (no n) = omega (arith, a.0 x, q.falls k x)

  module _ (v u : ℕ → ℕ → ℕ) (p : Waves g Open v) (q : Waves g Open u) where
    alike : (k : ℕ) → Alike v u k × Alike u v k
    alike zero = ((λ x. omega (arith, p.begins x, q.begins x), λ y c. c), (λ x. omega (arith, p.begins x, q.begins x), λ y c. c))
    alike (suc k) = on (alike k)
      where
        on : Alike v u k × Alike u v k → Alike v u (suc k) × Alike u v (suc k)
        on (a, b) =
            let same : (x : ℕ) → v (suc k) x ≡ u (suc k) x = λ x. omega (arith, not_above v u p q k a x, not_above u v q p k b x) in
            ((same, λ y c. omega (arith, same y, a.0 y)), (λ x. sym (same x), λ y c. omega (arith, same y, a.0 y)))

    pub waves_decide_values : (k x : ℕ) → v k x ≡ u k x
    waves_decide_values k x = (alike k).0.0 x
