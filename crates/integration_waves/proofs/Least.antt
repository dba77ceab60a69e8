-- Waves find the least walks.
--     changed_walk    what wave k changes is the sum of a walk of k moves (tight)
--     fallen_walk     what wave k leaves below its value before is the sum of a walk of at most k moves
--     walk_above      no walk of at most k moves comes to less than what wave k leaves
--     walk_into       a walk read under another rule of entering
-- Assumes nothing.
use mathlib.Core.Path.{◌≡◌}
use mathlib.Core.Logic.{◌⊎◌, inl, inr}
use Prim.Native.Nat.{ℕ, zero, suc, ◌≤◌, ◌<◌}
use native.Mathlib.Nat.{lt_of_not-le}
use native.Mathlib.Omega.{arith}
use native.Mathlib.Decide.{dec_le}
use Rattle.integration_waves.specs.Walks.{Grid, Walk, start, move, Below}
use Rattle.integration_waves.specs.Waves.{Changed, offer, Waves}

pub walk_into : (g : Grid) (A B : ℕ → ℕ → Type 0) → ((x s : ℕ) → A x s → B x s) → {k x s : ℕ} → Walk g A k x s → Walk g B k x s
walk_into g A B f (start c e) = start c e
walk_into g A B f (move {x = x} {s = s} p b a e) = move (walk_into g A B f p) b (f x s a) e

module _ (g : Grid) (Open : ℕ → Type 0) (value : ℕ → ℕ → ℕ) (w : Waves g Open value) where
  below_before : (k x : ℕ) → value k x ≤ g.before x
  below_before zero x = omega (arith, w.begins x)
  below_before (suc k) x = omega (arith, w.falls k x, below_before k x)

  -- ---- a change is a walk

  pub changed_walk : (k x : ℕ) → Changed g Open value k x → Walk g (Below g Open) k x (value k x)
  changed_walk zero x c = start c (w.begins x)
  changed_walk (suc k) x c =
      let h = w.offered k x c in
      move {s = value (suc k) x} (changed_walk k h.0 h.1) h.2 (h.3, omega (arith, below_before k x)) h.4

  -- a walk of at most k moves that comes to what wave k leaves in a cell
  abbrev pub Fallen : ℕ → ℕ → Type 0
  Fallen k x = (j : ℕ) × (j ≤ k) × Walk g (Below g Open) j x (value k x)

  pub fallen_walk : (k x : ℕ) → value k x < g.before x → Fallen k x
  fallen_walk zero x l = absurd (omega (arith, w.begins x))
  fallen_walk (suc k) x l = go (dec_le (value k x) (value (suc k) x)) (λ h. fallen_walk k x h)
    where
      same : value (suc k) x ≡ value k x → Fallen k x → Fallen (suc k) x
      same e f = (f.0, omega (arith, f.1), rw e f.2)

      go : Dec (value k x ≤ value (suc k) x) → (value k x < g.before x → Fallen k x) → Fallen (suc k) x
      go (yes h) ih = same (omega (arith, w.falls k x)) (ih (omega arith))
      go (no h) ih = (suc k, omega arith, changed_walk (suc k) x (lt_of_not-le h))

  -- ---- no walk is below

  -- a cell that the waves have come to
  abbrev Reached : ℕ → ℕ → Type 0
  Reached k y = g.Corner y ⊎ (value k y < g.before y)

  -- a reached cell that the last wave did not change has made its offers
  relaxed : (k y x : ℕ) → Reached k y → g.Beside y x → Open x → Changed g Open value k y ⊎ (value k x ≤ offer g Open value k y x)
  relaxed zero y x (inl c) b o = inl c
  relaxed zero y x (inr l) b o = absurd (omega (arith, w.begins y))
  relaxed (suc k) y x r b o = go (dec_le (value k y) (value (suc k) y)) (λ q. relaxed k y x q b o)
    where
      was : value k y ≤ value (suc k) y → Reached (suc k) y → Reached k y
      was h (inl c) = inl c
      was h (inr l) = inr (omega (arith, w.falls k y))

      after : value k y ≤ value (suc k) y → Changed g Open value k y ⊎ (value k x ≤ offer g Open value k y x)
          → value (suc k) x ≤ offer g Open value (suc k) y x
      after h (inl c) = omega (arith, w.relaxes k y x c b o)
      after h (inr l) = omega (arith, w.falls k x)

      go : Dec (value k y ≤ value (suc k) y) → (Reached k y → Changed g Open value k y ⊎ (value k x ≤ offer g Open value k y x))
          → Changed g Open value (suc k) y ⊎ (value (suc k) x ≤ offer g Open value (suc k) y x)
      go (yes h) ih = inr (after h (ih (was h r)))
      go (no h) ih = inl (lt_of_not-le h)

  reached : (k j y t : ℕ) → Walk g (Below g Open) j y t → value k y ≤ t → Reached k y
  reached k j y t (start c e) h = inl c
  reached k j y t (move p b o e) h = inr (omega (arith, o.1))

  pub walk_above : (k j x s : ℕ) → Walk g (Below g Open) j x s → j ≤ k → value k x ≤ s
  walk_above k j x s (start c e) h = omega (arith, below_before k x)
  walk_above zero j x s (move p b o e) h = absurd (omega arith)
  walk_above (suc k) j x s (move {k = i} {y = y} {t = t} p b o e) h = go (walk_above k i y t p (omega arith))
    where
      at : value k y ≤ t → Changed g Open value k y ⊎ (value k x ≤ offer g Open value k y x) → value (suc k) x ≤ s
      at v (inl c) = omega (arith, w.relaxes k y x c b o.0)
      at v (inr r) = omega (arith, w.falls k x)

      go : value k y ≤ t → value (suc k) x ≤ s
      go v = at v (relaxed k y x (reached k i y t p v) b o.0)
