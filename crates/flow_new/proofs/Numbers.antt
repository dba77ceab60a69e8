-- The numbers of `new`, in the order of the table, and the sheet beside each.
-- Assumes nothing.
use mathlib.Core.Path.{◌≡◌, refl}
use mathlib.Core.Bool.{Bool, true, false, cond, not, ◌&&◌}
use mathlib.Core.List.{List}
use Prim.Native.Nat.{ℕ, ◌<◌, ◌≤◌}
use native.Mathlib.Omega.{arith}
use borrow.Author.Tests.{eq-eqb, ne_eqb, lt-ltb, le-ltb}
use lib.Dec.{eqb}
use lib.ListN.{length}
use Rattle.route.specs.Step.{step_number}
use Rattle.flow_byte.specs.New.{flow_new}
use Rattle.flow_new.specs.Flow.{misfit_number, new_number, new_sheet}

-- the last line of the table holds, or does not
is_12 : (b : Bool) (m : ℕ) → m ≡ cond b 12 0 → 0 < m → (b ≡ true) × (m ≡ 12)
is_12 true m e h = (refl, e)
is_12 false m e h = absurd (omega arith)

is_none : (b : Bool) (m : ℕ) → m ≡ cond b 12 0 → m ≤ 0 → b ≡ false
is_none true m e h = absurd (omega arith)
is_none false m e h = refl

module _ (step cells : List ℕ) (has : Bool) (previous old : List ℕ) where
  -- a number, and the sheet that is left with it
  pub record Leaves (n : ℕ) (l : List ℕ) : Type 0 where
    pub number : n ≡ new_number step has previous old
    pub sheet : l ≡ new_sheet step cells has previous old

  pub refused_2 : (length old ≡ 100 → ⊥) → Leaves 2 old
  unfolding new_number
  refused_2 h = let e = ne_eqb (length old) 100 h in record { number = rw e; sheet = rw e }

  module _ (full : length old ≡ 100) (n : ℕ) (is : n ≡ step_number step) where
    pub refused_step : 0 < n → Leaves n old
    unfolding new_number
    refused_step h =
        let e = eq-eqb (length old) 100 full in
        let p = lt-ltb 0 n h in
        let q = ne_eqb n 0 (λ z. omega arith) in
        record { number = rw (e, ← is, p); sheet = rw (e, ← is, p, q) }

    module _ (good : n ≤ 0) (m : ℕ) (told : m ≡ misfit_number has previous) where
      misfit : Bool
      misfit = has && not (eqb (length previous) 100)

      pub refused_12 : 0 < m → Leaves m old
      unfolding new_number misfit
      refused_12 h =
          let e = eq-eqb (length old) 100 full in
          let p = le-ltb 0 n good in
          let q = is_12 misfit m told h in
          record { number = rw (e, ← is, p, q.0) q.1; sheet = rw (e, ← is, p, q.0) }

      pub accepted : m ≤ 0 → (l : List ℕ) → l ≡ flow_new step cells has previous → Leaves 0 l
      unfolding new_number misfit
      accepted h l r =
          let e = eq-eqb (length old) 100 full in
          let p = le-ltb 0 n good in
          let q = is_none misfit m told h in
          record { number = rw (e, ← is, p, q); sheet = rw (e, ← is, p, q) r }
