-- The least built cost of the cells of a list.
--     least_small    it is never above 65535
--     least_most     it is at most each of theirs
--     least_met      and one of them, where there is a cell
-- Assumes nothing.
use mathlib.Core.Path.{◌≡◌, refl}
use mathlib.Core.Logic.{◌⊎◌, inl, inr}
use mathlib.Core.List.Memᴰ
use mathlib.Core.List.{List, [], ◌∷◌, Memᴰ}
use Prim.Native.Nat.{ℕ, ◌≤◌, ◌<◌, min}
use native.Mathlib.Omega.{arith}
use native.Mathlib.Decide.{dec_lt}
use Rattle.flow_arrows.specs.Arrows.{built_cost}
use Rattle.window_square.specs.Square.{least_built}

module _ (built : List ℕ) where
  pub cost_small : (x : ℕ) → built_cost built x ≤ 65535
  cost_small x = omega arith

  pub least_small : (l : List ℕ) → least_built built l ≤ 65535
  least_small [] = omega arith
  least_small (x ∷ l) = omega (arith, least_small l)

  pub least_most : (l : List ℕ) (x : ℕ) → Memᴰ x l → least_built built l ≤ built_cost built x
  least_most [] x m = absurd (Memᴰ.not-nil m)
  least_most (y ∷ l) x m = go (Memᴰ.cases_cons m) (λ k. least_most l x k)
    where
      go : (x ≡ y) ⊎ Memᴰ x l → (Memᴰ x l → least_built built l ≤ built_cost built x)
          → min (built_cost built y) (least_built built l) ≤ built_cost built x
      go (inl e) f = rw e (omega arith)
      go (inr k) f = omega (arith, f k)

  -- some cell of a list has the cost
  abbrev pub Met : List ℕ → ℕ → Type 0
  Met l cost = (x : ℕ) × Memᴰ x l × (built_cost built x ≡ cost)

  pub least_met : (l : List ℕ) (x : ℕ) → Memᴰ x l → Met l (least_built built l)
  least_met [] x m = absurd (Memᴰ.not-nil m)
  least_met (y ∷ []) x m = (y, Memᴰ.head refl, omega (arith, cost_small y))
  least_met (y ∷ (z ∷ l)) x m = go (least_met (z ∷ l) z (Memᴰ.head refl)) (dec_lt (least_built built (z ∷ l)) (built_cost built y))
    where
      go : Met (z ∷ l) (least_built built (z ∷ l)) → Dec (least_built built (z ∷ l) < built_cost built y) → Met (y ∷ (z ∷ l)) (least_built built (y ∷ (z ∷ l)))
      go f (yes h) = (f.0, Memᴰ.tail f.1, omega (arith, f.2))
      go f (no h) = (y, Memᴰ.head refl, omega arith)
