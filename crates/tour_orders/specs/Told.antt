-- The orders of a tour's windows (02, Job 14), told apart from how they are made: each window number once, 0 first; strictly in dictionary order, none
-- left out.
-- Assumes nothing.
use Rattle.std.specs.Prelude.{◌≡◌, cond, List, [], ◌∷◌, ℕ, ◌+◌, ◌-◌, ◌<◌, ◌≤◌, eqb, length, get_or, take}
use Rattle.tour_orders.specs.Orders.{factorial}

-- how often a number stands in a list
abbrev pub occurrences : ℕ → List ℕ → ℕ
occurrences w [] = 0
occurrences w (a ∷ l) = cond (eqb w a) 1 0 + occurrences w l

-- an order of n windows: 0 first, each window number once, and no other number
pub record IsOrder (n : ℕ) (order : List ℕ) : Type 0 where
  pub leads : take 1 order ≡ 0 ∷ []
  pub once : (w : ℕ) → w < n → occurrences w order ≡ 1
  pub no_other : (w : ℕ) → n ≤ w → occurrences w order ≡ 0

-- dictionary order: at the first place where two lists differ, the earlier has the smaller number
pub data Earlier : List ℕ → List ℕ → Type 0 where
  differs : {a b : ℕ} {l m : List ℕ} → a < b → Earlier (a ∷ l) (b ∷ m)
  agrees : {a b : ℕ} {l m : List ℕ} → a ≡ b → Earlier l m → Earlier (a ∷ l) (b ∷ m)

-- a list of exactly the orders of n windows, strictly in dictionary order
pub record AllOrders (n : ℕ) (listed : List (List ℕ)) : Type 0 where
  pub count : length listed ≡ factorial (n - 1)
  pub each : (k : ℕ) → k < length listed → IsOrder n (get_or listed k [])
  pub none_left_out : (order : List ℕ) → IsOrder n order → (k : ℕ) × (k < length listed) × (get_or listed k [] ≡ order)
  pub ascending : (j k : ℕ) → j < k → k < length listed → Earlier (get_or listed j []) (get_or listed k [])
