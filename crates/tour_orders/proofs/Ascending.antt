-- The orders of numbers that rise stand strictly in dictionary order.
--     number_at         the numbers from a on, by place
--     numbers_rise      they rise
--     without_rises     and so do rising numbers without one of them
--     ascends           an order at an earlier place is earlier in the dictionary
-- Assumes nothing.
use mathlib.Core.Path.{◌≡◌, refl, ap}
use mathlib.Core.List.{List, [], ◌∷◌}
use Prim.Native.Nat.{ℕ, zero, suc, ◌+◌, ◌*◌, ◌<◌, ◌≤◌}
use native.Mathlib.Omega.{arith}
use native.Mathlib.Nat.{mul-le-mul_right, suc-mul}
use native.Mathlib.Decide.{dec_lt}
use lib.ListN.{length, get_or}
use Rattle.tour_orders.specs.Orders.{numbers_from, without_place, orders_of, factorial}
use Rattle.tour_orders.specs.Told.{Earlier, differs, agrees}
use Rattle.tour_orders.proofs.Occurrences.{numbers_length}
use Rattle.tour_orders.proofs.Choosing.{Placed, placed, without_length}

abbrev pub Rising : List ℕ → Type 0
Rising l = (i j : ℕ) → i < j → j < length l → get_or l i 0 < get_or l j 0

-- ---- the numbers from a on

pub number_at : (a k i : ℕ) → i < k → get_or (numbers_from a k) i 0 ≡ a + i
number_at a zero i h = absurd (omega arith)
number_at a (suc k) zero h = omega arith
number_at a (suc k) (suc i) h = omega (arith, number_at (suc a) k i (omega arith))

pub numbers_rise : (a k : ℕ) → Rising (numbers_from a k)
numbers_rise a k i j h l =
    let inside : j < k = omega (arith, numbers_length a k) in
    omega (arith, number_at a k i (omega arith), number_at a k j inside)

-- ---- without one of them: place m is place m, or the next where the place left out comes first

abbrev passed : ℕ → ℕ → ℕ
passed zero m = suc m
passed (suc i) zero = zero
passed (suc i) (suc m) = suc (passed i m)

passed_rises : (i m n : ℕ) → m < n → passed i m < passed i n
passed_rises zero m n h = omega arith
passed_rises (suc i) m zero h = absurd (omega arith)
passed_rises (suc i) zero (suc n) h = omega arith
passed_rises (suc i) (suc m) (suc n) h = omega (arith, passed_rises i m n (omega arith))

passed_within : (i m : ℕ) → passed i m ≤ suc m
passed_within zero m = omega arith
passed_within (suc i) zero = omega arith
passed_within (suc i) (suc m) = omega (arith, passed_within i m)

without_at : (l : List ℕ) (i m : ℕ) → get_or (without_place l i) m 0 ≡ get_or l (passed i m) 0
without_at [] i m = refl
without_at (a ∷ l) zero m = refl
without_at (a ∷ l) (suc i) zero = refl
without_at (a ∷ l) (suc i) (suc m) = without_at l i m

pub without_rises : (l : List ℕ) (i : ℕ) → i < length l → Rising l → Rising (without_place l i)
without_rises l i inside rises m n h k =
    let long = without_length l i inside in
    let r = rises (passed i m) (passed i n) (passed_rises i m n h) (omega (arith, passed_within i n)) in
    omega (arith, without_at l i m, without_at l i n)

-- ---- so their orders stand in dictionary order

-- two orders by their places: the one whose first number stands earlier is earlier; with one first number the rests decide
by_rests : (k : ℕ) (left : List ℕ) (j p : ℕ) → j < p → (x : Placed k left j) (y : Placed k left p) → (x.first < y.first → ⊥)
    → (x.first ≡ y.first) × (x.rest < y.rest)
by_rests k left j p h x y not_lower =
    elim (dec_lt y.first x.first) [
      | yes higher ↦ absurd (omega (arith, x.at, y.at, y.rest_inside, mul-le-mul_right (factorial k) higher, suc-mul y.first (factorial k)))
      | no not-higher ↦ same (omega arith)
    ]
  where
    same : x.first ≡ y.first → (x.first ≡ y.first) × (x.rest < y.rest)
    same e = (e, omega (arith, x.at, y.at, ap (λ (i : ℕ). i * factorial k) e))

abbrev Ascends : ℕ → List ℕ → Type 0
Ascends k left = (j p : ℕ) → j < p → p < factorial k → Earlier (get_or (orders_of k left) j []) (get_or (orders_of k left) p [])

joins : (k : ℕ) (left : List ℕ) → length left ≡ suc k → Rising left → ((i : ℕ) → i < length left → Ascends k (without_place left i)) → (j p : ℕ) → j < p
    → Placed k left j → Placed k left p → Earlier (get_or (orders_of (suc k) left) j []) (get_or (orders_of (suc k) left) p [])
joins k left long rises behind j p h x y =
    rw (x.is, y.is) (
    elim (dec_lt x.first y.first) [
      | yes lower ↦ differs (rises x.first y.first lower (omega (arith, y.inside)))
      | no not_lower ↦ rests (by_rests k left j p h x y not_lower)
    ]
    )
  where
    rests : (x.first ≡ y.first) × (x.rest < y.rest)
        → Earlier (get_or left x.first 0 ∷ get_or (orders_of k (without_place left x.first)) x.rest [])
        (get_or left y.first 0 ∷ get_or (orders_of k (without_place left y.first)) y.rest [])
    rests e = rw e.0 (agrees refl (behind y.first (omega (arith, y.inside)) x.rest y.rest e.1 y.rest_inside))

pub ascends : (k : ℕ) (left : List ℕ) → length left ≡ k → Rising left → Ascends k left
ascends zero left long rises j p h l = absurd (omega arith)
ascends (suc k) left long rises j p h l =
    joins k left long rises
    (λ i inside. ascends k (without_place left i) (omega (arith, without_length left i inside)) (without_rises left i inside rises))
    j p h (placed k left j (omega arith)) (placed k left p l)
