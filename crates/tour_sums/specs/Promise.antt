-- What is promised of a tour of windows (02, Job 14).
-- Assumes nothing.
use Rattle.std.specs.Prelude.{◌≡◌, true, false, List, [], ℕ, zero, suc, ◌+◌, ◌-◌, ◌<◌, ◌≤◌, min, length, get_or, replicate}
use Rattle.utilities.specs.Padded.{padded}
use Rattle.tour_orders.specs.Orders.{orders, factorial}
use Rattle.tour_orders.specs.Told.{IsOrder}
use Rattle.tour_sums.specs.Tours.{move_cost, tour_sum, ToldTour}

-- the square of 2 to 8 windows as Job 13 fills it: no cost above 65535
pub record TourSquare (square : List (List ℕ)) (n : ℕ) : Type 0 where
  pub some : 2 ≤ n
  pub few : n ≤ 8
  pub costs : (a b : ℕ) → move_cost square a b ≤ 65535

-- an order counts: none of its moves, from one place to the next, costs 65535
abbrev pub CountingOrder : List (List ℕ) → List ℕ → Type 0
CountingOrder square order = (i : ℕ) → suc i < length order → move_cost square (get_or order i 0) (get_or order (suc i) 0) ≡ 65535 → ⊥

-- order k of the dictionary, from 0, is tried
pub record Tried (n limit k : ℕ) : Type 0 where
  pub within : k < limit
  pub one_of_all : k < length (orders n)

-- order k is the best tried: it counts, and it is at most every counting order tried and earlier than its equals
pub record BestTried (square : List (List ℕ)) (n limit k : ℕ) (answer : ToldTour) : Type 0 where
  pub tried : Tried n limit k
  pub counts : CountingOrder square (get_or (orders n) k [])
  pub order_is : answer.order ≡ padded 8 0 (get_or (orders n) k [])
  pub sum_is : answer.sum ≡ tour_sum square (get_or (orders n) k [])
  pub at_most : (j : ℕ) → Tried n limit j → CountingOrder square (get_or (orders n) j []) → answer.sum ≤ tour_sum square (get_or (orders n) j [])
  pub earlier : (j : ℕ) → Tried n limit j → CountingOrder square (get_or (orders n) j []) → tour_sum square (get_or (orders n) j []) ≡ answer.sum → k ≤ j

-- none of those tried counts: order and sum all 0
pub record NoneTried (square : List (List ℕ)) (n limit : ℕ) (answer : ToldTour) : Type 0 where
  pub none_counts : (j : ℕ) → Tried n limit j → CountingOrder square (get_or (orders n) j []) → ⊥
  pub order_is : answer.order ≡ replicate 8 0
  pub sum_is : answer.sum ≡ 0

-- the best order tried, or "no order"; and if all were tried, the best there is
pub record BestAnswer (square : List (List ℕ)) (n limit : ℕ) (answer : ToldTour) : Type 0 where
  pub found : answer.found ≡ true → (k : ℕ) × BestTried square n limit k answer
  pub no_order : answer.found ≡ false → NoneTried square n limit answer
  pub tried : answer.tried ≡ min limit (factorial (n - 1))
  pub whole : factorial (n - 1) ≤ limit → (order : List ℕ) → IsOrder n order → CountingOrder square order
      → (answer.found ≡ true) × (answer.sum ≤ tour_sum square order)

-- the cheapest entry into window b from another: at most each, and one of them
pub record CheapestEntry (square : List (List ℕ)) (n b cost : ℕ) : Type 0 where
  pub at_most : (a : ℕ) → a < n → (a ≡ b → ⊥) → cost ≤ move_cost square a b
  pub met : (a : ℕ) × (a < n) × (a ≡ b → ⊥) × (cost ≡ move_cost square a b)

-- the sum of a number for each of the windows 1 to m
abbrev pub over_others : (ℕ → ℕ) → ℕ → ℕ
over_others entry zero = 0
over_others entry (suc m) = over_others entry m + entry (suc m)

-- The least figure is the sum, over the windows but the first, of numbers that are each the cheapest entry into its window; and no order's sum goes
-- under it, tried or not, counting or not.
pub record LeastAnswer (square : List (List ℕ)) (n : ℕ) (answer : ToldTour) : Type 0 where
  pub entries : (entry : ℕ → ℕ) × ((b : ℕ) → b < n → CheapestEntry square n b (entry b)) × (answer.least ≡ over_others entry (n - 1))
  pub under : (order : List ℕ) → IsOrder n order → answer.least ≤ tour_sum square order
