-- The orders of n windows are all lists that hold each window number once, 0 first, and no other; strictly in dictionary order.
--     others-told     the windows but the first: each number from 1 on below n once
--     all_orders      the theorem
--     order_long, order_inside   an order's length, and its numbers
-- Assumes nothing.
use mathlib.Core.Path.{◌≡◌, refl, ap, ◌∙◌}
use mathlib.Core.List.{List, [], ◌∷◌, head-eq_of_cons-eq}
use Prim.Native.Nat.{ℕ, suc, ◌-◌, ◌<◌, ◌≤◌}
use native.Mathlib.Omega.{arith}
use native.Mathlib.Decide.{dec_lt, ℕ_discrete}
use lib.ListN.{length, get_or, length-map, get_or-eq_default}
use Rattle.tour_orders.specs.Orders.{other_windows, without_place, orders_of, orders, factorial}
use Rattle.tour_orders.specs.Told.{occurrences, IsOrder, Earlier, agrees, AllOrders}
use Rattle.tour_orders.proofs.Blocks.{map_at}
use Rattle.tour_orders.proofs.Occurrences.{here, other, occurrences_without, below_none, each_once, above_none, numbers_length}
use Rattle.tour_orders.proofs.Choosing.{orders_length, same_occurrences, order_length, complete}
use Rattle.tour_orders.proofs.Ascending.{numbers_rise, ascends}

pub count : (n : ℕ) → length (orders n) ≡ factorial (n - 1)
unfolding orders
count n = length-map (orders_of (n - 1) (other_windows n)) (λ order. 0 ∷ order) ∙ orders_length (n - 1) (other_windows n)

-- the order at a place
pub led : (n k : ℕ) → k < factorial (n - 1) → get_or (orders n) k [] ≡ 0 ∷ get_or (orders_of (n - 1) (other_windows n)) k []
unfolding orders
led n k h = map_at (λ order. 0 ∷ order) (orders_of (n - 1) (other_windows n)) k [] [] (rw (orders_length (n - 1) (other_windows n)) h)

-- 0 before a list that holds the other windows as often as they stand
is_order : (n : ℕ) → 1 ≤ n → (l : List ℕ) → ((w : ℕ) → occurrences w l ≡ occurrences w (other_windows n)) → IsOrder n (0 ∷ l)
is_order n some l same =
    record {
      leads = refl;
      once = λ w h. elim (ℕ_discrete w 0) [
        | yes zero_is ↦ here w 0 l zero_is ∙ ap suc (same w ∙ below_none w 1 (n - 1) (omega arith))
        | no not-zero ↦ other w 0 l not-zero ∙ same w ∙ each_once w 1 (n - 1) (omega arith) (omega arith)
      ];
      no_other = λ w h. other w 0 l (λ e. omega arith) ∙ same w ∙ above_none w 1 (n - 1) (omega arith);
    }

pub each : (n : ℕ) → 1 ≤ n → (k : ℕ) → k < factorial (n - 1) → IsOrder n (get_or (orders n) k [])
each n some k h = rw (led n k h) (is_order n some _ (same_occurrences (n - 1) (other_windows n) (numbers_length 1 (n - 1)) k h))

-- and what stands behind the 0 of an order
others : (n : ℕ) → 1 ≤ n → (l : List ℕ) → IsOrder n (0 ∷ l) → (w : ℕ) → occurrences w l ≡ occurrences w (other_windows n)
others n some l o w =
    elim (ℕ_discrete w 0) [
      | yes zero_is ↦ omega (arith, here w 0 l zero_is, o.once w (omega arith), below_none w 1 (n - 1) (omega arith))
      | no not-zero ↦ elim (dec_lt w n) [
        | yes inside ↦ omega (arith, other w 0 l not-zero, o.once w inside, each_once w 1 (n - 1) (omega arith) (omega arith))
        | no outside ↦ omega (arith, other w 0 l not-zero, o.no_other w (omega arith), above_none w 1 (n - 1) (omega arith))
      ]
    ]

-- an order: its first window, and the others
pub record Split (n : ℕ) (order : List ℕ) : Type 0 where
  pub rest : List ℕ
  pub is : order ≡ 0 ∷ rest
  pub same : (w : ℕ) → occurrences w rest ≡ occurrences w (other_windows n)

pub split : (n : ℕ) → 1 ≤ n → (order : List ℕ) → IsOrder n order → Split n order
split n some [] o = absurd (let bad : ◌≡◌ {A = ℕ} 0 1 = ap length o.leads in omega arith)
split n some (a ∷ l) o =
    let first : a ≡ 0 = head-eq_of_cons-eq o.leads in
    let is : a ∷ l ≡ 0 ∷ l = cc (first) in
    record { rest = l; is = is; same = others n some l (rw is at o) }

none_left_out : (n : ℕ) → 1 ≤ n → (order : List ℕ) → IsOrder n order → (k : ℕ) × (k < length (orders n)) × (get_or (orders n) k [] ≡ order)
none_left_out n some order o = found (split n some order o)
  where
    found : Split n order → (k : ℕ) × (k < length (orders n)) × (get_or (orders n) k [] ≡ order)
    found a =
        let f = complete (n - 1) (other_windows n) (numbers_length 1 (n - 1)) a.rest a.same in
        (f.0, rw (count n) f.1, led n f.0 f.1 ∙ cc (f.2, a.is))

pub all_orders : (n : ℕ) → 1 ≤ n → AllOrders n (orders n)
all_orders n some =
    record {
      count = count n;
      each = λ k h. each n some k (rw (count n) at h);
      none_left_out = none_left_out n some;
      ascending = λ j k h l. earlier j k h (rw (count n) at l);
    }
  where
    earlier : (j k : ℕ) → j < k → k < factorial (n - 1) → Earlier (get_or (orders n) j []) (get_or (orders n) k [])
    earlier j k h l =
        rw (led n j (omega arith), led n k l) (
        agrees refl (ascends (n - 1) (other_windows n) (numbers_length 1 (n - 1)) (numbers_rise 1 (n - 1)) j k h l)
        )

-- ---- an order in an array

pub order_long : (n : ℕ) → 1 ≤ n → (k : ℕ) → k < factorial (n - 1) → length (get_or (orders n) k []) ≡ n
order_long n some k h = ap length (led n k h) ∙ omega (arith, order_length (n - 1) (other_windows n) k h)

at_least_once : (l : List ℕ) (i : ℕ) → i < length l → 0 < occurrences (get_or l i 0) l
at_least_once l i h = omega (arith, occurrences_without (get_or l i 0) l i h, here (get_or l i 0) (get_or l i 0) (without_place l i) refl)

pub order_inside : (n : ℕ) → 1 ≤ n → (order : List ℕ) → IsOrder n order → (i : ℕ) → get_or order i 0 < n
order_inside n some order o i =
    elim (dec_lt i (length order)) [
      | yes stands_there ↦ elim (dec_lt (get_or order i 0) n) [
        | yes inside ↦ inside
        | no outside ↦ absurd (omega (arith, at_least_once order i stands_there, o.no_other (get_or order i 0) (omega arith)))
      ]
      | no behind ↦ omega (arith, get_or-eq_default order 0 {n = i} (omega arith))
    ]
