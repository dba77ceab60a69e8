-- The next order of the dictionary, by the order before it.
--     first_is, last_is   the first order of numbers is themselves, the last is them backwards
--     changes             from an order to the next: a front stays, and the number behind it gives way to the next of those left, which stand
--                         backwards behind it before, and as they rise then
--     order_changes       the same of the orders of windows, in which 0 stays
-- Assumes nothing.
use mathlib.Core.Path.{◌≡◌, refl, ap, ◌∙◌}
use mathlib.Core.List.{List, [], ◌∷◌, ◌++◌}
use Prim.Native.Nat.{ℕ, zero, suc, ◌+◌, ◌-◌, ◌*◌, ◌<◌, ◌≤◌}
use native.Mathlib.Omega.{arith}
use native.Mathlib.Nat.{suc-mul, lt_of_mul-lt-mul_right}
use native.Mathlib.Decide.{dec_lt}
use lib.ListN.{length, get_or}
use Rattle.tour_orders.specs.Orders.{other_windows, without_place, orders_of, orders, factorial}
use Rattle.tour_orders.proofs.Occurrences.{numbers_length}
use Rattle.tour_orders.proofs.Choosing.{factorial_some, without_length, Placed, placed, order_at_law}
use Rattle.tour_orders.proofs.Ascending.{Rising, numbers_rise, without_rises}
use Rattle.tour_orders.proofs.Orders.{led}

-- ---- numbers backwards

-- the first k numbers of a list, the last of them first
abbrev pub backwards : ℕ → List ℕ → List ℕ
backwards zero l = []
backwards (suc k) l = get_or l k 0 ∷ backwards k l

pub backwards_length : (k : ℕ) (l : List ℕ) → length (backwards k l) ≡ k
backwards_length zero l = refl
backwards_length (suc k) l = ap suc (backwards_length k l)

pub backwards_at : (k : ℕ) (l : List ℕ) (j : ℕ) → j < k → get_or (backwards k l) j 0 ≡ get_or l (k - 1 - j) 0
backwards_at zero l j h = absurd (omega arith)
backwards_at (suc k) l zero h = let e : k ≡ suc k - 1 - 0 = omega arith in ap (λ (m : ℕ). get_or l m 0) e
backwards_at (suc k) l (suc j) h =
    let e : k - 1 - j ≡ suc k - 1 - suc j = omega arith in
    backwards_at k l j (omega arith) ∙ ap (λ (m : ℕ). get_or l m 0) e

backwards_same : (k : ℕ) (l m : List ℕ) → ((j : ℕ) → j < k → get_or l j 0 ≡ get_or m j 0) → backwards k l ≡ backwards k m
backwards_same zero l m same = refl
backwards_same (suc k) l m same =
    ap (λ (a : ℕ). a ∷ backwards k l) (same k (omega arith))
    ∙ ap (λ (t : List ℕ). get_or m k 0 ∷ t) (backwards_same k l m (λ j h. same j (omega arith)))

-- ---- numbers without one of them

pub without_before : (l : List ℕ) (i m : ℕ) → m < i → get_or (without_place l i) m 0 ≡ get_or l m 0
without_before [] i m h = refl
without_before (a ∷ l) zero m h = absurd (omega arith)
without_before (a ∷ l) (suc i) zero h = refl
without_before (a ∷ l) (suc i) (suc m) h = without_before l i m (omega arith)

pub without_behind : (l : List ℕ) (i m : ℕ) → i ≤ m → get_or (without_place l i) m 0 ≡ get_or l (suc m) 0
without_behind [] i m h = refl
without_behind (a ∷ l) zero m h = refl
without_behind (a ∷ l) (suc i) zero h = absurd (omega arith)
without_behind (a ∷ l) (suc i) (suc m) h = without_behind l i m (omega arith)

-- ---- the first order, and the last

none_left : (left : List ℕ) → get_or (orders_of 0 left) 0 [] ≡ []
unfolding orders_of
none_left left = refl

pub first_is : (k : ℕ) (left : List ℕ) → length left ≡ k → get_or (orders_of k left) 0 [] ≡ left
first_is zero [] long = none_left []
first_is zero (a ∷ l) long = absurd (omega arith)
first_is (suc k) [] long = absurd (omega arith)
first_is (suc k) (a ∷ l) long =
    let e : 0 ≡ 0 * factorial k + 0 = omega arith in
    ap (λ (p : ℕ). get_or (orders_of (suc k) (a ∷ l)) p []) e
    ∙ order_at_law k (a ∷ l) 0 0 (omega arith) (factorial_some k)
    ∙ ap (λ (t : List ℕ). a ∷ t) (first_is k l (omega arith))

pub last_is : (k : ℕ) (left : List ℕ) → length left ≡ k → (p : ℕ) → suc p ≡ factorial k → get_or (orders_of k left) p [] ≡ backwards k left
last_is zero left long zero h = none_left left
last_is zero left long (suc p) h = absurd (omega arith)
last_is (suc k) left long p h =
    let s = factorial k in
    let others = without_place left k in
    let e : p ≡ k * s + (s - 1) = omega (arith, h, suc-mul k s, factorial_some k) in
    let shorter : length others ≡ k = omega (arith, without_length left k (omega arith)) in
    let last : suc (s - 1) ≡ s = omega (arith, factorial_some k) in
    ap (λ (q : ℕ). get_or (orders_of (suc k) left) q []) e
    ∙ order_at_law k left k (s - 1) (omega arith) (omega (arith, factorial_some k))
    ∙ ap (λ (t : List ℕ). get_or left k 0 ∷ t) (last_is k others shorter (s - 1) last ∙ backwards_same k others left (without_before left k))

-- ---- from an order to the next

-- For example 0 2 4 6 5 3 1 and 0 2 5 1 3 4 6: the front is 0 2, those left are 1 3 4 5 6, and of these the one at place 2 gives way.
pub record Change (order after : List ℕ) : Type 0 where
  pub front : List ℕ
  pub left : List ℕ
  pub place : ℕ
  pub rises : Rising left
  pub inside : suc place < length left
  pub was : order ≡ front ++ (get_or left place 0 ∷ backwards (length left - 1) (without_place left place))
  pub is : after ≡ front ++ (get_or left (suc place) 0 ∷ without_place left (suc place))

-- with one number more in front
abbrev behind_one : (a : ℕ) {order after : List ℕ} → Change order after → Change (a ∷ order) (a ∷ after)
behind_one a t =
    record {
      front = a ∷ t.front;
      left = t.left;
      place = t.place;
      rises = t.rises;
      inside = t.inside;
      was = ap (λ (l : List ℕ). a ∷ l) t.was;
      is = ap (λ (l : List ℕ). a ∷ l) t.is;
    }

module _ (k : ℕ) (left : List ℕ) (p : ℕ) (q : Placed k left p) where
  abbrev others : List ℕ
  others = without_place left q.first

  abbrev Changes : Type 0
  Changes = Change (get_or (orders_of (suc k) left) p []) (get_or (orders_of (suc k) left) (suc p) [])

  -- the order at a place of the next block
  order_is : (i j : ℕ) → suc p ≡ i * factorial k + j → i < suc k → j < factorial k
      → get_or (orders_of (suc k) left) (suc p) [] ≡ get_or left i 0 ∷ get_or (orders_of k (without_place left i)) j []
  order_is i j e h l = ap (λ (m : ℕ). get_or (orders_of (suc k) left) m []) e ∙ order_at_law k left i j h l

  -- the first number stays where those behind it have a next order
  same_block : suc q.rest < factorial k → Change (get_or (orders_of k others) q.rest []) (get_or (orders_of k others) (suc q.rest) []) → Changes
  same_block more t =
      let e : suc p ≡ q.first * factorial k + suc q.rest = omega (arith, q.at) in
      rw (q.is, order_is q.first (suc q.rest) e q.inside more) (behind_one (get_or left q.first 0) t)

  -- else the next number comes first, before the first order of the others
  next_block : length left ≡ suc k → Rising left → suc p < factorial (suc k) → suc q.rest ≡ factorial k → Changes
  next_block long rises h full =
      let s = factorial k in
      let e : suc p ≡ suc q.first * s + 0 = omega (arith, q.at, suc-mul q.first s) in
      let few : suc q.first < suc k = lt_of_mul-lt-mul_right s (omega (arith, e, h)) in
      let shorter : length others ≡ k = omega (arith, without_length left q.first (omega (arith, q.inside))) in
      let next-shorter = without_length left (suc q.first) (omega arith) in
      let count : length left - 1 ≡ k = omega arith in
      record {
        front = [];
        left = left;
        place = q.first;
        rises = rises;
        inside = omega arith;
        was = rw count (q.is ∙ ap (λ (t : List ℕ). get_or left q.first 0 ∷ t) (last_is k others shorter q.rest full));
        is = order_is (suc q.first) 0 e few (factorial_some k)
            ∙ ap (λ (t : List ℕ). get_or left (suc q.first) 0 ∷ t) (first_is k (without_place left (suc q.first)) (omega arith));
      }

pub changes : (k : ℕ) (left : List ℕ) → length left ≡ k → Rising left → (p : ℕ) → suc p < factorial k
    → Change (get_or (orders_of k left) p []) (get_or (orders_of k left) (suc p) [])
changes zero left long rises p h = absurd (omega arith)
changes (suc k) left long rises p h =
    let q = placed k left p (omega arith) in
    let inside : q.first < length left = omega (arith, q.inside) in
    let shorter : length (without_place left q.first) ≡ k = omega (arith, without_length left q.first inside) in
    let behind = changes k (without_place left q.first) shorter (without_rises left q.first inside rises) q.rest in
    elim (dec_lt (suc q.rest) (factorial k)) [
      | yes more ↦ same_block k left p q more (behind more)
      | no full ↦ next_block k left p q long rises h (omega (arith, q.rest_inside))
    ]

-- the same with a front that is not empty
pub record LedChange (order after : List ℕ) : Type 0 where
  pub change : Change order after
  pub some : 1 ≤ length change.front

-- the orders of n windows: 0 stays
pub order_changes : (n place : ℕ) → suc place < factorial (n - 1) → LedChange (get_or (orders n) place []) (get_or (orders n) (suc place) [])
order_changes n place h =
    let t = changes (n - 1) (other_windows n) (numbers_length 1 (n - 1)) (numbers_rise 1 (n - 1)) place h in
    rw (led n place (omega arith), led n (suc place) h) (record { change = behind_one 0 t; some = omega arith })
