-- The orders of the numbers left, by the first number and the place of what follows among the orders of the others.
--     orders_length    k numbers stand in factorial k orders
--     unranked         the order at a place, by quotient and remainder
--     placed           the order at a place: its first number, and the rest, an order of the others
--     same_occurrences    in an order of the numbers left each of them stands as often as among them
--     complete         every such list is an order of them
-- Assumes nothing.
use mathlib.Core.Path.{◌≡◌, refl, sym, ap, ◌∙◌}
use mathlib.Core.Bool.{cond}
use mathlib.Core.List.{List, [], ◌∷◌, map}
use Prim.Native.Nat.{ℕ, zero, suc, ◌+◌, ◌*◌, ◌/◌, ◌%◌, ◌<◌}
use native.Mathlib.Omega.{arith}
use native.Mathlib.Nat.{div-add-mod', mod-lt, div-lt_iff_lt-mul, mul-pos}
use lib.Dec.{eqb}
use lib.ListN.{length, get_or, length-map}
use Rattle.tour_orders.specs.Orders.{without_place, orders_of, factorial}
use Rattle.tour_orders.specs.Told.{occurrences}
use Rattle.tour_orders.proofs.Blocks.{within, map_at, joined_length, joined_at}
use Rattle.tour_orders.proofs.Occurrences.{here, stands, occurrences_without}

pub factorial_some : (k : ℕ) → 0 < factorial k
factorial_some zero = omega arith
factorial_some (suc k) = mul-pos (omega arith) (factorial_some k)

pub without_length : (l : List ℕ) (i : ℕ) → i < length l → length l ≡ suc (length (without_place l i))
without_length [] i h = absurd (omega arith)
without_length (a ∷ l) zero h = refl
without_length (a ∷ l) (suc i) h = ap suc (without_length l i (omega arith))

-- the orders with number i of those left in front
abbrev pub block : ℕ → List ℕ → ℕ → List (List ℕ)
block k left i = map (λ order. get_or left i 0 ∷ order) (orders_of k (without_place left i))

block_length : (k : ℕ) (left : List ℕ) (i : ℕ) {s : ℕ} → length (orders_of k (without_place left i)) ≡ s → length (block k left i) ≡ s
block_length k left i known = length-map (orders_of k (without_place left i)) (λ order. get_or left i 0 ∷ order) ∙ known

pub orders_length : (k : ℕ) (left : List ℕ) → length (orders_of k left) ≡ factorial k
unfolding orders_of
orders_length zero left = refl
orders_length (suc k) left = joined_length (block k left) (factorial k) (suc k) (λ i h. block_length k left i (orders_length k (without_place left i)))

-- the order at a place
pub record Placed (k : ℕ) (left : List ℕ) (p : ℕ) : Type 0 where
  pub first : ℕ
  pub rest : ℕ
  pub inside : first < suc k
  pub rest_inside : rest < factorial k
  pub at : p ≡ first * factorial k + rest
  pub is : get_or (orders_of (suc k) left) p [] ≡ get_or left first 0 ∷ get_or (orders_of k (without_place left first)) rest []

pub order_at_law : (k : ℕ) (left : List ℕ) (i j : ℕ) → i < suc k → j < factorial k
    → get_or (orders_of (suc k) left) (i * factorial k + j) [] ≡ get_or left i 0 ∷ get_or (orders_of k (without_place left i)) j []
unfolding orders_of
order_at_law k left i j h l =
    joined_at (block k left) (factorial k) (suc k) (λ n b. block_length k left n (orders_length k (without_place left n))) i j h l
    ∙ map_at _ (orders_of k (without_place left i)) j [] [] (rw (orders_length k (without_place left i)) l)

pub first_inside : (k p : ℕ) → p < factorial (suc k) → p / factorial k < suc k
first_inside k p h = (div-lt_iff_lt-mul (factorial_some k)).1 h

pub unranked : (k : ℕ) (left : List ℕ) (p : ℕ) → p < factorial (suc k)
    → get_or (orders_of (suc k) left) p [] ≡ get_or left (p / factorial k) 0 ∷ get_or (orders_of k (without_place left (p / factorial k))) (p % factorial k) []
unranked k left p h =
    let s = factorial k in
    ap (λ (q : ℕ). get_or (orders_of (suc k) left) q []) (sym (div-add-mod' p s))
    ∙ order_at_law k left (p / s) (p % s) (first_inside k p h) (mod-lt p (factorial_some k))

pub placed : (k : ℕ) (left : List ℕ) (p : ℕ) → p < factorial (suc k) → Placed k left p
placed k left p h =
    let s = factorial k in
    record {
      first = p / s;
      rest = p % s;
      inside = first_inside k p h;
      rest_inside = mod-lt p (factorial_some k);
      at = sym (div-add-mod' p s);
      is = unranked k left p h;
    }

-- ---- an order of the numbers left holds each as often as they do

pub same_occurrences : (k : ℕ) (left : List ℕ) → length left ≡ k → (p : ℕ) → p < factorial k → (w : ℕ)
    → occurrences w (get_or (orders_of k left) p []) ≡ occurrences w left
unfolding orders_of
same_occurrences zero [] long zero h w = refl
same_occurrences zero [] long (suc p) h w = absurd (omega arith)
same_occurrences zero (a ∷ left) long p h w = absurd (omega arith)
same_occurrences (suc k) left long p h w =
    let q = placed k left p h in
    let i = q.first in
    let inside : i < length left = omega (arith, q.inside) in
    let shorter : length (without_place left i) ≡ k = omega (arith, without_length left i inside) in
    ap (occurrences w) q.is
    ∙ ap (λ (t : ℕ). cond (eqb w (get_or left i 0)) 1 0 + t) (same_occurrences k (without_place left i) shorter q.rest q.rest_inside w)
    ∙ sym (occurrences_without w left i inside)

pub order_length : (k : ℕ) (left : List ℕ) (p : ℕ) → p < factorial k → length (get_or (orders_of k left) p []) ≡ k
unfolding orders_of
order_length zero left zero h = refl
order_length zero left (suc p) h = absurd (omega arith)
order_length (suc k) left p h =
    let q = placed k left p h in
    ap length q.is ∙ ap suc (order_length k (without_place left q.first) q.rest q.rest_inside)

-- ---- and every such list is one of them

abbrev pub Found : ℕ → List ℕ → List ℕ → Type 0
Found k left order = (p : ℕ) × (p < factorial k) × (get_or (orders_of k left) p [] ≡ order)

pub complete : (k : ℕ) (left : List ℕ) → length left ≡ k → (order : List ℕ) → ((w : ℕ) → occurrences w order ≡ occurrences w left) → Found k left order
unfolding orders_of
complete zero [] long [] same = (0, omega arith, refl)
complete zero [] long (a ∷ order) same = absurd (omega (arith, here a a order refl, same a))
complete zero (a ∷ left) long order same = absurd (omega arith)
complete (suc k) [] long order same = absurd (omega arith)
complete (suc k) (b ∷ left) long [] same = absurd (omega (arith, here b b left refl, same b))
complete (suc k) (b ∷ left) long (a ∷ order) same =
    let all = b ∷ left in
    let s = stands a all (omega (arith, here a a order refl, same a)) in
    let shorter : length (without_place all s.0) ≡ k = omega (arith, s.1, without_length all s.0 s.1) in
    behind s.0 s.1 s.2 (complete k (without_place all s.0) shorter order (λ w. omega (arith, same w, others s.0 s.1 s.2 w)))
  where
    others : (i : ℕ) → i < length (b ∷ left) → get_or (b ∷ left) i 0 ≡ a → (w : ℕ)
        → occurrences w (b ∷ left) ≡ occurrences w (a ∷ without_place (b ∷ left) i)
    others i inside is w = occurrences_without w (b ∷ left) i inside ∙ ap (λ (x : ℕ). occurrences w (x ∷ without_place (b ∷ left) i)) is

    behind : (i : ℕ) → i < length (b ∷ left) → get_or (b ∷ left) i 0 ≡ a → Found k (without_place (b ∷ left) i) order → Found (suc k) (b ∷ left) (a ∷ order)
    behind i inside is f = (
      i * factorial k + f.0,
      within (suc k) (factorial k) i f.0 (omega arith) f.1,
      order_at_law k (b ∷ left) i f.0 (omega arith) f.1 ∙ cc (is, f.2),
    )
