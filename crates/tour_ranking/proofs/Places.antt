-- An order and the next, place by place, in arrays.
--     padded_at             an order in an array reads as the order
--     last_rise, last_above the places of the number that gives way, and of the one that it gives way to
--     next_is               these two exchanged, and the numbers behind reversed: the next order
--     front_stays           the places before these two are as they were
-- Assumes nothing.
use mathlib.Core.Path.{◌≡◌, refl, sym, ap, ◌∙◌}
use mathlib.Core.List.{List, [], ◌∷◌, ◌++◌, append_assoc}
use Prim.Native.Nat.{ℕ, zero, suc, ◌+◌, ◌-◌, ◌<◌, ◌≤◌}
use native.Mathlib.Omega.{arith}
use native.Mathlib.Decide.{dec_lt, ℕ_discrete}
use lib.ListN.{length, get_or, take, replicate, length-append, get_or-append, get_or-eq_default}
use lib.Seq.{get_or-append_seam, get_or-append-add, ext_get_or, take-append_seam}
use Rattle.utilities.specs.Padded.{padded}
use Rattle.utilities.proofs.Padded.{padded_length, all_zero}
use Rattle.tour_orders.specs.Orders.{without_place}
use Rattle.tour_orders.proofs.Choosing.{without_length}
use Rattle.tour_orders.proofs.Ascending.{Rising, without_rises}
use Rattle.tour_ranking.specs.Inner.{LastRise, LastAbove, Reversed}
use Rattle.std.specs.List.{swap}
use Rattle.std.proofs.lemmas.List.Edits.{length-swap, Swapped, swapped_from_swap}
use Rattle.tour_ranking.proofs.Next.{backwards_length, backwards_at, without_before, without_behind, Change}

-- ---- an order in an array

-- zeros behind a list read as no place does
zeros_behind : (l : List ℕ) (k i : ℕ) → get_or (l ++ replicate k 0) i 0 ≡ get_or l i 0
zeros_behind [] k i = all_zero k 0 i
zeros_behind (a ∷ l) k zero = refl
zeros_behind (a ∷ l) k (suc i) = zeros_behind l k i

pub padded_at : (l : List ℕ) (i : ℕ) → get_or (padded 8 0 l) i 0 ≡ get_or l i 0
padded_at l i = zeros_behind l (8 - length l) i

-- ---- a front, a number and the numbers behind it

module _ (front : List ℕ) (a : ℕ) (tail : List ℕ) where
  front_at : (m : ℕ) → m < length front → get_or (front ++ (a ∷ tail)) m 0 ≡ get_or front m 0
  front_at m h = get_or-append front (a ∷ tail) 0 m h

  seam_at : get_or (front ++ (a ∷ tail)) (length front) 0 ≡ a
  seam_at = get_or-append_seam front a tail 0

  tail_at : (m : ℕ) → length front < m → get_or (front ++ (a ∷ tail)) m 0 ≡ get_or tail (m - length front - 1) 0
  tail_at m h =
      let e : m ≡ length front + suc (m - length front - 1) = omega arith in
      ap (λ (i : ℕ). get_or (front ++ (a ∷ tail)) i 0) e ∙ get_or-append-add front (a ∷ tail) (suc (m - length front - 1)) 0

-- a place behind another, by its distance from there and from the end
from_the_end : (count at m j : ℕ) → m ≡ at + 1 + j → j < count → count - 1 - j ≡ at + 1 + count - 1 - m
from_the_end count at m j e h = omega arith

behind_inside : (at count m : ℕ) → at < m → m < at + 1 + count → m - at - 1 < count
behind_inside at count m h l = omega arith

behind_is : (at m : ℕ) → at < m → m ≡ at + 1 + (m - at - 1)
behind_is at m h = omega arith

from_the_end_twice : (n place : ℕ) → place < n → n - 1 - (n - 1 - place) ≡ place
from_the_end_twice n place h = omega arith

-- a place behind another, and where it comes to when the places up to the end are reversed
module _ (at n m : ℕ) (h : at < m) (l : m < n) where
  abbrev mirrored : ℕ
  mirrored = at + 1 + (n - 1) - m

  mirrored_behind : at < mirrored
  mirrored_behind = omega arith

  mirrored_inside : mirrored < n
  mirrored_inside = omega arith

  mirrored_from_the_end : n - 1 - mirrored ≡ m - at - 1
  mirrored_from_the_end = omega arith

  mirrored_is : (place : ℕ) → m - at - 1 ≡ place → mirrored ≡ n - 1 - place
  mirrored_is place e = omega arith

-- ---- from an order to the next

module _ (order after : List ℕ) (t : Change order after) where
  abbrev at : ℕ
  at = length t.front

  abbrev left : List ℕ
  left = t.left

  abbrev place : ℕ
  place = t.place

  -- how many stand behind the number that gives way; these before, and then
  abbrev count : ℕ
  count = length left - 1

  abbrev before : List ℕ
  before = without_place left place

  abbrev then_behind : List ℕ
  then_behind = without_place left (suc place)

  before_length : length left ≡ suc (length before)
  before_length = without_length left place (omega (arith, t.inside))

  pub order_length : length order ≡ at + 1 + count
  order_length =
      ap length t.was ∙ length-append t.front _ ∙ omega (arith, backwards_length count before)

  pub after_length : length after ≡ at + 1 + count
  after_length =
      ap length t.is ∙ length-append t.front _ ∙ omega (arith, t.inside, without_length left (suc place) t.inside)

  abbrev pub n : ℕ
  n = at + 1 + count

  place_inside : place < n
  place_inside = omega (arith, t.inside)

  -- ---- what stands at each place

  was_front : (m : ℕ) → m < at → get_or order m 0 ≡ get_or t.front m 0
  was_front m h = ap (λ (l : List ℕ). get_or l m 0) t.was ∙ front_at t.front _ _ m h

  was_at : get_or order at 0 ≡ get_or left place 0
  was_at = ap (λ (l : List ℕ). get_or l at 0) t.was ∙ seam_at t.front _ _

  was_behind : (m : ℕ) → at < m → m < n → get_or order m 0 ≡ get_or before (n - 1 - m) 0
  was_behind m h l =
      let e : count - 1 - (m - at - 1) ≡ n - 1 - m = from_the_end count at m (m - at - 1) (behind_is at m h) (behind_inside at count m h l) in
      ap (λ (o : List ℕ). get_or o m 0) t.was
      ∙ tail_at t.front _ _ m h
      ∙ backwards_at count before (m - at - 1) (behind_inside at count m h l)
      ∙ ap (λ (i : ℕ). get_or before i 0) e

  is_front : (m : ℕ) → m < at → get_or after m 0 ≡ get_or t.front m 0
  is_front m h = ap (λ (l : List ℕ). get_or l m 0) t.is ∙ front_at t.front _ _ m h

  is_at : get_or after at 0 ≡ get_or left (suc place) 0
  is_at = ap (λ (l : List ℕ). get_or l at 0) t.is ∙ seam_at t.front _ _

  is_behind : (m : ℕ) → at < m → get_or after m 0 ≡ get_or then_behind (m - at - 1) 0
  is_behind m h = ap (λ (l : List ℕ). get_or l m 0) t.is ∙ tail_at t.front _ _ m h

  -- ---- the two places

  -- where the next number above stands
  abbrev pub to_place : ℕ
  to_place = n - 1 - place

  before_rises : Rising before
  before_rises = without_rises left place (omega (arith, t.inside)) t.rises

  was_to : get_or order to_place 0 ≡ get_or left (suc place) 0
  was_to =
      let e : n - 1 - to_place ≡ place = omega (arith, t.inside) in
      was_behind to_place (omega (arith, t.inside)) (omega (arith, t.inside))
      ∙ ap (λ (i : ℕ). get_or before i 0) e
      ∙ without_behind left place place (omega arith)

  pub last_rise : 1 ≤ at → LastRise order n at
  last_rise some =
      record {
        some = some;
        inside = omega (arith, t.inside);
        rises = rises;
        falls_behind = λ m h l.
            (omega (
              arith,
              was_behind m h (omega arith),
              was_behind (m + 1) (omega arith) l,
              before_rises (n - 1 - (m + 1)) (n - 1 - m) (omega arith) (omega (arith, before_length)),
            ));
      }
    where
      -- the greatest of those left stands behind
      rises : get_or order at 0 < get_or order (at + 1) 0
      rises =
          let e : suc (n - 1 - (at + 1)) ≡ count = omega (arith, t.inside) in
          let greatest = without_behind left place (n - 1 - (at + 1)) (omega (arith, t.inside)) ∙ ap (λ (i : ℕ). get_or left i 0) e in
          omega (
            arith,
            was_at,
            was_behind (at + 1) (omega arith) (omega (arith, t.inside)),
            greatest,
            t.rises place count (omega (arith, t.inside)) (omega (arith, t.inside)),
          )

  pub last_above : LastAbove order n at to_place
  last_above =
      record {
        later = omega (arith, t.inside);
        inside = omega (arith, t.inside);
        above = omega (arith, was_at, was_to, t.rises place (suc place) (omega arith) t.inside);
        none_behind = λ m h l.
            (omega (
              arith,
              was_at,
              was_behind m (omega (arith, t.inside)) l,
              without_before left place (n - 1 - m) (omega (arith, t.inside)),
              t.rises (n - 1 - m) place (omega (arith, t.inside)) (omega (arith, t.inside)),
            ));
      }

  -- ---- the two exchanged, and those behind reversed

  -- those left without the one number or the next: they differ at its place alone
  behind_same : (j : ℕ) → (j ≡ place → ⊥) → get_or before j 0 ≡ get_or then_behind j 0
  behind_same j differ =
      elim (dec_lt j place) [
        | yes lower ↦ without_before left place j lower ∙ sym (without_before left (suc place) j (omega arith))
        | no higher ↦ without_behind left place j (omega arith) ∙ sym (without_behind left (suc place) j (omega arith))
      ]

  module _ (few : n ≤ 8) where
    abbrev array : List ℕ
    array = padded 8 0 order

    abbrev swapped : List ℕ
    swapped = swap array at to_place

    pub full : length array ≡ 8
    full = padded_length 8 0 order (omega (arith, order_length))

    both : Swapped (λ i. get_or array i 0) (λ i. get_or swapped i 0) at to_place
    both = swapped_from_swap array swapped at to_place 0 (omega (arith, full, t.inside)) (omega (arith, full, t.inside)) refl

    swapped_other : (m : ℕ) → (m ≡ at → ⊥) → (m ≡ to_place → ⊥) → get_or swapped m 0 ≡ get_or order m 0
    swapped_other m not_at not-to = both.2 m not_at not-to ∙ padded_at order m

    swapped_at : get_or swapped at 0 ≡ get_or after at 0
    swapped_at =
        both.0
        ∙ padded_at order to_place ∙ was_to ∙ sym is_at

    -- the number that gave way stands where the other stood
    swapped_to : get_or swapped to_place 0 ≡ get_or then_behind place 0
    swapped_to =
        both.1
        ∙ padded_at order at ∙ was_at ∙ sym (without_before left (suc place) place (omega arith))

    swapped_behind : (m : ℕ) → at < m → m < n → get_or swapped (at + 1 + (n - 1) - m) 0 ≡ get_or after m 0
    swapped_behind m h l = go (ℕ_discrete (m - at - 1) place) ∙ sym (is_behind m h)
      where
        not_at : mirrored at n m h l ≡ at → ⊥
        not_at d = let b = mirrored_behind at n m h l in omega arith

        go : Dec (m - at - 1 ≡ place) → get_or swapped (at + 1 + (n - 1) - m) 0 ≡ get_or then_behind (m - at - 1) 0
        go (yes same) =
            rw (mirrored_is at n m h l place same, same) swapped_to
        go (no other) =
            let e = mirrored_from_the_end at n m h l in
            let back = from_the_end_twice n place place_inside in
            swapped_other (mirrored at n m h l) not_at (λ d. other (sym e ∙ ap (λ (i : ℕ). n - 1 - i) d ∙ back))
            ∙ was_behind (mirrored at n m h l) (mirrored_behind at n m h l) (mirrored_inside at n m h l)
            ∙ ap (λ (i : ℕ). get_or before i 0) e
            ∙ behind_same (m - at - 1) other

    pub next_is : (next : List ℕ) → Reversed (at + 1) (n - 1) swapped next → next ≡ padded 8 0 after
    next_is next r =
        ext_get_or 0 next (padded 8 0 after)
        (r.same_length ∙ length-swap array at to_place ∙ full ∙ sym (padded_length 8 0 after (omega (arith, after_length))))
        (λ m h. place_is m ∙ sym (padded_at after m))
      where
        place_is : (m : ℕ) → get_or next m 0 ≡ get_or after m 0
        place_is m =
            elim (dec_lt m at) [
              | yes lower ↦ r.below_same m (omega arith)
                  ∙ swapped_other m (λ e. omega arith) (λ e. omega (arith, t.inside))
                  ∙ was_front m lower ∙ sym (is_front m lower)
              | no not_lower ↦ elim (ℕ_discrete m at) [
                | yes same ↦ rw same (r.below_same at (omega arith) ∙ swapped_at)
                | no other ↦ elim (dec_lt m n) [
                  | yes inside ↦ r.reversed m (omega arith) (omega arith) ∙ swapped_behind m (omega arith) inside
                  | no outside ↦ r.above_same m (omega arith)
                      ∙ swapped_other m other (λ e. omega (arith, t.inside))
                      ∙ get_or-eq_default order 0 {n = m} (omega (arith, order_length))
                      ∙ sym (get_or-eq_default after 0 {n = m} (omega (arith, after_length)))
                ]
              ]
            ]

  pub front_stays : take at (padded 8 0 after) ≡ take at (padded 8 0 order)
  front_stays = leads after _ t.is ∙ sym (leads order _ t.was)
    where
      leads : (l tail : List ℕ) → l ≡ t.front ++ tail → take at (padded 8 0 l) ≡ t.front
      leads l tail e =
          let zeros-then : List ℕ = replicate (8 - length l) 0 in
          ap (λ (x : List ℕ). take at (x ++ zeros-then)) e
          ∙ ap (take at) (append_assoc t.front tail zeros-then)
          ∙ take-append_seam t.front (tail ++ zeros-then)
