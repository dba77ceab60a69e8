-- Laws of this crate's loops.
--     factorial_more, factorial_few    the product with one number more, and that it stays small
--     counted_more                     the first order, with one number more
--     rise_found, rise_earlier         the last rise is at a place where a search from behind meets one, else before it
--     above_found, above_earlier       the same of the last number above one
-- Assumes nothing.
use mathlib.Core.Path.{◌≡◌, ◌∙◌}
use mathlib.Core.List.{List}
use Prim.Native.Nat.{ℕ, zero, suc, ◌+◌, ◌-◌, ◌*◌, ◌<◌, ◌≤◌}
use native.Mathlib.Omega.{arith}
use native.Mathlib.Nat.{mul_comm, mul-le-mul_right, zero-add, suc-add}
use native.Mathlib.Numerals.{add-one}
use native.Mathlib.Decide.{ℕ_discrete}
use lib.ListN.{length, get_or, set, length-set}
use lib.Seq.{get_or-set_same, get_or-set_other}
use Rattle.tour_orders.specs.Orders.{factorial}
use Rattle.tour_ranking.specs.Inner.{LastRise, LastAbove}

-- ---- factorials

pub factorial_more : (k : ℕ) → factorial k * (k + 1) ≡ factorial (k + 1)
factorial_more k = rw add-one (mul_comm (factorial k) (suc k))

factorial_grows : (m k : ℕ) → factorial k ≤ factorial (m + k)
factorial_grows zero k = rw zero-add (omega arith)
factorial_grows (suc m) k =
    rw suc-add (omega (arith, factorial_grows m k, mul-le-mul_right {m = 1} {n = suc (m + k)} (factorial (m + k)) (omega arith)))

pub factorial_few : (k : ℕ) → k ≤ 7 → factorial k ≤ 5040
factorial_few k h = let all : 7 - k + k ≡ 7 = omega arith in rw all at (factorial_grows (7 - k) k)

-- ---- the first order

-- the numbers before a place stand at their own places, and 0 behind them
pub record Counted (order : List ℕ) (at : ℕ) : Type 0 where
  pub long : length order ≡ 8
  pub own : (m : ℕ) → m < at → get_or order m 0 ≡ m
  pub zeros : (m : ℕ) → at ≤ m → get_or order m 0 ≡ 0

pub counted_more : (order : List ℕ) (at : ℕ) → at < 8 → Counted order at → Counted (set order at at) (at + 1)
counted_more order at h c =
    record {
      long = length-set order at at ∙ c.long;
      own = λ m l. elim (ℕ_discrete m at) [
        | yes same ↦ rw same (get_or-set_same order at at 0 (omega (arith, c.long)))
        | no other ↦ get_or-set_other order at m at 0 other ∙ c.own m (omega arith)
      ];
      zeros = λ m l. get_or-set_other order at m at 0 (λ e. omega arith) ∙ c.zeros m (omega arith);
    }

-- ---- searches from behind

module _ (order : List ℕ) (n at place : ℕ) (r : LastRise order n place) (behind : place ≤ at) where
  pub rise_found : at + 1 < n → get_or order at 0 < get_or order (at + 1) 0 → at ≡ place
  rise_found inside rises =
      elim (ℕ_discrete at place) [
        | yes same ↦ same
        | no other ↦ absurd (omega (arith, r.falls_behind at (omega arith) inside))
      ]

  pub rise_earlier : get_or order (at + 1) 0 ≤ get_or order at 0 → place ≤ at - 1
  rise_earlier falls =
      elim (ℕ_discrete place at) [
        | yes same ↦ absurd (let rises = rw same at r.rises in omega arith)
        | no other ↦ omega arith
      ]

module _ (order : List ℕ) (n at to place : ℕ) (a : LastAbove order n at place) (behind : place ≤ to) where
  pub above_found : to < n → get_or order at 0 < get_or order to 0 → to ≡ place
  above_found inside above =
      elim (ℕ_discrete to place) [
        | yes same ↦ same
        | no other ↦ absurd (omega (arith, a.none_behind to (omega arith) inside))
      ]

  pub above_earlier : get_or order to 0 ≤ get_or order at 0 → place ≤ to - 1
  above_earlier below =
      elim (ℕ_discrete place to) [
        | yes same ↦ absurd (let above = rw same at a.above in omega arith)
        | no other ↦ omega arith
      ]
