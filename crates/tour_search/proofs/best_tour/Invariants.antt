-- `tour_search::best_tour` meets its contract. The loop's invariant: the best of the first `place` orders is known; and where there is an order at
-- `place`, it is the one made, and its sums are kept for the places before `changed`.
-- Assumes nothing.
use mathlib.Core.Path.{◌≡◌}
use mathlib.Core.List.{List}
use Rattle.std.specs.Prelude.{Option}
use Rattle.tour_sums.specs.declared.Tour.{Tour}
use Prim.Native.Nat.{ℕ, ◌-◌, ◌<◌, ◌≤◌}
use lib.ListN.{take}
use Rattle.tour_orders.specs.Orders.{orders, factorial}
use Rattle.tour_sums.specs.Tours.{no_tour, best_tour}
use Rattle.tour_ranking.specs.Inner.{order_at}
use Rattle.tour_search.specs.Inner.{SumsKept, lowest}
use Rattle.tour_search.proofs.best_tour.Given as goal

-- the order at a place is made, and the sums of its first places are kept
pub record Made (square : List (List ℕ)) (n : ℕ) (order : List ℕ) (changed : ℕ) (sums : List ℕ) (place : ℕ) : Type 0 where
  pub some : 1 ≤ changed
  pub inside : changed ≤ n
  pub is : order ≡ order_at n place
  pub kept : SumsKept square order changed sums

pub record Holds (square : List (List ℕ)) (n : ℕ) (order : List ℕ) (changed : ℕ) (sums : List ℕ) (best : Option Tour) (place : ℕ) : Type 0 where
  pub most : lowest best ≤ 524288
  pub known : best ≡ best_tour square no_tour (take place (orders n))
  pub made : place < factorial (n - 1) → Made square n order changed sums place

abbrev pub invariant-loop-place : goal.invariant-loop-place
invariant-loop-place l = Holds l.square l.n l.order l.changed l.sums l.best l._place
