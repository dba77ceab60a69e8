-- `tour_search::add_moves` meets its contract. The loop's invariant: the sums of the places before `at` are kept, and the last of them is `sum`.
-- Assumes nothing.
use mathlib.Core.Path.{◌≡◌}
use mathlib.Core.List.{List}
use Prim.Native.Nat.{ℕ, ◌-◌}
use Rattle.tour_search.specs.Inner.{weighed, SumsKept}
use Rattle.tour_search.proofs.add_moves.Given as goal

pub record Holds (square : List (List ℕ)) (order sums : List ℕ) (sum at : ℕ) : Type 0 where
  pub last : sum ≡ weighed square order (at - 1)
  pub kept : SumsKept square order at sums

abbrev pub invariant-loop-at : goal.invariant-loop-at
invariant-loop-at l = Holds l.square l.order l.sums l.sum l.at
