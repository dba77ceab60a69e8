-- `flow_following::all_told` meets its contract. The loop's invariant: the numbers of the first i trails are in their places.
-- Assumes nothing.
use Prim.Native.Nat.{ℕ}
use lib.ListN.{get_or}
use mathlib.Core.List.{List}
use Rattle.utilities.proofs.Lists.{FilledTo}
use Rattle.flow_arrivals.specs.Inner.{told_moves}
use Rattle.flow_following.proofs.all_told.Given as goal

abbrev told_at : List ℕ → ℕ → ℕ
told_at trails k = told_moves (get_or trails k 0)

abbrev pub invariant-loop-i : goal.invariant-loop-i
invariant-loop-i l = FilledTo 100 (told_at l.trails) l.i l.moves
