-- `tour_ranking::reverse` meets its contract. The loop's invariant: the outer `i` numbers on each side are reversed, and those between stand as they
-- were.
-- Assumes nothing.
use mathlib.Core.Path.{◌≡◌}
use Prim.Native.Nat.{◌+◌, ◌-◌}
use lib.ListN.{length}
use Rattle.tour_ranking.proofs.Reversing.{Ends, Reversing}
use Rattle.tour_ranking.proofs.reverse.Given as goal

abbrev pub invariant-loop-i : goal.invariant-loop-i
invariant-loop-i l =
    Ends l.first l.last (l.first + l.i) (l.last - l.i)
    × (length l.initial.order ≡ 8 → Reversing l.first l.last (l.first + l.i) (l.last - l.i) l.initial.order l.order)
