-- `leg_moves::way_from` meets its contract. The loop's invariant: so many moves lead from the first place to the one where the cart is.
-- Assumes nothing.
use Rattle.leg_journey.specs.Place.{FloorWalk}
use Rattle.leg_moves.specs.Inner.{place_at}
use Rattle.leg_moves.proofs.way_from.Given as goal

abbrev pub invariant-loop-moves : goal.invariant-loop-moves
invariant-loop-moves l = FloorWalk l.sheet l.moves (place_at l.here) (place_at l.at)
