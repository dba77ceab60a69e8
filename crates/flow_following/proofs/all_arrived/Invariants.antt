-- `flow_following::all_arrived` meets its contract. The loop's invariant: where all had arrived so far, none of the trails passed has made all moves.
-- Assumes nothing.
use Rattle.std.proofs.Common.{◌≡◌, ℕ, ◌*◌, ◌<◌, true, get_or}
use Rattle.flow_following.proofs.all_arrived.Given as goal

abbrev pub invariant-loop-trail : goal.invariant-loop-trail
invariant-loop-trail l = l.arrived ≡ true → (k : ℕ) → k < l.trail-index → get_or l.trails k 0 < l.made * 256
