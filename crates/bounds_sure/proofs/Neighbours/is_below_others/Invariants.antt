-- `bounds_sure::Neighbours::is_below_others` meets its contract. The loop's invariant: what is left of the neighbours decides.
-- Assumes nothing.
use Rattle.std.proofs.Common.{◌≡◌, ◌||◌, ltb, eqb, get_or, drop}
use Rattle.bounds_told.specs.Bounds.{every_of}
use Rattle.bounds_sure.proofs.Neighbours.is_below_others.Given as goal

abbrev pub invariant-loop-other : goal.invariant-loop-other
invariant-loop-other l =
    let every = every_of (λ n. eqb n l.one || ltb (get_or l.greatest l.one 0) (get_or l.least n 0)) in
    every l.other-items ≡ every (drop l.other-index l.other-items)
