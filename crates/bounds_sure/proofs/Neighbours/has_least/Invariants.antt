-- `bounds_sure::Neighbours::has_least` meets its contract. The loop's invariant: what is left of the neighbours decides.
-- Assumes nothing.
use Rattle.std.proofs.Common.{◌≡◌, ◌&&◌, ltb, get_or, drop}
use Rattle.bounds_told.specs.Bounds.{some_of, is_below_others}
use Rattle.bounds_sure.proofs.Neighbours.has_least.Given as goal

abbrev pub invariant-loop-one : goal.invariant-loop-one
invariant-loop-one l =
    let some = some_of (λ n. ltb (get_or l.greatest n 0) 65535 && is_below_others l.least l.greatest l.one-items n) in
    some l.one-items ≡ some (drop l.one-index l.one-items)
