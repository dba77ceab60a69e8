-- `bounds_sure::Neighbours::has_window` meets its contract. The loop's invariant: what is left of the neighbours decides.
-- Assumes nothing.
use Rattle.std.proofs.Common.{◌≡◌, get_or, drop}
use Rattle.integration_field.specs.Word.{is_portal}
use Rattle.bounds_told.specs.Bounds.{some_of}
use Rattle.bounds_sure.proofs.Neighbours.has_window.Given as goal

abbrev pub invariant-loop-n : goal.invariant-loop-n
invariant-loop-n l =
    let some = some_of (λ n. is_portal (get_or l.cells n 0)) in
    some l.n-items ≡ some (drop l.n-index l.n-items)
