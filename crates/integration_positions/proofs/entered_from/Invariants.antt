-- `integration_positions::entered_from`, the loop's invariant: the values of the first i cells are in their places.
-- Assumes nothing.
use mathlib.Core.List.{List}
use Prim.Native.Nat.{ℕ}
use lib.ListN.{get_or}
use Rattle.utilities.proofs.Lists.{FilledTo}
use Rattle.integration_positions.specs.Inner.{entered_from}
use Rattle.integration_positions.proofs.entered_from.Given as goal

abbrev rule : List ℕ → List ℕ → List ℕ → ℕ → ℕ
rule costs before built x = entered_from (get_or costs x 0) (get_or before x 0) (get_or built x 0)

abbrev pub invariant-loop-i : goal.invariant-loop-i
invariant-loop-i l = FilledTo 100 (rule l.costs l.before l.built) l.i l.entered
