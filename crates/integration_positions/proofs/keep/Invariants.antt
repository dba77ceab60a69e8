-- `integration_positions::keep`, the loop's invariant: what the first i cells keep is in their places.
-- Assumes nothing.
use mathlib.Core.List.{List}
use Prim.Native.Nat.{ℕ}
use lib.ListN.{get_or}
use Rattle.utilities.proofs.Lists.{FilledTo}
use Rattle.integration_positions.specs.Inner.{kept_of}
use Rattle.integration_positions.proofs.keep.Given as goal

abbrev rule : List ℕ → List ℕ → ℕ → ℕ
rule before positions x = kept_of (get_or before x 0) (get_or positions x 0)

abbrev pub invariant-loop-i : goal.invariant-loop-i
invariant-loop-i l = FilledTo 100 (rule l.before l.positions) l.i l.left
