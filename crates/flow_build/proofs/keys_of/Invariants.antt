-- `flow_build::keys_of` meets its contract. The loop's invariant: the keys of the first i cells are in their places.
-- Assumes nothing.
use Prim.Native.Nat.{ℕ}
use lib.ListN.{get_or}
use mathlib.Core.List.{List}
use Rattle.utilities.proofs.Lists.{FilledTo}
use Rattle.flow_build.specs.Inner.{cell_key}
use Rattle.flow_build.proofs.keys_of.Given as goal

abbrev key_at : List ℕ → ℕ → ℕ
key_at cells k = cell_key (get_or cells k 0)

abbrev pub invariant-loop-i : goal.invariant-loop-i
invariant-loop-i l = FilledTo 100 (key_at l.cells) l.i l.keys
