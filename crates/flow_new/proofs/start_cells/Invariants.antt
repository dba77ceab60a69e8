-- `flow_new::start_cells` meets its contract. The loop's invariant: the flags of the first i cells are in their places.
-- Assumes nothing.
use Prim.Native.Nat.{ℕ}
use lib.ListN.{get_or}
use mathlib.Core.List.{List}
use Rattle.utilities.proofs.Lists.{FilledTo}
use Rattle.flow_byte.specs.New.{start_of}
use Rattle.flow_new.proofs.start_cells.Given as goal

abbrev start_at : List ℕ → ℕ → ℕ
start_at cells k = start_of (get_or cells k 0)

abbrev pub invariant-loop-i : goal.invariant-loop-i
invariant-loop-i l = FilledTo 100 (start_at l.cells) l.i l.flags
