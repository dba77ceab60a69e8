-- `flow_build::point_cells` meets its contract: the bytes passed are by the looks, and those ahead are the old ones.
-- Assumes nothing.
use mathlib.Core.List.{List}
use Prim.Native.Nat.{ℕ}
use lib.ListN.{get_or}
use Rattle.flow_byte.proofs.Sheets.{Filled}
use Rattle.flow_build.specs.Inner.{byte_after}
use Rattle.flow_build.proofs.point_cells.Given as goal

-- the byte of cell k, by the two arrays and the old bytes
abbrev rule : List ℕ → List ℕ → List ℕ → ℕ → ℕ
rule best bits old k = byte_after (get_or old k 0) (get_or best k 0) (get_or bits k 0)

abbrev pub invariant-loop-i : goal.invariant-loop-i
invariant-loop-i l = Filled (rule l.best l.bits l.initial.sheet) l.initial.sheet l.i l.sheet
