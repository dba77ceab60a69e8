-- `integration_build::offer_wave`, the loop's invariant: the offers that are left give the same cells, and the cells that changed so far are listed.
-- Assumes nothing.
use mathlib.Core.Path.{◌≡◌}
use mathlib.Core.List.{List}
use Prim.Native.Nat.{ℕ}
use lib.ListN.{drop}
use Rattle.fields.specs.declared.CellList.{CellList}
use Rattle.integration_field.specs.Wave.{offered_by}
use Rattle.integration_build.specs.Inner.{ChangedCells}
use Rattle.integration_build.proofs.offer_wave.Given as goal

pub record Holds (costs before wave cells₀ cells : List ℕ) (next : CellList 100) (i : ℕ) : Type 0 where
  pub offers_left : offered_by costs before wave cells₀ ≡ offered_by costs before (drop i wave) cells
  pub changed : ChangedCells before cells next

abbrev pub invariant-loop-cell : goal.invariant-loop-cell
invariant-loop-cell l = Holds l.costs l.before l.cell-items l.initial.cells l.cells l.next l.cell-index
