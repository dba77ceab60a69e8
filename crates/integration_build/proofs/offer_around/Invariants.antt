-- `integration_build::offer_around`, the loop's invariant: the offers that are left give the same cells, and the cells that changed so far are listed.
-- Assumes nothing.
use mathlib.Core.Path.{◌≡◌}
use mathlib.Core.List.{List}
use Prim.Native.Nat.{ℕ}
use lib.ListN.{drop}
use Rattle.utilities.specs.Compass.{orthogonal}
use Rattle.fields.specs.declared.CellList.{CellList}
use Rattle.fields.specs.Cell.{cell_at}
use Rattle.integration_field.specs.Wave.{offered_around}
use Rattle.integration_build.specs.Inner.{ChangedCells}
use Rattle.integration_build.proofs.offer_around.Given as goal

pub record Holds (costs before : List ℕ) (value from : ℕ) (cells₀ cells : List ℕ) (next : CellList 100) (i : ℕ) : Type 0 where
  pub offers_left : offered_around costs value (cell_at from) orthogonal cells₀ ≡ offered_around costs value (cell_at from) (drop i orthogonal) cells
  pub changed : ChangedCells before cells next

abbrev pub invariant-loop-dir : goal.invariant-loop-dir
invariant-loop-dir l = Holds l.costs l.before l.value l.from l.initial.cells l.cells l.next l.dir-index
