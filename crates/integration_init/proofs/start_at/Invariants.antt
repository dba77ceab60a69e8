-- The invariant of `start_at`: what is left of the window from place i on does what the whole window does to the walls, the cells before it are listed,
-- and no cell has a position.
-- Assumes nothing.
use Rattle.std.proofs.Common.{◌≡◌, ℕ, List, take}
use lib.Seq.{slice}
use Rattle.fields.specs.declared.CellList.{CellList}
use Rattle.integration_field.specs.declared.IntegrationField.{IntegrationField}
use Rattle.integration_field.specs.Listed.{padded, no_positions}
use Rattle.integration_started.specs.Sight.{walls, with_portals}
use Rattle.integration_init.proofs.start_at.Given as goal

-- before place i of the window
pub record Marked (costs : List ℕ) (window : CellList 10) (field : IntegrationField) (i : ℕ) : Type 0 where
  pub left : with_portals (take window.count window.cells) (walls costs) ≡ with_portals (slice i window.count window.cells) field.field
  pub corners : field.los_corners ≡ padded (take i window.cells)
  pub none : field.positions ≡ no_positions

abbrev pub invariant-loop-i : goal.invariant-loop-i
invariant-loop-i l = Marked l.costs l.window l.field l.i
