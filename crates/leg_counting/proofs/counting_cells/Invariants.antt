-- `leg_counting::counting_cells` meets its contract. The loop's invariant: those that count of the window's first `place` cells are listed.
-- Assumes nothing.
use mathlib.Core.Path.{◌≡◌}
use mathlib.Core.List.{List}
use Prim.Native.Nat.{ℕ}
use lib.ListN.{take}
use Rattle.route.specs.declared.PortalWindow.{PortalWindow}
use Rattle.route.specs.Window.{select, cells_between, listed}
use Rattle.leg_counting.specs.Counting.{counts}
use Rattle.leg_counting.proofs.counting_cells.Given as goal

abbrev pub cells_of : PortalWindow → List ℕ
cells_of portal = cells_between portal.boundary portal.start portal.end

abbrev pub invariant-loop-place : goal.invariant-loop-place
invariant-loop-place l = l.window ≡ listed (select (counts l.portal l.previous) (take l.place (cells_of l.portal)))
