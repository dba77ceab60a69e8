-- `route::PortalWindow::get_all_window_cells` meets its contract. The loop's invariant: of the edge's cells before the place, those of the window
-- are listed.
-- Assumes nothing.
use mathlib.Core.Path.{◌≡◌}
use lib.ListN.{take}
use Rattle.route.specs.Window.{select, edge, between, listed}
use Rattle.route.proofs.PortalWindow.get_all_window_cells.Given as goal

abbrev pub invariant-loop-place : goal.invariant-loop-place
invariant-loop-place l = l.window ≡ listed (select (between l.self.start l.self.end) (take l.place (edge l.self.boundary)))
