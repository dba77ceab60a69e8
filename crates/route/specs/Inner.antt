-- A target as the program holds it, for the contracts of functions beneath the calls.
-- Assumes nothing.
use Rattle.std.specs.Prelude.{◌≡◌, Bool, true, false, List, ℕ, ◌<◌, ◌≤◌, length, Option, Some, None}
use Rattle.fields.specs.declared.CellList.{CellList}
use Rattle.fields.specs.CellList.{held, no_cells}
use Rattle.route.specs.declared.PortalWindow.{PortalWindow}
use Rattle.route.specs.declared.RouteStep.{RouteStep}
use Rattle.route.specs.declared.Target as program
use Rattle.route.specs.declared.Target.TheVariants.{Goal, Window, Corner}
use Rattle.route.specs.Window.{cells_between, listed}
use Rattle.route.specs.Step.{is_wall_cost, some_wall_cost}
use Rattle.route.specs.Target.{Target, to_goal, to_window, to_corner, WindowIn}

-- the target of a parsed step: with a window its cells, else the goal
abbrev pub portal_target : ℕ → Option PortalWindow → Target
portal_target goal (Some w) = to_window (cells_between w.boundary w.start w.end)
portal_target goal None = to_goal goal

abbrev pub route_target : RouteStep → Target
route_target s = portal_target s.goal s.portal

-- a target in the program: window cells in an array, with their count
abbrev pub listed_target : Target → program.Target
listed_target (to_goal n) = Goal n
listed_target (to_window cells) = Window (listed cells)
listed_target (to_corner n) = Corner n

-- a target in the program without sight: of a window nothing changes; and with sight or without
abbrev pub unsighted : program.Target → program.Target
unsighted (Goal n) = Corner n
unsighted (Window w) = Window w
unsighted (Corner n) = Corner n

abbrev pub sighted_by : Bool → program.Target → program.Target
sighted_by true t = t
sighted_by false t = unsighted t

-- what window cells and a target in the program stand for
abbrev pub held_cells : CellList 10 → List ℕ
held_cells = held

abbrev pub held_target : program.Target → Target
held_target (Goal n) = to_goal n
held_target (Window w) = to_window (held_cells w)
held_target (Corner n) = to_corner n

-- its window's cells; beside a goal there are none
abbrev pub own_window : program.Target → CellList 10
own_window (Goal n) = no_cells 10
own_window (Window w) = w
own_window (Corner n) = no_cells 10

-- number 16's condition, by the target
abbrev pub is_wall_target : List ℕ → Target → Bool
is_wall_target costs (to_goal n) = is_wall_cost costs n
is_wall_target costs (to_window cells) = some_wall_cost costs cells
is_wall_target costs (to_corner n) = is_wall_cost costs n

-- window cells, and a target, in the program that stand for those of a target inside the sector
pub record WindowHeld (w : CellList 10) : Type 0 where
  pub full : length w.cells ≡ 10
  pub count_in : w.count ≤ 10
  pub window_in : WindowIn (held_cells w)

abbrev pub TargetHeld : program.Target → Type 0
TargetHeld (Goal n) = n < 100
TargetHeld (Window w) = WindowHeld w
TargetHeld (Corner n) = n < 100
