-- A step of a route and the numbers with which it is refused (01, "A leg").
-- Assumes nothing.
use Rattle.std.specs.Prelude.{Bool, false, cond, not, ◌&&◌, ◌||◌, List, [], ◌∷◌, ◌++◌, ℕ, ◌%◌, ltb, eqb, length, get_or, Some, None}
use Rattle.utilities.specs.declared.CompassDir.{CompassDir}
use Rattle.utilities.specs.Compass.{side_of}
use Rattle.route.specs.declared.PortalWindow.{PortalWindow}
use Rattle.route.specs.declared.RouteStep.{RouteStep}
use Rattle.route.specs.Table.{Row, row, first_number}
use Rattle.route.specs.Window.{on_edge, cells_between}

-- The 8 bytes (01, "A leg"): sector; goal cell; window mark (0 none, 1 window); first and last window cell; boundary; two zero bytes.
-- A byte that is not there counts as 0.
abbrev pub sector_of : List ℕ → ℕ
sector_of s = get_or s 0 0

abbrev pub goal_of : List ℕ → ℕ
goal_of s = get_or s 1 0

abbrev pub mark_of : List ℕ → ℕ
mark_of s = get_or s 2 0

abbrev pub first_of : List ℕ → ℕ
first_of s = get_or s 3 0

abbrev pub last_of : List ℕ → ℕ
last_of s = get_or s 4 0

abbrev pub boundary_byte : List ℕ → ℕ
boundary_byte s = get_or s 5 0

abbrev pub boundary_of : List ℕ → CompassDir
boundary_of s = side_of (boundary_byte s)

abbrev pub is_goal : List ℕ → Bool
is_goal s = eqb (mark_of s) 0

abbrev pub is_window : List ℕ → Bool
is_window s = eqb (mark_of s) 1

-- a step's window cells, in order
abbrev pub window_cells : List ℕ → List ℕ
window_cells s = cells_between (boundary_of s) (first_of s) (last_of s)

-- its window: the first and the last cell, and the boundary
abbrev pub portal_of : List ℕ → PortalWindow
portal_of s = record { start = first_of s; end = last_of s; boundary = boundary_of s }

-- the parsed step, with a window where its mark says so
abbrev pub route_step : List ℕ → RouteStep
route_step s = record { sector = sector_of s; goal = goal_of s; portal = cond (is_window s) (Some (portal_of s)) None }

-- the table's lines for each step, numbers 4 to 8 (01, "A leg", the table); with mark 0 the window bytes are not read, with mark 1 the goal byte is not
abbrev pub step_rows : List ℕ → List Row
step_rows s =
    row 4 (ltb 63 (sector_of s) || ltb 1 (mark_of s) || not (eqb (get_or s 6 0) 0) || not (eqb (get_or s 7 0) 0))
    ∷ row 5 (is_goal s && ltb 99 (goal_of s))
    ∷ row 6 (is_window s && (ltb 99 (first_of s) || ltb 99 (last_of s) || ltb 3 (boundary_byte s)))
    ∷ row 7 (is_window s && not (on_edge (boundary_of s) (first_of s) && on_edge (boundary_of s) (last_of s)))
    ∷ row 8 (is_window s && ltb (last_of s) (first_of s))
    ∷ []

-- 4 to 8 for a step of 8 bytes that is refused, else 0
unfoldable pub each_step : List ℕ → ℕ
each_step s = first_number (step_rows s)

-- 3 to 8 for a step that is refused, else 0
unfoldable pub step_number : List ℕ → ℕ
step_number s = first_number (row 3 (not (eqb (length s) 8)) ∷ step_rows s)

-- ---- on its sector's costs (02, "Job 3")

-- a cell of cost 255 (02, "Job 3")
abbrev pub is_wall_cost : List ℕ → ℕ → Bool
is_wall_cost costs i = eqb (get_or costs i 0) 255

-- some cell of a list is one (02, "Job 3": any window cell)
abbrev pub some_wall_cost : List ℕ → List ℕ → Bool
some_wall_cost costs [] = false
some_wall_cost costs (i ∷ cells) = is_wall_cost costs i || some_wall_cost costs cells

-- 16 (02, "Job 3"): the goal or any window cell of cost 255; with mark 0 the window bytes are not read, with mark 1 the goal byte is not
abbrev pub targets_wall : List ℕ → List ℕ → Bool
targets_wall costs s = (is_goal s && is_wall_cost costs (goal_of s)) || (is_window s && some_wall_cost costs (window_cells s))

-- the table's lines for each step, on its sector's costs (02, "Job 3"): 16 after 8 for the same step
abbrev pub step_rows_on : List ℕ → List ℕ → List Row
step_rows_on costs s = step_rows s ++ (row 16 (targets_wall costs s) ∷ [])

-- 4 to 8, or 16 (02, "Job 3"), for a step of 8 bytes that is refused on these costs, else 0
unfoldable pub each_step_on : List ℕ → List ℕ → ℕ
each_step_on costs s = first_number (step_rows_on costs s)

-- 3 to 8, or 16 (02, "Job 3"), for a step that is refused on these costs, else 0
unfoldable pub step_number_on : List ℕ → List ℕ → ℕ
step_number_on costs s = first_number (row 3 (not (eqb (length s) 8)) ∷ step_rows_on costs s)

-- ---- a list of steps

-- 3 for a list of steps (01, the table's line 3, "leg"): 0 bytes, over 128, or no multiple of 8
unfoldable pub no_step_list : List ℕ → Bool
no_step_list steps = eqb (length steps) 0 || ltb 128 (length steps) || not (eqb (length steps % 8) 0)
