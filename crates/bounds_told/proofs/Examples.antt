-- Small floors on which the call for bounds decides (02, "Job 9"), computed: a definition with one rule changed gives something else.
--     numbers           the order of the numbers, and each condition of 18
--     corridor_bounds   least and greatest costs
--     corridor_sure     a cell is sure by its window cell or by one strictly least neighbour; equal bounds, walls, window cells and cells
--                       that nothing reaches are not
-- Assumes nothing.
use mathlib.Core.Path.{◌≡◌, refl}
use mathlib.Core.Bool.{true, cond}
use mathlib.Core.List.{List, [], ◌∷◌, ◌++◌, map}
use Prim.Native.Nat.{ℕ}
use lib.ListN.{get_or, set, replicate}
use Rattle.fields.specs.Cell.{stepped}
use Rattle.route.specs.Window.{on_edge, edge, cells_between}
use Rattle.route.specs.Step.{step_number_on}
use Rattle.route.specs.Target.{target_of}
use Rattle.integration_field.specs.Diagonal.{passes_wall}
use Rattle.integration_field.specs.Wave.{relaxed, offered_around, offered_by, changed_from, next}
use Rattle.integration_field.specs.Rest.{total}
use Rattle.integration_field.specs.Build.{is_empty, settle, build}
use Rattle.integration_started.specs.Sight.{walls, with_portals}
use Rattle.integration_started.specs.Started.{started_at, started}
use Rattle.bounds_told.specs.Bounds.{bounds_number, permitted_along, is_sure, bounds_answer}

-- the window cells 0 to 0, or 0 to 1, of the North edge; and a goal, cell 0
abbrev one_cell : List ℕ
one_cell = 0 ∷ 0 ∷ 1 ∷ 0 ∷ 0 ∷ 0 ∷ 0 ∷ 0 ∷ []

abbrev two_cells : List ℕ
two_cells = 0 ∷ 0 ∷ 1 ∷ 0 ∷ 1 ∷ 0 ∷ 0 ∷ 0 ∷ []

abbrev goal : List ℕ
goal = 0 ∷ 0 ∷ 0 ∷ 0 ∷ 0 ∷ 0 ∷ 0 ∷ 0 ∷ []

-- cells 0 to 3 of row 0 at one cost, and cells 98 and 99 apart from them; all else is wall
abbrev corridor : ℕ → List ℕ
corridor c = set (set (set (set (set (set (replicate 100 255) 0 c) 1 c) 2 c) 3 c) 98 1) 99 1

-- 1 for either floor, before the step's own; 16 for either floor, and on a goal, before 18; 18 for a goal step, for low above high, and for 255
-- in only one of the two; 254 under 255 is not the same
pub numbers :
    bounds_number (replicate 99 1) (replicate 100 1) []
    ∷ bounds_number (replicate 100 1) (replicate 101 1) []
    ∷ bounds_number (replicate 100 1) (replicate 100 1) []
    ∷ bounds_number (replicate 100 2) (set (replicate 100 1) 0 255) one_cell
    ∷ bounds_number (set (replicate 100 1) 0 255) (replicate 100 1) one_cell
    ∷ bounds_number (set (replicate 100 1) 0 255) (replicate 100 1) goal
    ∷ bounds_number (replicate 100 1) (replicate 100 1) goal
    ∷ bounds_number (set (replicate 100 1) 99 2) (replicate 100 1) one_cell
    ∷ bounds_number (set (replicate 100 1) 99 254) (set (replicate 100 1) 99 255) one_cell
    ∷ bounds_number (set (replicate 100 1) 99 255) (set (replicate 100 1) 99 255) one_cell
    ∷ bounds_number (replicate 100 0) (replicate 100 254) one_cell
    ∷ []
    ≡ 1 ∷ 1 ∷ 3 ∷ 16 ∷ 16 ∷ 16 ∷ 18 ∷ 18 ∷ 18 ∷ 0 ∷ 0 ∷ []
unfolding bounds_number step_number_on on_edge edge cells_between
numbers = refl

-- the least and the greatest cost: of the window cell, of the cell next to it and of that at the end, then of a wall and of a cell that nothing
-- reaches
pub corridor_bounds :
    map (λ x. get_or (bounds_answer (corridor 1) (corridor 5) one_cell).least x 7) (0 ∷ 1 ∷ 3 ∷ 4 ∷ 99 ∷ [])
    ++ map (λ x. get_or (bounds_answer (corridor 1) (corridor 5) one_cell).greatest x 7) (0 ∷ 1 ∷ 3 ∷ 4 ∷ 99 ∷ [])
    ≡ 0 ∷ 1 ∷ 3 ∷ 65535 ∷ 65535 ∷ 0 ∷ 5 ∷ 15 ∷ 65535 ∷ 65535 ∷ []
unfolding bounds_number step_number_on on_edge edge cells_between stepped target_of relaxed offered_around offered_by changed_from next total is_empty settle
    build walls with_portals started_at started
corridor_bounds = refl

-- the marks of some cells, 1 for sure
abbrev marks : List ℕ → List ℕ → List ℕ → List ℕ → List ℕ
marks low high step = map (λ x. cond (get_or (bounds_answer low high step).sure x true) 1 0)

-- From 1 to 2, cell 2 sees cell 1, at most 2, and cell 3, at least 3; from 1 to 3 both may be 3. Cell 1 sees the window, cell 3 has one permitted
-- neighbour. Window cells, though one sees the other, walls, though they lie beside the window, and cells that nothing reaches are not marked.
pub corridor_sure :
    marks (corridor 1) (corridor 2) one_cell (0 ∷ 1 ∷ 2 ∷ 3 ∷ 10 ∷ 98 ∷ 99 ∷ [])
    ++ marks (corridor 1) (corridor 3) one_cell (1 ∷ 2 ∷ 3 ∷ [])
    ++ marks (corridor 0) (corridor 0) two_cells (0 ∷ 1 ∷ 2 ∷ 3 ∷ [])
    ≡ 0 ∷ 1 ∷ 1 ∷ 1 ∷ 0 ∷ 0 ∷ 0 ∷ 1 ∷ 0 ∷ 1 ∷ 0 ∷ 0 ∷ 1 ∷ 1 ∷ []
unfolding bounds_number step_number_on on_edge edge cells_between stepped target_of relaxed offered_around offered_by changed_from next total is_empty settle
    build walls with_portals started_at started passes_wall permitted_along is_sure
corridor_sure = refl
