-- Small floors on which the call for window costs decides (02, "Job 13"), computed: a definition with one rule changed gives something else.
--     numbers          the order of the numbers, and each condition of 3, 19 and 20
--     corridor_square  row and place, the least of two cells, and unused places
--     cut_off          unreached windows, and windows that share a cell
--     refused_square   0 throughout
-- Assumes nothing.
use mathlib.Core.Path.{◌≡◌, refl}
use mathlib.Core.List.{List, [], ◌∷◌, ◌++◌}
use Prim.Native.Nat.{ℕ, zero, suc}
use lib.ListN.{set, replicate}
use Rattle.fields.specs.Cell.{stepped}
use Rattle.route.specs.Window.{on_edge, edge, cells_between}
use Rattle.route.specs.Target.{target_of}
use Rattle.step_list.specs.Steps.{steps_in}
use Rattle.integration_field.specs.Wave.{relaxed, offered_around, offered_by, changed_from, next}
use Rattle.integration_field.specs.Rest.{total}
use Rattle.integration_field.specs.Build.{is_empty, settle, build}
use Rattle.integration_started.specs.Sight.{walls, with_portals}
use Rattle.integration_started.specs.Started.{started_at, started}
use Rattle.window_square.specs.Square.{window_step_number, window_costs_number, window_cost, cost_square, square_in, window_costs_answer}

-- the window from a first to a last cell of the North edge, in a sector; and a goal, cell 0
abbrev north : ℕ → ℕ → ℕ → List ℕ
north sector first last = sector ∷ 0 ∷ 1 ∷ first ∷ last ∷ 0 ∷ 0 ∷ 0 ∷ []

abbrev goal : List ℕ
goal = 0 ∷ 0 ∷ 0 ∷ 0 ∷ 0 ∷ 0 ∷ 0 ∷ 0 ∷ []

abbrev repeated : ℕ → List ℕ → List ℕ
repeated zero step = []
repeated (suc n) step = step ++ repeated n step

-- 1 before 3, and 3 before 19, also for 7 bytes; 19 for no step, one, nine and seventeen; two and eight are taken. Of one step 16 comes before 20,
-- and 20 before the next step's 4, which comes before its own 20. 20 for a goal, and for another sector than the first's.
pub numbers :
    window_costs_number (replicate 99 1) (replicate 7 0)
    ∷ window_costs_number (replicate 100 1) (replicate 7 0)
    ∷ window_costs_number (replicate 100 1) (repeated 17 goal ++ (0 ∷ []))
    ∷ window_costs_number (replicate 100 1) []
    ∷ window_costs_number (replicate 100 1) (replicate 8 255)
    ∷ window_costs_number (replicate 100 1) (repeated 9 (north 0 0 0))
    ∷ window_costs_number (replicate 100 1) (repeated 17 (north 0 0 0))
    ∷ window_costs_number (replicate 100 1) (repeated 2 (north 0 0 0))
    ∷ window_costs_number (replicate 100 1) (repeated 8 (north 63 0 9))
    ∷ window_costs_number (set (replicate 100 1) 0 255) (goal ++ north 0 1 1)
    ∷ window_costs_number (replicate 100 1) (goal ++ north 64 1 1)
    ∷ window_costs_number (replicate 100 1) (north 0 1 1 ++ north 64 1 1)
    ∷ window_costs_number (replicate 100 1) (north 0 1 1 ++ goal)
    ∷ window_costs_number (replicate 100 1) (north 0 1 1 ++ (north 0 1 1 ++ north 1 1 1))
    ∷ window_costs_number (set (replicate 100 1) 2 255) (north 0 1 1 ++ north 1 1 2)
    ∷ []
    ≡ 1 ∷ 3 ∷ 3 ∷ 19 ∷ 19 ∷ 19 ∷ 19 ∷ 0 ∷ 0 ∷ 16 ∷ 20 ∷ 4 ∷ 20 ∷ 20 ∷ 16 ∷ []
unfolding window_costs_number window_step_number steps_in on_edge edge cells_between
numbers = refl

-- cells 0 to 3 of row 0 cost 1 to 4, and cell 5 lies apart from them; all else is wall
abbrev corridor : List ℕ
corridor = set (set (set (set (set (replicate 100 255) 0 1) 1 2) 2 3) 3 4) 5 1

-- a row of which two places are used
abbrev two : ℕ → ℕ → List ℕ
two a b = a ∷ b ∷ replicate 6 65535

-- The windows 0 to 1 and 3: after building for cell 3 alone cell 1 has 5 and cell 0 has 6; after building for cells 0 and 1 alone cell 3 has 7.
pub corridor_square :
    square_in (window_costs_answer corridor (north 0 0 1 ++ north 0 3 3)).rows
    ≡ two 0 5 ∷ two 7 0 ∷ replicate 6 (replicate 8 65535)
unfolding window_costs_number window_step_number window_cost cost_square steps_in on_edge edge cells_between stepped target_of relaxed offered_around offered_by
    changed_from next total is_empty settle build walls with_portals started_at started
corridor_square = refl

-- Nothing reaches cell 5 from cell 0. The windows 0 to 1 and 1 to 2 share a cell.
pub cut_off :
    window_cost corridor (north 0 0 0) (north 0 5 5) ∷ window_cost corridor (north 0 0 1) (north 0 1 2) ∷ [] ≡ 65535 ∷ 0 ∷ []
unfolding window_cost on_edge edge cells_between stepped target_of relaxed offered_around offered_by changed_from next total is_empty settle build
    walls with_portals started_at started
cut_off = refl

pub refused_square : square_in (window_costs_answer corridor (north 0 0 1)).rows ≡ replicate 8 (replicate 8 0)
unfolding window_costs_number steps_in
refused_square = refl
