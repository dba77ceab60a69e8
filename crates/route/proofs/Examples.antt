-- A step's number on its sector's costs, computed (02, "Job 3").
-- Assumes nothing.
use mathlib.Core.Path.{◌≡◌, refl}
use mathlib.Core.List.{List, [], ◌∷◌, map}
use Prim.Native.Nat.{ℕ}
use lib.ListN.{replicate, set}
use Rattle.route.specs.Window.{on_edge, edge, cells_between}
use Rattle.route.specs.Step.{step_number_on}

-- the number of a step where the one cell of cost 255 is at each of these places
abbrev numbers : List ℕ → List ℕ → List ℕ
numbers step places = map (λ (place : ℕ). step_number_on (set (replicate 100 1) place 255) step) places

-- a North window 3 to 5, whose goal byte is 7: its first, its middle and its last cell, the cells beside it, the one below, and cell 7
pub window_judged : numbers (0 ∷ 7 ∷ 1 ∷ 3 ∷ 5 ∷ 0 ∷ 0 ∷ 0 ∷ []) (3 ∷ 4 ∷ 5 ∷ 2 ∷ 6 ∷ 14 ∷ 7 ∷ []) ≡ 16 ∷ 16 ∷ 16 ∷ 0 ∷ 0 ∷ 0 ∷ 0 ∷ []
unfolding step_number_on on_edge edge cells_between
window_judged = refl

-- a goal 44, whose window bytes say North 3 to 5: the goal, a cell beside it, and cell 4
pub goal_judged : numbers (0 ∷ 44 ∷ 0 ∷ 3 ∷ 5 ∷ 0 ∷ 0 ∷ 0 ∷ []) (44 ∷ 45 ∷ 4 ∷ []) ≡ 16 ∷ 0 ∷ 0 ∷ []
unfolding step_number_on
goal_judged = refl

-- 16 comes after 4, and after 7: a North window 3 to 15
pub four_first : numbers (64 ∷ 44 ∷ 0 ∷ 0 ∷ 0 ∷ 0 ∷ 0 ∷ 0 ∷ []) (44 ∷ []) ≡ 4 ∷ []
unfolding step_number_on
four_first = refl

pub seven_first : numbers (0 ∷ 0 ∷ 1 ∷ 3 ∷ 15 ∷ 0 ∷ 0 ∷ 0 ∷ []) (4 ∷ []) ≡ 7 ∷ []
unfolding step_number_on on_edge edge cells_between
seven_first = refl
