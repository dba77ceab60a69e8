-- The table's edges of a leg, computed (01, "Cases": 16 steps taken, 17 number 3; "Checks run down the table"; 02, "Job 3": 16).
-- Assumes nothing.
use mathlib.Core.Path.{◌≡◌, refl}
use mathlib.Core.List.{List, [], ◌∷◌, map}
use Prim.Native.Nat.{ℕ}
use lib.ListN.{replicate, set}
use Rattle.route.specs.Table.{first_number}
use Rattle.route.specs.Window.{on_edge, edge, cells_between}
use Rattle.route.specs.Step.{each_step_on, no_step_list}
use Rattle.sectors.specs.Floor.{across}
use Rattle.step_list.specs.Steps.{steps_in}
use Rattle.leg_plan.specs.Leg.{judged_rows}

-- a floor of ones, and the number before a step is planned; on that floor, and with one wall on it
abbrev ones : List ℕ
ones = replicate 6400 1

abbrev number_at : List ℕ → List ℕ → ℕ
number_at floor steps = first_number (judged_rows floor steps (replicate 6400 0))

abbrev number_on : List ℕ → ℕ
number_on steps = number_at ones steps

abbrev with_wall : ℕ → List ℕ → ℕ
with_wall place steps = number_at (set ones place 255) steps

-- out of order, since the first step has a window, and disconnected, since sector 5 is not beside sector 0: 9 comes before 10
pub nine_first : number_on (0 ∷ 0 ∷ 1 ∷ 0 ∷ 0 ∷ 0 ∷ 0 ∷ 0 ∷ 5 ∷ 0 ∷ 1 ∷ 0 ∷ 0 ∷ 0 ∷ 0 ∷ 0 ∷ []) ≡ 9
unfolding judged_rows no_step_list steps_in each_step_on on_edge edge cells_between
nine_first = refl

-- 16 steps are not too many; that they all name sector 0 is 9
pub sixteen_steps : number_on (replicate 128 0) ≡ 9
unfolding judged_rows no_step_list steps_in each_step_on
sixteen_steps = refl

pub seventeen_steps : number_on (replicate 136 0) ≡ 3
unfolding judged_rows no_step_list steps_in each_step_on
seventeen_steps = refl

-- The goal in sector 0, and sector 1 left by its West window 40 to 60, on a floor with one wall: window cell 50 of sector 1; a cell beside that
-- window; cell 50 of sector 0 and of sector 2; the goal. The costs are the step's own sector's.
abbrev goal_then_west : List ℕ
goal_then_west = 0 ∷ 7 ∷ 0 ∷ 0 ∷ 0 ∷ 0 ∷ 0 ∷ 0 ∷ 1 ∷ 0 ∷ 1 ∷ 40 ∷ 60 ∷ 3 ∷ 0 ∷ 0 ∷ []

pub own_sector : map (λ (place : ℕ). with_wall place goal_then_west) (150 ∷ 151 ∷ 50 ∷ 250 ∷ 7 ∷ []) ≡ 16 ∷ 0 ∷ 0 ∷ 0 ∷ 16 ∷ []
unfolding judged_rows no_step_list steps_in each_step_on on_edge edge cells_between across
own_sector = refl

-- with mark 1 the goal byte is not read, with mark 0 the window bytes are not: a wall at cell 0 of both sectors is neither step's
pub unread_bytes : number_at (set (set ones 0 255) 100 255) goal_then_west ≡ 0
unfolding judged_rows no_step_list steps_in each_step_on on_edge edge cells_between across
unread_bytes = refl

-- 16 of a step comes before 4 of the next, which names sector 64, and before 9, which two goals in one sector are
pub sixteen_first : with_wall 7 (0 ∷ 7 ∷ 0 ∷ 0 ∷ 0 ∷ 0 ∷ 0 ∷ 0 ∷ 64 ∷ 0 ∷ 0 ∷ 0 ∷ 0 ∷ 0 ∷ 0 ∷ 0 ∷ []) ≡ 16
unfolding judged_rows no_step_list steps_in each_step_on
sixteen_first = refl

pub sixteen_before_nine : with_wall 7 (0 ∷ 7 ∷ 0 ∷ 0 ∷ 0 ∷ 0 ∷ 0 ∷ 0 ∷ 0 ∷ 7 ∷ 0 ∷ 0 ∷ 0 ∷ 0 ∷ 0 ∷ 0 ∷ []) ≡ 16
unfolding judged_rows no_step_list steps_in each_step_on
sixteen_before_nine = refl
