-- The sector call's number 17, computed (02, "Job 8").
-- Assumes nothing.
use mathlib.Core.Path.{◌≡◌, refl}
use mathlib.Core.Bool.{Bool, true, false}
use mathlib.Core.List.{List, [], ◌∷◌}
use Prim.Native.Nat.{ℕ}
use lib.ListN.{replicate, set}
use Rattle.route.specs.Window.{on_edge, edge, cells_between}
use Rattle.route.specs.Step.{step_number_on}
use Rattle.route.specs.Target.{target_of}
use Rattle.sector.specs.Sector.{sector_number}

-- the number on costs of 1, with a wall at cell 4, of a North window, and of a goal
abbrev number : List ℕ → Bool → List ℕ → ℕ
number step has previous = sector_number (set (replicate 100 1) 4 255) step has previous (replicate 100 0)

abbrev window : ℕ → ℕ → List ℕ
window first last = 0 ∷ 0 ∷ 1 ∷ first ∷ last ∷ 0 ∷ 0 ∷ 0 ∷ []

abbrev goal : ℕ → List ℕ
goal cell = 0 ∷ cell ∷ 0 ∷ 0 ∷ 0 ∷ 0 ∷ 0 ∷ 0 ∷ []

-- a window of three cells: without a previous field; with one of 100 numbers, of 99, and of none; and a window of one cell, without and with
pub windows_judged : number (window 6 8) false []
    ∷ number (window 6 8) true (replicate 100 0)
    ∷ number (window 6 8) true (replicate 99 0)
    ∷ number (window 6 8) true []
    ∷ number (window 6 6) false []
    ∷ number (window 6 6) true (replicate 100 0)
    ∷ [] ≡ 17 ∷ 0 ∷ 12 ∷ 12 ∷ 17 ∷ 0 ∷ []
unfolding sector_number step_number_on on_edge edge cells_between target_of
windows_judged = refl

-- numbers that stand in the place of a previous field which is not lent do not count, neither 100 nor 99
pub lent_as_none : number (window 6 8) false (replicate 100 0) ∷ number (window 6 8) false (replicate 99 0) ∷ [] ≡ 17 ∷ 17 ∷ []
unfolding sector_number step_number_on on_edge edge cells_between target_of
lent_as_none = refl

-- a goal needs no previous field, and is refused with 12 for a misfit
pub goals_judged : number (goal 44) false [] ∷ number (goal 44) true [] ∷ [] ≡ 0 ∷ 12 ∷ []
unfolding sector_number step_number_on target_of
goals_judged = refl

-- 17 comes after 16, a window over the wall, and after 8 and 3
pub sixteen_first : number (window 3 5) false [] ∷ number (window 4 4) false [] ∷ [] ≡ 16 ∷ 16 ∷ []
unfolding sector_number step_number_on on_edge edge cells_between target_of
sixteen_first = refl

pub eight_first : number (window 8 6) false [] ∷ number (0 ∷ window 6 8) false [] ∷ [] ≡ 8 ∷ 3 ∷ []
unfolding sector_number step_number_on on_edge edge cells_between target_of
eight_first = refl
