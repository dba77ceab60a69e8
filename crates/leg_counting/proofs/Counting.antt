-- A step's target in a leg.
--     counting_in      the cells of its window that count are cells of the sector, no cell twice, at most 10
--     leg_target_in    so the target of a step that is not refused is inside the sector
--     leg_target_on    and its window cells lie on the edge of the step's boundary
--     closed_listed    in the program: a window is closed exactly if it has no cells
-- Assumes nothing.
use mathlib.Core.Path.{◌≡◌, refl}
use mathlib.Core.Bool.{Bool, true, false}
use mathlib.Core.List.{List, [], ◌∷◌, Memᴰ}
use Prim.Native.Nat.{ℕ}
use native.Mathlib.Omega.{arith}
use lib.ListN.{length}
use borrow.Author.Tests.{ne_eqb}
use Rattle.route.specs.Window.{on_edge}
use Rattle.route.specs.Step.{first_of, last_of, boundary_of, window_cells, portal_of, step_number}
use Rattle.route.specs.Target.{Target, to_goal, to_window, to_corner, WindowIn, TargetIn, target_of}
use Rattle.route.specs.Inner.{listed_target}
use Rattle.route.proofs.Cells.{cells_in}
use Rattle.route.proofs.Targets.{target_in, sight_in, sight_window}
use Rattle.route.proofs.Selected.{select_in, selected_from}
use Rattle.flow_arrows.proofs.Clear.{OnEdge, window_on, target_on}
use Rattle.leg_counting.specs.Counting.{counting_cells, leg_target, is_closed}
use Rattle.leg_counting.specs.Inner.{found_closed}

pub counting_in : (previous step : List ℕ) → WindowIn (counting_cells previous step)
unfolding counting_cells
counting_in previous step = select_in _ (window_cells step) (cells_in (boundary_of step) (first_of step) (last_of step))

pub leg_target_in : (sight has : Bool) (previous step : List ℕ) → step_number step ≡ 0 → TargetIn (leg_target sight has previous step)
leg_target_in sight false previous step good = sight_in sight (target_of step) (target_in step good)
leg_target_in sight true previous step good = counting_in previous step

counting_on : (previous step : List ℕ) (x : ℕ) → Memᴰ x (counting_cells previous step) → on_edge (boundary_of step) x ≡ true
unfolding counting_cells
counting_on previous step x m = window_on step x (selected_from _ (window_cells step) x m).0

pub leg_target_on : (sight has : Bool) (previous step : List ℕ) → OnEdge (portal_of step) (leg_target sight has previous step)
leg_target_on sight false previous step x m = target_on step x (rw (sight_window sight (target_of step)) at m)
leg_target_on sight true previous step x m = counting_on previous step x m

pub closed_listed : (target : Target) → found_closed (listed_target target) ≡ is_closed target
closed_listed (to_goal n) = refl
closed_listed (to_window []) = refl
closed_listed (to_corner n) = refl
closed_listed (to_window (i ∷ l)) = ne_eqb (length (i ∷ l)) 0 (λ z. omega arith)
