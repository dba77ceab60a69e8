-- What is promised of a sector that was planned: what demand 3 says of it, least walks and the exact count of its field, and arrows of its
-- bytes that lead; and that its arrows are clear of walls (02, "Job 7").
-- Assumes nothing.
use Rattle.std.specs.Prelude.{◌≡◌, true, false, ◌↔◌, List, ℕ}
use Rattle.route.specs.Step.{goal_of, is_window}
use Rattle.route.specs.Target.{Target, by_window, EndCell, without_sight, target_of}
use Rattle.integration_field.specs.declared.IntegrationField.{IntegrationField}
use Rattle.integration_walks.specs.Promise.{Demand3}
use Rattle.integration_walks.specs.Goal.{GoalCosts, GoalPositions}
use Rattle.flow_arrows.specs.Arrows.{ClearArrows, CellsMarked, ArrowsLead}
use Rattle.flow_arrows.specs.Promise.{NoCostZero}

-- `built` are the cells of the built field, `waves` the count, `bytes` what was written
pub record Planned (costs : List ℕ) (target : Target) (built : List ℕ) (waves : ℕ) (bytes : List ℕ) : Type 0 where
  pub walks : Demand3 costs target built waves
  -- left by a window, with no cost 0
  pub arrows : by_window target ≡ true → NoCostZero costs → ArrowsLead costs target built bytes
  pub clear : ClearArrows costs target bytes

-- What is promised besides of a sector that was planned without sight (our own addition). `field` is the built field; its costs are bytes.
pub record PlannedWithout (costs step : List ℕ) (field : IntegrationField) (bytes : List ℕ) : Type 0 where
  -- with no cost 0, from every reached cell the arrows, followed, come to the window or to the goal after at most 99 moves
  pub leads : NoCostZero costs → ArrowsLead costs (without_sight (target_of step)) field.field bytes
  -- with any costs, all of 0xE0 stands exactly on walls and unreached cells
  pub marked : CellsMarked costs (without_sight (target_of step)) field.field bytes
  -- with a goal: the arrows end in the goal and nowhere else, its costs are the least walks from it, and the positions are the goal's
  pub goal_ends : is_window step ≡ false → (x : ℕ) → EndCell (without_sight (target_of step)) x ↔ (x ≡ goal_of step)
  pub goal_costs : is_window step ≡ false → GoalCosts costs (goal_of step) field.field
  pub goal_positions : is_window step ≡ false → GoalPositions costs (goal_of step) field.field field.positions
