-- What is promised of a square of window costs (02, "Job 13"), told by a window's cells by rows and columns, by built costs and by the walks of
-- demand 3, and by nothing that makes the square.
-- Assumes nothing.
use Rattle.std.specs.Prelude.{◌≡◌, ◌⊎◌, ◌↔◌, List, [], ℕ, ◌%◌, ◌≤◌, ◌<◌, length, get_or}
use Rattle.route.specs.Step.{sector_of, mark_of, step_number_on}
use Rattle.route.specs.Target.{Target, GoalCell, target_of, StepWindow}
use Rattle.step_list.specs.Steps.{steps_of, step_of}
use Rattle.integration_field.specs.Listed.{list_of}
use Rattle.integration_field.specs.Built.{wave_count}
use Rattle.integration_started.specs.Started.{started}
use Rattle.integration_walks.specs.Walks.{Wall, StartedWalk}
use Rattle.integration_walks.specs.Promise.{Demand3}
use Rattle.flow_arrows.specs.Arrows.{built_cost}
use Rattle.flow_arrows.specs.Promise.{built_cells}

-- a permitted walk of demand 3 from a target alone: of so many moves, into a cell, and the sum that it comes to
abbrev pub WindowWalk : List ℕ → Target → ℕ → ℕ → ℕ → Type 0
WindowWalk costs target = StartedWalk costs (started costs target).field (list_of (started costs target)) (Wall costs target) (GoalCell target)

-- `cost` is the cost from a step's window to a target, another step's window (02, "Job 13")
pub record LeastCost (costs from : List ℕ) (to : Target) (cost : ℕ) : Type 0 where
  -- built costs here mean those of the third demand
  pub demand3 : Demand3 costs to (built_cells costs to) (wave_count costs (started costs to))
  -- the least cost of a cell of `from` after building for `to` alone: at most each of theirs, and one of them
  pub at_most : (x : ℕ) → StepWindow from x → cost ≤ built_cost (built_cells costs to) x
  pub met : (x : ℕ) × StepWindow from x × (built_cost (built_cells costs to) x ≡ cost)
  -- no permitted walk from `to` into a cell of `from` comes to less, and one comes to exactly that
  pub none_below : (k x s : ℕ) → StepWindow from x → WindowWalk costs to k x s → cost ≤ s
  pub walked : cost < 65535 → (k : ℕ) × (x : ℕ) × StepWindow from x × WindowWalk costs to k x cost
  -- unreached is 65535: exactly where no such walk ends
  pub unreached : (cost ≡ 65535) ↔ ((k x s : ℕ) → StepWindow from x → WindowWalk costs to k x s → ⊥)

-- row i, place j of a square
abbrev pub cost_at : List (List ℕ) → ℕ → ℕ → ℕ
cost_at square i j = get_or (get_or square i []) j 0

-- a square of costs (02, "Job 13"): eight rows of eight; from window i to window j, numbered from 0 as listed, in row i at place j
pub record WindowSquare (costs : List ℕ) (steps : List (List ℕ)) (square : List (List ℕ)) : Type 0 where
  pub rows : length square ≡ 8
  pub places : (i : ℕ) → i < 8 → length (get_or square i []) ≡ 8
  pub least : (i j : ℕ) → i < length steps → j < length steps → LeastCost costs (step_of steps i) (target_of (step_of steps j)) (cost_at square i j)
  -- cells of one window count 0 to itself
  pub own : (i : ℕ) → i < length steps → cost_at square i i ≡ 0
  -- unused places are 65535
  pub unused : (i j : ℕ) → i < 8 → j < 8 → (length steps ≤ i) ⊎ (length steps ≤ j) → cost_at square i j ≡ 65535

-- a refused call answers its number, with every other part of the answer zero (01, under the table)
abbrev pub SquareRefused : List (List ℕ) → Type 0
SquareRefused square = (i j : ℕ) → cost_at square i j ≡ 0

-- ---- 19 and 20, by bytes and by the step's mark and sector, and not by the table's lines

-- The call is refused with 19 exactly then: 1 and 3 are not due, and there are fewer than 2 steps or more than 8, of 8 bytes each.
pub record WrongCount (costs steps : List ℕ) : Type 0 where
  pub costs_hundred : length costs ≡ 100
  pub whole : length steps % 8 ≡ 0
  pub count : (length steps < 16) ⊎ (64 < length steps)

-- a step that is not refused on these costs, with a window, in this sector
pub record AmongWindows (costs : List ℕ) (sector : ℕ) (step : List ℕ) : Type 0 where
  pub taken : step_number_on costs step ≡ 0
  pub mark : mark_of step ≡ 1
  pub same : sector_of step ≡ sector

-- The call is refused with 20 exactly then: 1, 3 and 19 are not due, and some step, which is not refused with 4 to 8 or 16, has no window or is in another
-- sector than the first, and no step before it is refused. Whether a number of a later step is due is not asked.
pub record NotAmong (costs steps : List ℕ) : Type 0 where
  pub costs_hundred : length costs ≡ 100
  pub whole : length steps % 8 ≡ 0
  pub some : 16 ≤ length steps
  pub few : length steps ≤ 64
  pub place : ℕ
  pub inside : place < length (steps_of steps)
  pub taken : step_number_on costs (step_of (steps_of steps) place) ≡ 0
  pub why : (mark_of (step_of (steps_of steps) place) ≡ 0) ⊎ (sector_of (step_of (steps_of steps) place) ≡ sector_of (step_of (steps_of steps) 0) → ⊥)
  pub before : (j : ℕ) → j < place → AmongWindows costs (sector_of (step_of (steps_of steps) 0)) (step_of (steps_of steps) j)
