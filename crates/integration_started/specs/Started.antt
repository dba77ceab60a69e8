-- The started field of costs and a target, and what `init` answers (01, "Integration: init"; the table of "A leg").
-- Assumes nothing.
use Rattle.std.specs.Prelude.{◌≡◌, cond, not, List, [], ◌∷◌, ℕ, ◌≤◌, ◌<◌, eqb, length, get_or}
use Rattle.utilities.specs.Padded.{ZeroBeyond}
use Rattle.route.specs.Step.{step_number_on}
use Rattle.route.specs.Target.{Target, to_goal, to_window, to_corner, target_of}
use Rattle.integration_field.specs.declared.IntegrationField.{IntegrationField}
use Rattle.integration_field.specs.Listed.{list_of, with_corners, zero_field}
use Rattle.integration_started.specs.declared.InitAnswer.{InitAnswer}
use Rattle.integration_started.specs.Sight.{walls, with_portals, with_goal, Sight, sight_after}
use Rattle.integration_started.specs.CornerLine.{corner_line}
use Rattle.integration_started.specs.StartedCell.{GoalStarted, WindowStarted, CornerStarted}

-- Sight from a goal, after wave 100: no cell is left to spread from, and every later wave leaves the same (`StartedField`, `sight_over`).
unfoldable pub sight_from : List ℕ → ℕ → Sight
sight_from costs goal = sight_after (corner_line goal) (walls costs) goal 100

-- the field started with a goal: the cells that sight leaves, and the corners that it lists
unfoldable pub started_from : List ℕ → ℕ → IntegrationField
started_from costs goal = with_corners (sight_from costs goal).cells (sight_from costs goal).corners

-- the field started with a window: its cells are listed as corners in order
unfoldable pub started_at : List ℕ → List ℕ → IntegrationField
started_at costs window = with_corners (with_portals window (walls costs)) window

-- the field started with a goal and without sight: the goal is the one listed corner
unfoldable pub started_without : List ℕ → ℕ → IntegrationField
started_without costs goal = with_corners (with_goal goal (walls costs)) (goal ∷ [])

-- the started field (01, "Integration: build") of costs and a target
unfoldable pub started : List ℕ → Target → IntegrationField
started costs (to_goal goal) = started_from costs goal
started costs (to_window window) = started_at costs window
started costs (to_corner goal) = started_without costs goal

-- 1 for cost bytes that are not 100, else the step's number on them: 3, 4 to 8, 16 (02, "Job 3"), or 0
unfoldable pub init_number : List ℕ → List ℕ → ℕ
init_number costs step = cond (not (eqb (length costs) 100)) 1 (step_number_on costs step)

-- A refusal answers its number with every other part zero; an accepted call's number is 0, and its field that of the step's target.
abbrev pub init_refused : ℕ → InitAnswer
init_refused n = record { number = n; field = zero_field }

abbrev pub init_accepted : IntegrationField → InitAnswer
init_accepted f = record { number = 0; field = f }

unfoldable pub init_answer : List ℕ → List ℕ → InitAnswer
init_answer costs step = cond (eqb (init_number costs step) 0) (init_accepted (started costs (target_of step))) (init_refused (init_number costs step))

-- What a started field is, for 100 costs and a target inside the sector: its cells and its corners, by the kind of the target ..
abbrev pub StartedCells : List ℕ → Target → List ℕ → List ℕ → Type 0
StartedCells costs (to_goal goal) cells corners = GoalStarted costs goal cells corners
StartedCells costs (to_window window) cells corners = WindowStarted costs window cells corners
StartedCells costs (to_corner goal) cells corners = CornerStarted costs goal cells corners

-- .. its list of 100 places, which hold 0 beyond the count, and no position yet (02, "Job 10").
pub record StartedField (costs : List ℕ) (target : Target) (f : IntegrationField) : Type 0 where
  pub list_fits : f.count ≤ 100
  pub list_full : length f.los_corners ≡ 100
  pub list_beyond : ZeroBeyond 0 f.count f.los_corners
  pub has_no_positions : (x : ℕ) → x < 100 → get_or f.positions x 0 ≡ 255
  pub cells_are : StartedCells costs target f.field (list_of f)
  -- sight has come to its end: every number of waves from 100 on leaves these cells and these corners
  pub sight_over : (goal n : ℕ) → target ≡ to_goal goal → 100 ≤ n
      → let s = sight_after (corner_line goal) (walls costs) goal n in f ≡ with_corners s.cells s.corners
