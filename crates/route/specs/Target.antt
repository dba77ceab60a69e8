-- A target: the goal cell, or the window cells, that a sector's field starts from (01, "Integration: init"); or, without sight, the goal as the one
-- listed corner (our own addition). Starting, walks, arrows and flow bytes are told by it, and a step by its target.
-- Assumes nothing.
use Rattle.std.specs.Prelude.{◌≡◌, Bool, true, false, cond, ◌↔◌, ℕ, ◌/◌, ◌%◌, ◌<◌, ◌≤◌, length, get_or}
use mathlib.Core.List.{List, [], ◌∷◌, Memᴰ}
use Rattle.route.specs.Step.{goal_of, mark_of, first_of, last_of, boundary_byte, is_window, window_cells}

-- a goal cell; or window cells in order, which need not lie side by side; or a goal cell without sight, which is listed as the one corner
pub data Target : Type 0 where
  to_goal : ℕ → Target
  to_window : List ℕ → Target
  to_corner : ℕ → Target

-- the window cells; beside a goal there are none
abbrev pub window_of : Target → List ℕ
window_of (to_goal n) = []
window_of (to_window cells) = cells
window_of (to_corner n) = []

-- the sector is left by a window
abbrev pub by_window : Target → Bool
by_window (to_goal n) = false
by_window (to_window cells) = true
by_window (to_corner n) = false

-- a cell is the goal; a cell is a window cell
abbrev pub GoalCell : Target → ℕ → Type 0
GoalCell (to_goal n) x = x ≡ n
GoalCell (to_window cells) x = ⊥
GoalCell (to_corner n) x = x ≡ n

abbrev pub WindowCell : Target → ℕ → Type 0
WindowCell target x = Memᴰ x (window_of target)

-- the cells that arrows lead to, where they are promised to lead: the window's; without sight the goal; with sight none is promised
abbrev pub ends_of : Target → List ℕ
ends_of (to_goal n) = []
ends_of (to_window cells) = cells
ends_of (to_corner n) = n ∷ []

abbrev pub EndCell : Target → ℕ → Type 0
EndCell target x = Memᴰ x (ends_of target)

-- no sight is spread from it: a window, or a goal without sight
abbrev pub is_sightless : Target → Bool
is_sightless (to_goal n) = false
is_sightless (to_window cells) = true
is_sightless (to_corner n) = true

-- a target without sight: a goal is listed as the one corner, a window stays
abbrev pub without_sight : Target → Target
without_sight (to_goal n) = to_corner n
without_sight (to_window cells) = to_window cells
without_sight (to_corner n) = to_corner n

-- with the sight of a goal, or without
abbrev pub by_sight : Bool → Target → Target
by_sight true target = target
by_sight false target = without_sight target

-- cells of the sector, no cell twice, at most 10
pub record WindowIn (cells : List ℕ) : Type 0 where
  pub inside : (i : ℕ) → i < length cells → get_or cells i 0 < 100
  pub once : (i j : ℕ) → i < j → j < length cells → get_or cells i 0 ≡ get_or cells j 0 → ⊥
  pub few : length cells ≤ 10

-- a target inside the sector: that of a step that is not refused is one (`proofs/Targets.antt`, `target_in`)
abbrev pub TargetIn : Target → Type 0
TargetIn (to_goal n) = n < 100
TargetIn (to_window cells) = WindowIn cells
TargetIn (to_corner n) = n < 100

-- a step's target (01, "A leg"): with mark 1 the cells of its window, else its goal
unfoldable pub target_of : List ℕ → Target
target_of step = cond (is_window step) (to_window (window_cells step)) (to_goal (goal_of step))

-- The goal and the window cells of a step that is not refused, by its bytes, rows and columns, and by nothing that makes the list (01, "A leg"); that
-- they are those of its target is `goal_told` and `window_told`, `proofs/Targets.antt`.
pub record StepGoal (step : List ℕ) (x : ℕ) : Type 0 where
  pub mark : mark_of step ≡ 0
  pub is : x ≡ goal_of step

-- on the named edge: North row 0, East column 9, South row 9, West column 0
pub data OnNamedEdge (boundary x : ℕ) : Type 0 where
  north : boundary ≡ 0 → x / 10 ≡ 0 → OnNamedEdge boundary x
  east : boundary ≡ 1 → x % 10 ≡ 9 → OnNamedEdge boundary x
  south : boundary ≡ 2 → x / 10 ≡ 9 → OnNamedEdge boundary x
  west : boundary ≡ 3 → x % 10 ≡ 0 → OnNamedEdge boundary x

-- a window cell lies on the named edge, from the first to the last
pub record StepWindow (step : List ℕ) (x : ℕ) : Type 0 where
  pub mark : mark_of step ≡ 1
  pub inside : x < 100
  pub is_on_edge : OnNamedEdge (boundary_byte step) x
  pub from : first_of step ≤ x
  pub to : x ≤ last_of step

-- a step's target, told by these cells
pub record TargetTold (step : List ℕ) : Type 0 where
  pub goal : (x : ℕ) → GoalCell (target_of step) x ↔ StepGoal step x
  pub window : (x : ℕ) → WindowCell (target_of step) x ↔ StepWindow step x

-- Number 16's condition (02, "Job 3") for a step that is not refused with 3 to 8, told by these cells: the goal, or a window cell, has cost 255.
-- That a step is refused with 16 exactly then is `sixteen_told`, `proofs/Walls.antt`.
pub data StepOnWall (costs step : List ℕ) : Type 0 where
  goal_on : (x : ℕ) → StepGoal step x → get_or costs x 0 ≡ 255 → StepOnWall costs step
  window_on : (x : ℕ) → StepWindow step x → get_or costs x 0 ≡ 255 → StepOnWall costs step
