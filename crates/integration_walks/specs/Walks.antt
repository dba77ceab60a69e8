-- The permitted walks of a started field, and what demand 3 says of it once built (01, "Integration: build", "For demand 3, in a started field").
-- Assumes nothing.
use Rattle.std.specs.Prelude.{◌≡◌, true, ◌⊎◌, List, ℕ, ◌<◌, ◌≤◌, get_or}
use Rattle.route.specs.Target.{Target, GoalCell, WindowCell}
use Rattle.integration_waves.specs.Walks.{Walk}
use Rattle.integration_field.specs.Word.{low, is_los}
use Rattle.integration_field.specs.Walks.{grid}

-- A wall (01, "Integration: build") is a cell of cost 255 that is neither goal nor window cell.
pub record Wall (costs : List ℕ) (target : Target) (x : ℕ) : Type 0 where
  pub impassable : get_or costs x 0 ≡ 255
  pub not_goal : GoalCell target x → ⊥
  pub not_window : WindowCell target x → ⊥

-- In sight (01, "Integration: build") is a cell that `init` leaves with LOS.
abbrev pub InSight : List ℕ → ℕ → Type 0
InSight cells x = is_los (get_or cells x 0) ≡ true

-- `cells` and `corners` are those of the started field; which cells are walls and which is the goal is told beside them
module _ (costs cells corners : List ℕ) (Impassable Goal : ℕ → Type 0) where
  -- a cell of the sector that is neither wall, in sight nor goal
  pub record Enterable (x : ℕ) : Type 0 where
    pub inside : x < 100
    pub no_wall : Impassable x → ⊥
    pub not_in_sight : InSight cells x → ⊥
    pub no_goal : Goal x → ⊥

  -- A permitted walk (01) begins in a listed corner, at the value that `init` gave it. Each move goes to an orthogonal neighbour inside the sector that is
  -- neither wall, in sight nor goal, and adds that cell's cost. It may have no move, and may enter a cell again.
  abbrev pub StartedWalk : ℕ → ℕ → ℕ → Type 0
  StartedWalk = Walk (grid costs cells corners) (λ x s. Enterable x)

  -- a cell's value before building, and in the built cells
  abbrev pub before : ℕ → ℕ
  before x = low (get_or cells x 0)

  -- Each cell neither wall, in sight nor goal holds exactly the smaller of its value before building and the least permitted walk into it:
  -- it is above neither, and is one of the two. All other cells keep their value.
  pub record StartedLeast (built : List ℕ) : Type 0 where
    pub not_above : (x : ℕ) → Enterable x → low (get_or built x 0) ≤ before x
    pub none_below : (k x s : ℕ) → StartedWalk k x s → low (get_or built x 0) ≤ s
    pub attained : (x : ℕ) → Enterable x → (low (get_or built x 0) ≡ before x) ⊎ ((k : ℕ) × StartedWalk k x (low (get_or built x 0)))
    pub others_stay : (x : ℕ) → Impassable x ⊎ (InSight cells x ⊎ Goal x) → get_or built x 0 ≡ get_or cells x 0
    -- where no permitted walk ends in a cell, the value before building stays
    pub unwalked_stays : (x : ℕ) → Enterable x → ((k s : ℕ) → StartedWalk k x s → ⊥) → low (get_or built x 0) ≡ before x
