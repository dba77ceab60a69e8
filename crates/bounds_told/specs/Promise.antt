-- What is promised of bounds and of sure cells (02, "Job 9"), told by floors, by what a look passes over and by costs, and by nothing that makes
-- the lists of an answer.
-- Assumes nothing.
use Rattle.std.specs.Prelude.{◌≡◌, Bool, true, false, ◌⊎◌, ◌↔◌, ℕ, ◌≤◌, ◌<◌, length, get_or, Some}
use mathlib.Core.List.{List, Memᴰ}
use Rattle.utilities.specs.declared.CompassDir.{CompassDir}
use Rattle.utilities.specs.Compass.{all}
use Rattle.utilities.specs.Padded.{AllZero}
use Rattle.fields.specs.Cell.{cell_at, stepped}
use Rattle.route.specs.Step.{mark_of, step_number_on}
use Rattle.route.specs.Target.{Target, WindowCell}
use Rattle.integration_walks.specs.Walks.{Wall}
use Rattle.flow_byte.specs.Look.{Looking, look_at}
use Rattle.flow_arrows.specs.Arrows.{built_cost, Reached, arrow, Away, PassesWall}
use Rattle.flow_arrows.specs.Promise.{built_cells}
use Rattle.bounds_told.specs.declared.Bounds.{Bounds}

-- a floor between two others (02, "Job 9": all floors between them): each cell costs at least what it costs on the low one, and at most what it
-- costs on the high one
pub record FloorBetween (low high costs : List ℕ) : Type 0 where
  pub full : length costs ≡ 100
  pub not_below : (x : ℕ) → x < 100 → get_or low x 0 ≤ get_or costs x 0
  pub not_above : (x : ℕ) → x < 100 → get_or costs x 0 ≤ get_or high x 0

-- `least` and `greatest` are the bounds of the built costs over all floors between (02, "Job 9")
pub record CostBounds (low high : List ℕ) (target : Target) (least greatest : List ℕ) : Type 0 where
  -- on every floor between, each cell's built cost is neither below the one nor above the other
  pub within : (costs : List ℕ) → FloorBetween low high costs → (x : ℕ) → x < 100
      → (get_or least x 0 ≤ built_cost (built_cells costs target) x) × (built_cost (built_cells costs target) x ≤ get_or greatest x 0)
  -- both bounds are met by some floor: the least by the low one, the greatest by the high one
  pub low_between : FloorBetween low high low
  pub least_met : (x : ℕ) → x < 100 → built_cost (built_cells low target) x ≡ get_or least x 0
  pub high_between : FloorBetween low high high
  pub greatest_met : (x : ℕ) → x < 100 → built_cost (built_cells high target) x ≡ get_or greatest x 0
  -- a cell that is reached on one of them is reached on all
  pub reached_all : (costs other : List ℕ) → FloorBetween low high costs → FloorBetween low high other → (x : ℕ) → x < 100
      → Reached (built_cells costs target) x → Reached (built_cells other target) x

-- the look from cell x passes over what lies in direction d: it goes on with what it has found so far, whatever that is
abbrev pub PassesOver : List ℕ → ℕ → CompassDir → Type 0
PassesOver cells x d = (best : CompassDir) (value : ℕ) → look_at cells x (Looking best value) d ≡ Looking best value

-- A neighbour is permitted if the look for arrows does not pass it over (02, "Job 9"). Where a look would have ended plays no part.
pub record PermittedNeighbour (cells : List ℕ) (x n : ℕ) : Type 0 where
  pub way : CompassDir
  pub looked_at : Memᴰ way all
  pub arrives : stepped (cell_at x) way ≡ Some (cell_at n)
  pub not_passed : PassesOver cells x way → ⊥

-- A permitted neighbour by rows and columns, and by nothing of a look (02, "Job 9", and "Job 7" for the diagonals that are barred): a cell of the sector
-- that an arrow can point at, that is no wall, and to which no wall is passed diagonally.
pub record PermittedPlace (costs : List ℕ) (target : Target) (x n : ℕ) : Type 0 where
  pub way : ℕ
  pub way_in : way < 16
  pub away : Away way x n
  pub inside : n < 100
  pub no_wall : Wall costs target n → ⊥
  pub no_wall_passed : PassesWall costs target x n → ⊥

module _ (cells : List ℕ) (target : Target) (least greatest : List ℕ) where
  -- what makes a cell sure (02, "Job 9"): a permitted neighbour is a window cell, or the greatest cost of one reached, permitted neighbour is
  -- strictly below the least cost of all other permitted ones
  pub data SureBy (x n : ℕ) : Type 0 where
    is_by_window : PermittedNeighbour cells x n → WindowCell target n → SureBy x n
    by_costs : PermittedNeighbour cells x n → get_or greatest n 0 < 65535
        → ((m : ℕ) → PermittedNeighbour cells x m → (m ≡ n → ⊥) → get_or greatest n 0 < get_or least m 0) → SureBy x n

  -- a sure cell (02, "Job 9"): walls and window cells are none
  pub record SureCell (costs : List ℕ) (x : ℕ) : Type 0 where
    pub no_wall : Wall costs target x → ⊥
    pub no_window : WindowCell target x → ⊥
    pub neighbour : ℕ
    pub by : SureBy x neighbour

-- A sure cell has an arrow, the same on every floor between (02, "Job 9"), with any previous field or none: it points at a neighbour that makes the
-- cell sure. `bytes` are the flow bytes of a floor's costs, a yes or no, and a previous field.
pub record SureArrow (low high : List ℕ) (target : Target) (bytes : List ℕ → Bool → List ℕ → List ℕ) (least greatest : List ℕ) (x : ℕ) : Type 0 where
  pub neighbour : ℕ
  pub inside : neighbour < 100
  pub by : SureBy (built_cells low target) target least greatest x neighbour
  pub way : ℕ
  pub away : Away way x neighbour
  pub same : (costs : List ℕ) → FloorBetween low high costs → (has : Bool) (previous : List ℕ) → arrow (bytes costs has previous) x ≡ way

-- `sure` are the marks of an answer (02, "Job 9")
pub record SureMarks (low high : List ℕ) (target : Target) (bytes : List ℕ → Bool → List ℕ → List ℕ) (least greatest : List ℕ) (sure : List Bool)
    : Type 0 where
  -- they stand exactly on the sure cells, whichever floor between tells which cells are walls and which neighbours permitted
  pub exact : (costs : List ℕ) → FloorBetween low high costs → (x : ℕ) → x < 100
      → (get_or sure x false ≡ true) ↔ SureCell (built_cells costs target) target least greatest costs x
  pub arrows : (x : ℕ) → x < 100 → get_or sure x false ≡ true → SureArrow low high target bytes least greatest x
  -- the permitted neighbours on each of these floors, by rows and columns
  pub places : (costs : List ℕ) → FloorBetween low high costs → (x : ℕ) → x < 100 → (n : ℕ)
      → PermittedNeighbour (built_cells costs target) x n ↔ PermittedPlace costs target x n

-- A refused call answers its number, with every other part of the answer zero (01, under the table).
pub record BoundsRefused (r : Bounds) : Type 0 where
  pub least : AllZero 0 r.least
  pub greatest : AllZero 0 r.greatest
  pub sure : AllZero false r.sure

-- cell x's two costs are no from-to (02, "Job 9"): low above high, or 255 in only one of the two
pub data NoRange (low high : List ℕ) (x : ℕ) : Type 0 where
  above : get_or high x 0 < get_or low x 0 → NoRange low high x
  low_wall : get_or low x 0 ≡ 255 → (get_or high x 0 ≡ 255 → ⊥) → NoRange low high x
  high_wall : get_or high x 0 ≡ 255 → (get_or low x 0 ≡ 255 → ⊥) → NoRange low high x

-- The call is refused with 18 exactly then: 1 is due for neither floor, 3 to 8 and 16 are due on neither, and the step has no window, or some cell's costs
-- are no from-to.
pub record NoBounds (low high step : List ℕ) : Type 0 where
  pub low_hundred : length low ≡ 100
  pub high_hundred : length high ≡ 100
  pub taken_low : step_number_on low step ≡ 0
  pub taken_high : step_number_on high step ≡ 0
  pub why : (mark_of step ≡ 0) ⊎ ((x : ℕ) × (x < 100) × NoRange low high x)
