-- The window cells that count in a leg, and a step's target there (02, "Job 2": in a leg, a window cell counts only if some facing cell that it
-- compares is below 65535; otherwise its own cost decides, as for any cell).
-- Assumes nothing.
use Rattle.std.specs.Prelude.{◌≡◌, Bool, true, false, ◌||◌, List, [], ◌∷◌, ℕ, ◌+◌, ◌/◌, ◌%◌, ◌<◌, ◌≤◌, ltb}
use Rattle.route.specs.declared.PortalWindow.{PortalWindow}
use Rattle.route.specs.Window.{select}
use Rattle.route.specs.Step.{boundary_byte, window_cells, portal_of}
use Rattle.route.specs.Target.{Target, to_goal, to_window, to_corner, by_sight, target_of, StepWindow}
use Rattle.flow_byte.specs.New.{seen_values}
use Rattle.flow_arrows.specs.Arrows.{Reached}

-- Window cell i counts. `previous` is the built field of the step before. The cells compared are those of the facing choice, over the whole
-- window; a window of one cell sees straight alone, since its first cell is its last.
unfoldable pub counts : PortalWindow → List ℕ → ℕ → Bool
counts portal previous i =
    let seen = seen_values portal previous i in
    ltb seen.straight 65535 || (ltb seen.lower 65535 || ltb seen.higher 65535)

-- the cells of a step's window that count, in order
unfoldable pub counting_cells : List ℕ → List ℕ → List ℕ
counting_cells previous step = select (counts (portal_of step) previous) (window_cells step)

-- what a step of a leg starts from: the first its goal, with the sight of it or without, a later one the cells of its window that count; `has`
-- says that there is a step before
abbrev pub leg_target : Bool → Bool → List ℕ → List ℕ → Target
leg_target sight false previous step = by_sight sight (target_of step)
leg_target sight true previous step = to_window (counting_cells previous step)

-- a window with no counting cell
abbrev pub is_closed : Target → Bool
is_closed (to_goal n) = false
is_closed (to_window []) = true
is_closed (to_window (i ∷ l)) = false
is_closed (to_corner n) = false

-- The cells that count, of a step that is not refused, by its bytes, rows and columns, and by nothing that makes the list or the values compared; that
-- they are those listed is `counting_told`, `proofs/Told.antt`.

-- cell z of the sector across a boundary lies straight across from cell y of the edge: over the North boundary row 9 and the same column, over
-- the East one column 0 and the same row, over the South one row 0, over the West one column 9
pub data StraightAcross (boundary y z : ℕ) : Type 0 where
  over_north : boundary ≡ 0 → z / 10 ≡ 9 → z % 10 ≡ y % 10 → StraightAcross boundary y z
  over_east : boundary ≡ 1 → z % 10 ≡ 0 → z / 10 ≡ y / 10 → StraightAcross boundary y z
  over_south : boundary ≡ 2 → z / 10 ≡ 0 → z % 10 ≡ y % 10 → StraightAcross boundary y z
  over_west : boundary ≡ 3 → z % 10 ≡ 9 → z / 10 ≡ y / 10 → StraightAcross boundary y z

-- rows and columns at most one apart: of two cells of one edge, the same cell or the next
pub record AtMostNext (x y : ℕ) : Type 0 where
  pub row_up : x / 10 ≤ y / 10 + 1
  pub row_down : y / 10 ≤ x / 10 + 1
  pub column_left : x % 10 ≤ y % 10 + 1
  pub column_right : y % 10 ≤ x % 10 + 1

-- a window cell counts: from it, or from a window cell next to it, a reached cell of the sector before lies straight across
pub record CountingCell (step previous : List ℕ) (x : ℕ) : Type 0 where
  pub window : StepWindow step x
  pub by : ℕ
  pub is_by_window : StepWindow step by
  pub by_next : AtMostNext x by
  pub across : ℕ
  pub inside : across < 100
  pub straight : StraightAcross (boundary_byte step) by across
  pub reached : Reached previous across
