-- What is known where a square is filled: for functions beneath the call and their proofs, no part of what is promised.
-- Assumes nothing.
use Rattle.std.specs.Prelude.{◌≡◌, true, cond, List, [], ℕ, ◌/◌, ◌<◌, ◌≤◌, ltb, length, get_or}
use Rattle.route.specs.Step.{is_window, window_cells, step_number}
use Rattle.step_list.specs.Steps.{step_of}
use Rattle.step_list.specs.Inner.{step_at}
use Rattle.window_square.specs.declared.WindowRow.{WindowRow}
use Rattle.window_square.specs.Square.{least_built}

-- steps with windows, of which none is refused
pub record WindowSteps (steps : List ℕ) : Type 0 where
  pub accepted : (k : ℕ) → k < length steps / 8 → step_number (step_at steps k) ≡ 0
  pub windows : (k : ℕ) → k < length steps / 8 → is_window (step_at steps k) ≡ true

-- costs and steps of which nothing is refused
pub record WindowsReady (costs steps : List ℕ) : Type 0 where
  pub costs_hundred : length costs ≡ 100
  pub some : 2 ≤ length steps / 8
  pub few : length steps / 8 ≤ 8
  pub each : WindowSteps steps

-- in one built field, the least cost of a cell of the window at a place of the list; 65535 where there is none
abbrev pub least_from : List ℕ → List (List ℕ) → ℕ → ℕ
least_from built steps i = cond (ltb i (length steps)) (least_built built (window_cells (step_of steps i))) 65535

-- a row of a square, in its record
abbrev pub held_row : List (List ℕ) → ℕ → WindowRow
held_row square i = record { costs = get_or square i [] }
