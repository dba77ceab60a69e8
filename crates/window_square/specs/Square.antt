-- The call for window costs (02, "Job 13"): 100 cost bytes and 2 to 8 windows of one sector as steps; it answers a square of costs, eight rows of
-- eight. That its entries are least walks is a theorem (`Promise`).
-- Assumes nothing.
use Rattle.std.specs.Prelude.{Bool, not, cond, ◌&&◌, ◌||◌, List, [], ◌∷◌, ◌++◌, map, ℕ, ◌%◌, min, ltb, eqb, length, replicate}
use Rattle.route.specs.Table.{Row, row, first_number}
use Rattle.utilities.specs.Lists.{below}
use Rattle.route.specs.Step.{sector_of, is_window, window_cells, step_rows_on}
use Rattle.route.specs.Target.{target_of}
use Rattle.step_list.specs.Steps.{steps_of, step_of}
use Rattle.flow_arrows.specs.Arrows.{built_cost}
use Rattle.flow_arrows.specs.Promise.{built_cells}
use Rattle.window_square.specs.declared.WindowRow.{WindowRow}
use Rattle.window_square.specs.declared.WindowCosts.{WindowCosts}

-- ---- the number

-- 20 (02, "Job 13"): a step without window, or in another sector than this one
abbrev pub no_window_of : ℕ → List ℕ → Bool
no_window_of sector step = not (is_window step) || not (eqb (sector_of step) sector)

-- 4 to 8, 16, or 20 (02, "Job 13": after 16 for the same step) for a step of 8 bytes that is refused among the windows of a sector, else 0
unfoldable pub window_step_number : List ℕ → ℕ → List ℕ → ℕ
window_step_number costs sector step = first_number (step_rows_on costs step ++ (row 20 (no_window_of sector step) ∷ []))

-- for one step before the next step
abbrev pub window_step_rows : List ℕ → ℕ → List (List ℕ) → List Row
window_step_rows costs sector [] = []
window_step_rows costs sector (s ∷ ss) =
    row (window_step_number costs sector s) (not (eqb (window_step_number costs sector s) 0)) ∷ window_step_rows costs sector ss

-- its number (02, "Job 13"): 1; 3, no multiple of 8; 19, fewer than 2 or more than 8 steps; then those of each step, in the first step's sector
unfoldable pub window_costs_number : List ℕ → List ℕ → ℕ
window_costs_number costs steps =
    first_number (
    row 1 (not (eqb (length costs) 100))
    ∷ row 3 (not (eqb (length steps % 8) 0))
    ∷ row 19 (ltb (length (steps_of steps)) 2 || ltb 8 (length (steps_of steps)))
    ∷ window_step_rows costs (sector_of (step_of (steps_of steps) 0)) (steps_of steps)
    )

-- ---- the square

-- the least built cost of the cells of a list; no built cost is above 65535
abbrev pub least_built : List ℕ → List ℕ → ℕ
least_built built [] = 65535
least_built built (x ∷ l) = min (built_cost built x) (least_built built l)

-- from window to window (02, "Job 13"): the least cost of a cell of the one after building for the other alone
unfoldable pub window_cost : List ℕ → List ℕ → List ℕ → ℕ
window_cost costs from to = least_built (built_cells costs (target_of to)) (window_cells from)

-- row i, place j (02, "Job 13"): from window i to window j; unused places are 65535
abbrev pub square_entry : List ℕ → List (List ℕ) → ℕ → ℕ → ℕ
square_entry costs steps i j =
    cond (ltb i (length steps) && ltb j (length steps)) (window_cost costs (step_of steps i) (step_of steps j)) 65535

-- eight rows of eight (02, "Job 13")
unfoldable pub cost_square : List ℕ → List (List ℕ) → List (List ℕ)
cost_square costs steps = map (λ i. map (square_entry costs steps i) (below 8)) (below 8)

-- ---- the answer

-- a square as it is answered, a record for each row; and back
abbrev pub rows_of : List (List ℕ) → List WindowRow
rows_of square = map (λ l. record { costs = l }) square

abbrev pub square_in : List WindowRow → List (List ℕ)
square_in rows = map (λ (r : WindowRow). r.costs) rows

-- a refusal has every other part zero (01, under the table)
abbrev pub refused_window_costs : ℕ → WindowCosts
refused_window_costs n = record { number = n; rows = rows_of (replicate 8 (replicate 8 0)) }

abbrev pub accepted_window_costs : List (List ℕ) → WindowCosts
accepted_window_costs square = record { number = 0; rows = rows_of square }

-- what the call answers (02, "Job 13")
abbrev pub window_costs_answer : List ℕ → List ℕ → WindowCosts
window_costs_answer costs steps =
    cond (eqb (window_costs_number costs steps) 0) (accepted_window_costs (cost_square costs (steps_of steps))) (refused_window_costs (window_costs_number costs steps))
