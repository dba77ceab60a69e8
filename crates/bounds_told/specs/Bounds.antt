-- The call for bounds (02, "Job 9"): two lent floors of 100 bytes, low and high, and a window step; it answers for each cell the least and the
-- greatest built cost over all floors between them, and whether the cell is sure. That these are the bounds is a theorem (`Promise`).
-- Assumes nothing.
use Rattle.std.specs.Prelude.{Bool, true, false, not, cond, ◌&&◌, ◌||◌, List, [], ◌∷◌, map, ℕ, ltb, eqb, length, get_or, replicate, Option, Some, None}
use Rattle.utilities.specs.declared.CompassDir.{CompassDir}
use Rattle.utilities.specs.Compass.{all}
use Rattle.utilities.specs.Lists.{below, cons_if}
use Rattle.fields.specs.declared.FieldCell.{FieldCell}
use Rattle.fields.specs.Cell.{cell_at, index_of, stepped}
use Rattle.route.specs.Table.{row, first_number}
use Rattle.route.specs.Step.{is_window, is_wall_cost, step_number_on}
use Rattle.route.specs.Target.{Target, window_of, target_of}
use Rattle.integration_field.specs.Diagonal.{wall_at}
use Rattle.flow_byte.specs.New.{is_in}
use Rattle.flow_byte.specs.Look.{is_passed_over}
use Rattle.flow_arrows.specs.Arrows.{built_cost}
use Rattle.flow_arrows.specs.Promise.{built_cells}
use Rattle.bounds_told.specs.declared.Bounds.{Bounds}

-- some entry of a list passes a test; every entry does
abbrev pub some_of : (ℕ → Bool) → List ℕ → Bool
some_of p [] = false
some_of p (x ∷ l) = p x || some_of p l

abbrev pub every_of : (ℕ → Bool) → List ℕ → Bool
every_of p [] = true
every_of p (x ∷ l) = p x && every_of p l

-- ---- the number

-- cell i's two costs are no from-to (02, "Job 9": low above high somewhere or 255 in only one of the two)
abbrev pub no_range : List ℕ → List ℕ → ℕ → Bool
no_range low high i =
    ltb (get_or high i 0) (get_or low i 0)
    || ((is_wall_cost low i && not (is_wall_cost high i)) || (is_wall_cost high i && not (is_wall_cost low i)))

-- its number (02, "Job 9"): 1 for either floor, the step's 3 to 8 and 16, which looks at both floors, then 18: a step without window, or costs that
-- are no from-to
unfoldable pub bounds_number : List ℕ → List ℕ → List ℕ → ℕ
bounds_number low high step =
    first_number (
    row 1 (not (eqb (length low) 100) || not (eqb (length high) 100))
    ∷ row (step_number_on low step) (not (eqb (step_number_on low step) 0))
    ∷ row (step_number_on high step) (not (eqb (step_number_on high step) 0))
    ∷ row 18 (not (is_window step) || some_of (no_range low high) (below 100))
    ∷ []
    )

-- ---- the bounds

-- the built cost of each cell on a floor; on the low one the least, on the high one the greatest (02, "Job 9")
abbrev pub costs_on : List ℕ → Target → List ℕ
costs_on costs target = map (built_cost (built_cells costs target)) (below 100)

-- ---- sure cells

-- the cell where a step from cell i arrives, before the list, unless it is passed over
abbrev pub cons_permitted : List ℕ → ℕ → Option FieldCell → List ℕ → List ℕ
cons_permitted cells i (Some c) l = cons_if (not (is_passed_over cells i (index_of c))) (index_of c) l
cons_permitted cells i None l = l

-- in the order of a list of directions
unfoldable pub permitted_along : List ℕ → ℕ → List CompassDir → List ℕ
permitted_along cells i [] = []
permitted_along cells i (d ∷ ds) = cons_permitted cells i (stepped (cell_at i) d) (permitted_along cells i ds)

-- The permitted neighbours of cell i (02, "Job 9": a neighbour is permitted if the look for arrows does not pass it over), in the look's order.
abbrev pub permitted_from : List ℕ → ℕ → List ℕ
permitted_from cells i = permitted_along cells i all

-- the greatest cost of cell n is strictly below the least cost of all others of a list (02, "Job 9")
abbrev pub is_below_others : List ℕ → List ℕ → List ℕ → ℕ → Bool
is_below_others least greatest neighbours n = every_of (λ m. eqb m n || ltb (get_or greatest n 0) (get_or least m 0)) neighbours

-- A cell is sure exactly when a permitted neighbour is a window cell, or when the greatest cost of one reached, permitted neighbour is strictly
-- below the least cost of all other permitted ones; walls and window cells are not marked (02, "Job 9").
unfoldable pub is_sure : List ℕ → List ℕ → List ℕ → List ℕ → ℕ → Bool
is_sure cells window least greatest i =
    let neighbours = permitted_from cells i in
    (not (wall_at cells i) && not (is_in i window))
    && (some_of (λ n. is_in n window) neighbours
    || some_of (λ n. ltb (get_or greatest n 0) 65535 && is_below_others least greatest neighbours n) neighbours)

-- which cells are sure; which neighbours are permitted is read off the low floor's field, and every floor between has the same
abbrev pub sure_on : List ℕ → List ℕ → Target → List Bool
sure_on low high target = map (is_sure (built_cells low target) (window_of target) (costs_on low target) (costs_on high target)) (below 100)

-- ---- the answer

-- a refusal has every other part zero (01, under the table)
abbrev pub refused_bounds : ℕ → Bounds
refused_bounds n = record { number = n; least = replicate 100 0; greatest = replicate 100 0; sure = replicate 100 false }

abbrev pub accepted_bounds : List ℕ → List ℕ → Target → Bounds
accepted_bounds low high target =
    record { number = 0; least = costs_on low target; greatest = costs_on high target; sure = sure_on low high target }

-- what the call answers (02, "Job 9")
abbrev pub bounds_answer : List ℕ → List ℕ → List ℕ → Bounds
bounds_answer low high step =
    cond (eqb (bounds_number low high step) 0) (accepted_bounds low high (target_of step)) (refused_bounds (bounds_number low high step))
