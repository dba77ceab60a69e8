-- The end of a corner's line (02, "Job 11"; straight rays: 01, "Integration: init", third paragraph), in whole numbers.
-- Assumes nothing.
use Rattle.std.specs.Prelude.{Bool, true, false, cond, ◌&&◌, ℕ, zero, suc, ◌+◌, ◌-◌, min, ltb, eqb}
use Rattle.fields.specs.declared.FieldCell.{FieldCell}
use Rattle.fields.specs.Cell.{cell, inside}
use Rattle.line_nearest.specs.Line.{distance, nearest}
use Rattle.line_end.specs.declared.LineEnd.{LineEnd}

-- ---- away from the goal
-- the edge column or row away from the goal: 9 where the corner lies beyond the goal's, else 0
abbrev pub edge_away : Bool → ℕ
edge_away beyond = cond beyond 9 0

-- how many columns or rows lie between one and that edge, and the one that lies d further on from it
abbrev pub after : Bool → ℕ → ℕ
after beyond x = cond beyond (9 - x) x

abbrev pub further : Bool → ℕ → ℕ → ℕ
further beyond x d = cond beyond (x + d) (x - d)

-- ---- the ray
-- The ray from goal through corner passes `rise` rows in `span` columns, so that in the k-th column from the goal's it lies k * rise / span rows
-- from the goal's row. The nearest whole row is `nearest` of the line walk, which gives an exact half to the row nearer the goal's.
-- It leaves 0 to 9 where it is further off than the rows that are left from the goal's to the edge.
abbrev pub leaves : ℕ → ℕ → ℕ → ℕ → Bool
leaves rise span behind k = ltb behind (nearest rise span k)

-- The first column that ends the line, of those tried from the j-th on; the last ends it in any case.
-- `after` counts those that are left, and the last argument is its test. (`Slanted` of `Away` says it without them.)
unfoldable pub first_ending : (ℕ → Bool) → ℕ → ℕ → Bool → ℕ
first_ending ends zero j test = j
first_ending ends (suc after) j true = j
first_ending ends (suc after) j false = first_ending ends after (suc j) (ends (suc j))

-- the first column whose row leaves 0 to 9, or else the edge column, counted from the corner's own; that one is `span` from the goal's, and `columns` are
-- left from it to the edge
abbrev pub first_leaving : ℕ → ℕ → ℕ → ℕ → ℕ
first_leaving rise span behind columns =
    let ends : ℕ → Bool = λ j. leaves rise span behind (span + j) in
    first_ending ends columns 0 (ends 0)

-- ---- the end
-- Columns are tried from the corner's own, away from the goal. The first whose row leaves 0 to 9 ends the line, on that edge row;
-- otherwise the edge column does, on its row. The two tests say whether the corner lies right of the goal and below it.
unfoldable pub slanted_end : Bool → Bool → FieldCell → FieldCell → FieldCell
slanted_end rightward downward corner goal =
    let rise : ℕ = distance goal.row corner.row in
    let span : ℕ = distance goal.column corner.column in
    let behind : ℕ = after downward goal.row in
    let end : ℕ = first_leaving rise span behind (after rightward corner.column) in
    cell (further rightward corner.column end) (further downward goal.row (min behind (nearest rise span (span + end))))

-- In the goal's column the end is the edge row away from the goal (row 0 if the corner is the goal); in its row, the edge column away; else as above.
-- The two tests say whether the corner lies in the goal's column and in its row.
unfoldable pub end_by : Bool → Bool → FieldCell → FieldCell → FieldCell
end_by true in_row corner goal = cell corner.column (edge_away (ltb goal.row corner.row))
end_by false true corner goal = cell (edge_away (ltb goal.column corner.column)) corner.row
end_by false false corner goal = slanted_end (ltb goal.column corner.column) (ltb goal.row corner.row) corner goal

unfoldable pub line_end : FieldCell → FieldCell → FieldCell
line_end corner goal = end_by (eqb corner.column goal.column) (eqb corner.row goal.row) corner goal

-- The call (01, the table of refusals): 13 for a column or row outside 0 to 9, with the cell zero.
abbrev pub answer : ℕ → FieldCell → LineEnd
answer n c = record { number = n; cell = c }

unfoldable pub line_end_answer : FieldCell → FieldCell → LineEnd
line_end_answer corner goal = cond (inside corner && inside goal) (answer 0 (line_end corner goal)) (answer 13 (cell 0 0))
