-- Mirrored pairs end mirrored (02, "Job 11").
-- Assumes nothing.
use Rattle.std.specs.Prelude.{◌≡◌, ◌-◌}
use Rattle.fields.specs.declared.FieldCell.{FieldCell}
use Rattle.fields.specs.Cell.{cell}
use Rattle.line_end.specs.declared.LineEnd.{LineEnd}
use Rattle.line_end.specs.LineEnd.{answer, line_end_answer}
use Rattle.line_end.specs.Away.{Slants}

-- the cell that a mirror between left and right shows, and one between top and bottom
abbrev pub left_right : FieldCell → FieldCell
left_right c = cell (9 - c.column) c.row

abbrev pub top_bottom : FieldCell → FieldCell
top_bottom c = cell c.column (9 - c.row)

-- What the call promises of a pair with unequal column and row: of the mirrored pair it answers the mirrored end, in both mirrors.
abbrev pub HoldsMirrored : FieldCell → FieldCell → LineEnd → Type 0
HoldsMirrored corner goal r =
    Slants corner goal
    → (line_end_answer (left_right corner) (left_right goal) ≡ answer 0 (left_right r.cell))
    × (line_end_answer (top_bottom corner) (top_bottom goal) ≡ answer 0 (top_bottom r.cell))
