-- The line that a corner draws (01, "Integration: init": from itself to `check_los_corner_propagation`).
-- Assumes nothing.
use Rattle.std.specs.Prelude.{List, map, ℕ}
use Rattle.fields.specs.Cell.{cell_at, index_of}
use Rattle.line_nearest.specs.Line.{line}
use Rattle.line_end.specs.LineEnd.{line_end}

-- the indexes of its cells, in order
unfoldable pub corner_line : ℕ → ℕ → List ℕ
corner_line goal corner = map index_of (line (cell_at corner) (line_end (cell_at corner) (cell_at goal)))
