-- Walls of a field, and diagonal moves that pass one (01, "Integration: init" and "Flow byte"; 02, "Job 7").
-- The one diagonal rule: a corner's line stops by it, and a look passes over by it.
-- Assumes nothing.
use Rattle.std.specs.Prelude.{Bool, not, ◌&&◌, ◌||◌, List, ℕ, ◌+◌, ◌*◌, ◌/◌, ◌%◌, eqb, get_or}
use Rattle.integration_field.specs.Word.{is_impassable}

-- the cell at an index is a wall
abbrev pub wall_at : List ℕ → ℕ → Bool
wall_at cells i = is_impassable (get_or cells i 0)

-- two cells in different rows and different columns
abbrev pub diagonal : ℕ → ℕ → Bool
diagonal a b = not (eqb (a / 10) (b / 10)) && not (eqb (a % 10) (b % 10))

-- a move from a to b is diagonal, and either of the two cells beside it, one in a's row and one in a's column, is a wall (02, Job 7: a
-- diagonal is barred if either of the two cells beside it is a wall)
unfoldable pub passes_wall : List ℕ → ℕ → ℕ → Bool
passes_wall cells a b = diagonal a b && (wall_at cells (a / 10 * 10 + b % 10) || wall_at cells (b / 10 * 10 + a % 10))
