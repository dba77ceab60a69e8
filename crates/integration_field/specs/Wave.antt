-- Wave after wave (01, "Integration: build"): wave 0 is the listed corners. Wave k offers, from each cell that wave k - 1 changed, the low
-- 16 bits that wave left plus the neighbour's cost to orthogonal neighbours neither wall nor LOS; strictly smaller is written, without flags.
-- Assumes nothing.
use Rattle.std.specs.Prelude.{Bool, not, cond, ◌&&◌, List, [], ◌∷◌, ℕ, zero, suc, ◌+◌, ltb, eqb, get_or, set, Option, Some, None}
use Rattle.utilities.specs.declared.CompassDir.{CompassDir}
use Rattle.utilities.specs.Compass.{orthogonal}
use Rattle.utilities.specs.Lists.{cons_if}
use Rattle.fields.specs.declared.FieldCell.{FieldCell}
use Rattle.fields.specs.Cell.{index_of, cell_at, stepped}
use Rattle.integration_field.specs.Word.{low, is_open}

-- the sum s, offered to a cell that holds w, is written
abbrev pub is_written : ℕ → ℕ → Bool
is_written w s = is_open w && ltb s (low w)

-- the cells after the sum s is offered to cell x
unfoldable pub relaxed : ℕ → ℕ → List ℕ → List ℕ
relaxed s x cells = cond (is_written (get_or cells x 0) s) (set cells x s) cells

-- the cells after the value v is offered to where a step arrives: v and the cost of the cell entered
abbrev pub offered : List ℕ → ℕ → Option FieldCell → List ℕ → List ℕ
offered costs v (Some c) cells = relaxed (v + get_or costs (index_of c) 0) (index_of c) cells
offered costs v None cells = cells

-- the cells after v is offered from a cell in each of these directions in turn
unfoldable pub offered_around : List ℕ → ℕ → FieldCell → List CompassDir → List ℕ → List ℕ
offered_around costs v c [] cells = cells
offered_around costs v c (d ∷ ds) cells = offered_around costs v c ds (offered costs v (stepped c d) cells)

-- each cell of a list offers the value that it holds in `old` to its orthogonal neighbours
unfoldable pub offered_by : List ℕ → List ℕ → List ℕ → List ℕ → List ℕ
offered_by costs old [] cells = cells
offered_by costs old (i ∷ is) cells = offered_by costs old is (offered_around costs (low (get_or old i 0)) (cell_at i) orthogonal cells)

-- the indexes at which two lists of cells differ, where the lists begin at index i
unfoldable pub changed_from : ℕ → List ℕ → List ℕ → List ℕ
changed_from i [] news = []
changed_from i (a ∷ olds) [] = []
changed_from i (a ∷ olds) (b ∷ news) = cons_if (not (eqb a b)) i (changed_from (suc i) olds news)

-- the cells that a wave leaves, and the indexes of those that it changed, each once
pub record Wave : Type 0 where
  pub cells : List ℕ
  pub changed : List ℕ

-- the wave after a wave: all its offers go by the values that the wave before left
unfoldable pub next : List ℕ → Wave → Wave
next costs w =
    let new = offered_by costs w.cells w.changed w.cells in
    record { cells = new; changed = changed_from 0 w.cells new }

-- wave k, for every k, of these cells and corners
unfoldable pub wave_at : List ℕ → List ℕ → List ℕ → ℕ → Wave
wave_at costs cells corners zero = record { cells = cells; changed = corners }
wave_at costs cells corners (suc k) = next costs (wave_at costs cells corners k)
