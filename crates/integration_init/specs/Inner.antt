-- What each function beneath `init` is given, where that is more than two facts.
-- Assumes nothing.
use Rattle.std.specs.Prelude.{◌≡◌, List, ℕ, ◌+◌, ◌<◌, ◌≤◌, length, get_or}
use Rattle.fields.specs.declared.CellList.{CellList}
use Rattle.integration_field.specs.declared.IntegrationField.{IntegrationField}
use Rattle.integration_field.specs.Listed.{Indexes}
use Rattle.line_end_table.specs.Ends.{EndsFor}
use Rattle.integration_init.specs.declared.Wave.{Wave}
use Rattle.integration_init.specs.Held.{Ready, ReadyAll, Lent, InWave}

-- `mark`: the cell and the value that it gets
pub record ToMark (f : IntegrationField) (n value : ℕ) : Type 0 where
  pub ready : Ready f
  pub cell_in : n < 100
  pub value_in : value < 65536

-- `mark_line`: the line of a corner, as it is drawn
pub record ToMarkLine (f : IntegrationField) (corner : ℕ) (line : List ℕ) (wave : ℕ) : Type 0 where
  pub ready : Ready f
  pub short : length line ≤ 10
  pub line_in : (i : ℕ) → i < length line → get_or line i 0 < 100
  pub corner_in : corner < 100
  pub wave_in : wave ≤ 100

-- `try_side` and `meet_wall`: the wall that sight meets from a cell of the wave
pub record AtWall (wave : Wave) (f : IntegrationField) (from wall : ℕ) : Type 0 where
  pub ready : Ready f
  pub in_wave : InWave (EndsFor wave.goal wave.ends) wave.cost wave.goal from
  pub wall_in : wall < 100

-- `spread_to`, `spread_towards` and `spread_around`: a cell of the wave, from which sight goes on
pub record FromCell (wave : Wave) (f : IntegrationField) (next : CellList 100) (from : ℕ) : Type 0 where
  pub ready : ReadyAll f next
  pub in_wave : InWave (Lent wave.goal wave.ends f.field) wave.cost wave.goal from

-- `spread_wave`: the cells of the wave, and places for the next one
pub record AtWave (wave : Wave) (f : IntegrationField) (cells next : CellList 100) : Type 0 where
  pub ready : Ready f
  pub cells_in : Indexes 100 cells.cells cells.count
  pub next_full : length next.cells ≡ 100
  pub in_wave : InWave (Lent wave.goal wave.ends f.field) wave.cost wave.goal wave.goal

-- `propagate_los`: the same, and how many waves may still follow
pub record BeforeWave (wave : Wave) (f : IntegrationField) (cells next : CellList 100) (falling : ℕ) : Type 0 where
  pub ready : Ready f
  pub cells_in : Indexes 100 cells.cells cells.count
  pub next_full : length next.cells ≡ 100
  pub goal_in : wave.goal < 100
  pub falling_in : wave.cost + falling ≤ 101
  pub ends_lent : Lent wave.goal wave.ends f.field

-- `spread_sight`: no corner yet, and the goal
pub record AtGoal (f : IntegrationField) (goal : ℕ) : Type 0 where
  pub ready : Ready f
  pub none : f.count ≡ 0
  pub goal_in : goal < 100
