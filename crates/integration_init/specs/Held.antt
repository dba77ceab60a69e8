-- Sight in a lent field (01, "From Rust's form to Rattle's"): its 100 cells, and lists of 100 places with a count.
-- Assumes nothing.
use Rattle.std.specs.Prelude.{◌≡◌, false, List, [], ◌⊎◌, ℕ, ◌<◌, ◌≤◌, length}
use Rattle.fields.specs.declared.CellList.{CellList}
use Rattle.fields.specs.CellList.{held as cells_of}
use Rattle.integration_field.specs.declared.IntegrationField.{IntegrationField}
use Rattle.integration_field.specs.Diagonal.{wall_at}
use Rattle.integration_field.specs.Listed.{padded, list_of, no_positions}
use Rattle.line_end_table.specs.Ends.{EndsFor}
use Rattle.integration_started.specs.Sight.{Sight}
use Rattle.integration_started.specs.Room.{Room}

-- the sight of a field's cells, of the corners that it lists, and of a queue
abbrev pub sight_of : IntegrationField → List ℕ → Sight
sight_of f queue = record { cells = f.field; corners = list_of f; queue = queue }

-- this field holds a sight's cells and its corners; places beyond the count hold 0, and no cell has a position
pub record Holds (s : Sight) (f : IntegrationField) : Type 0 where
  pub cells_held : f.field ≡ s.cells
  pub corners_held : f.los_corners ≡ padded s.corners
  pub count_held : f.count ≡ length s.corners
  pub no_positions_held : f.positions ≡ no_positions

-- what a function that marks cells is given: its field's cells and corners are held, and there is room
pub record Ready (f : IntegrationField) : Type 0 where
  pub room : Room (sight_of f [])
  pub held : Holds (sight_of f []) f

-- what it leaves, where it goes from sight s to sight t: t is held, with the same queue, and there is room again
pub record Leaves (s t : Sight) (f : IntegrationField) : Type 0 where
  pub room : Room s → Room t
  pub queued : t.queue ≡ s.queue
  pub held : Holds t f

-- the field at entry goes to that at exit as a definition says, whatever is queued
abbrev pub Applied : (Sight → Sight) → IntegrationField → IntegrationField → Type 0
Applied step old new = (queue : List ℕ) → Leaves (sight_of old queue) (step (sight_of old queue)) new

-- a field and a list hold a sight with its queue, and there is room in both lists
pub record HoldsAll (s : Sight) (f : IntegrationField) (queue : CellList 100) : Type 0 where
  pub room : Room s
  pub held : Holds s f
  pub full : length queue.cells ≡ 100
  pub queue_held : cells_of queue ≡ s.queue
  pub queued_held : queue.count ≡ length s.queue

-- what sight is given where it comes to a neighbour
abbrev pub ReadyAll : IntegrationField → CellList 100 → Type 0
ReadyAll f queue = HoldsAll (sight_of f (cells_of queue)) f queue

-- the field and the queue at entry go to those at exit as a definition says
abbrev pub AppliedAll : (Sight → Sight) → IntegrationField → CellList 100 → IntegrationField → CellList 100 → Type 0
AppliedAll step old queue new queue' = HoldsAll (step (sight_of old (cells_of queue))) new queue'

-- no cell is a wall
abbrev pub NoWall : List ℕ → Type 0
NoWall cells = (n : ℕ) → wall_at cells n ≡ false

-- the ends of a goal's lines are lent wherever some cell is a wall: without one no line is drawn
abbrev pub Lent : ℕ → List ℕ → List ℕ → Type 0
Lent goal ends cells = NoWall cells ⊎ EndsFor goal ends

-- a wave's cost, the goal, and a cell of the wave; and what is known of the ends of the goal's lines
pub record InWave (Ends : Type 0) (wave goal from : ℕ) : Type 0 where
  pub wave_in : wave ≤ 100
  pub goal_in : goal < 100
  pub from_in : from < 100
  pub ends : Ends
