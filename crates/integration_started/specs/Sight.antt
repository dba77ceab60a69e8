-- How a field is started (01, "Integration: init"). Lists here have any length, and there is a wave k for every k:
-- that 100 places and 100 waves always do is a theorem (Sizes).
-- Assumes nothing.
use Rattle.std.specs.Prelude.{Bool, cond, ◌||◌, List, [], ◌∷◌, ◌++◌, map, ℕ, zero, suc, ◌+◌, eqb, get_or, set, Option, Some, None}
use Rattle.utilities.specs.declared.CompassDir.{CompassDir}
use Rattle.utilities.specs.Compass.{orthogonal, opposite, lower_side}
use Rattle.fields.specs.declared.FieldCell.{FieldCell}
use Rattle.fields.specs.Cell.{cell_at, index_of, stepped}
use Rattle.integration_field.specs.Word.{is_los, is_goal, is_blocked, is_impassable}
use Rattle.integration_field.specs.Diagonal.{wall_at, passes_wall}

-- All cells start at 65535; cost 255 gives 0x200FFFF, a wall.
abbrev pub wall_or : ℕ → ℕ
wall_or cost = cond (eqb cost 255) 0x200FFFF 65535

-- what every cell starts at, by its cost
unfoldable pub walls : List ℕ → List ℕ
walls costs = map wall_or costs

-- Then window cells become 0x80000 ..
unfoldable pub with_portals : List ℕ → List ℕ → List ℕ
with_portals [] cells = cells
with_portals (n ∷ ns) cells = with_portals ns (set cells n 0x80000)

-- .. or the goal becomes 0x20000.
unfoldable pub with_goal : ℕ → List ℕ → List ℕ
with_goal goal cells = set cells goal 0x20000

-- what sight has done: the cells, the listed corners, and the cells that this wave has queued
pub record Sight : Type 0 where
  pub cells : List ℕ
  pub corners : List ℕ
  pub queue : List ℕ

-- the word of a corner: its value plus BLOCKED and CORNER; the word of a cell in sight: its wave cost plus LOS
abbrev pub corner_word : ℕ → ℕ
corner_word value = value + 0x4040000

abbrev pub sight_word : ℕ → ℕ
sight_word wave = wave + 0x10000

-- a cell that becomes a corner is listed
abbrev pub listed : ℕ → ℕ → Sight → Sight
listed value n s = record { cells = set s.cells n (corner_word value); corners = s.corners ++ (n ∷ []); queue = s.queue }

-- A cell of a line becomes a corner, if not yet BLOCKED.
unfoldable pub marked : ℕ → ℕ → Sight → Sight
marked value n s = cond (is_blocked (get_or s.cells n 0)) s (listed value n s)

-- The line stops before a wall, and before a cell entered by a diagonal move that passes one (02, Job 7).
abbrev pub stopped : List ℕ → ℕ → ℕ → Bool
stopped cells previous n = wall_at cells n || passes_wall cells previous n

-- The line's i-th cell (from 0, all its cells counted) gets wave cost + 1 + i; here from the i-th on, which is entered from `previous`.
unfoldable pub line_marked : ℕ → ℕ → ℕ → List ℕ → Sight → Sight
line_marked wave i previous [] s = s
line_marked wave i previous (n ∷ ns) s = cond (stopped s.cells previous n) s (line_marked wave (suc i) n ns (marked (wave + 1 + i) n s))

-- a cell that comes into sight is queued
unfoldable pub seen : ℕ → ℕ → Sight → Sight
seen wave n s = record { cells = set s.cells n (sight_word wave); corners = s.corners; queue = s.queue ++ (n ∷ []) }

-- a cell that exists and is no wall
abbrev pub unless_wall : List ℕ → Option FieldCell → Option FieldCell
unless_wall cells (Some n) = cond (wall_at cells (index_of n)) None (Some n)
unless_wall cells None = None

-- what a wave begins with: nothing is queued yet
abbrev pub begun : Sight → Sight
begun s = record { cells = s.cells; corners = s.corners; queue = [] }

-- sight over the lines that corners draw: `corner_line n` is the line of corner n, its cells in order
module _ (corner_line : ℕ → List ℕ) where
  -- a corner draws its line
  unfoldable pub extended : ℕ → ℕ → Sight → Sight
  extended wave corner s = line_marked wave 0 corner (corner_line corner) s

  -- where the wave cell's side cell and the wall's side cell exist and are no walls, the latter is a corner
  abbrev pub corner_of : ℕ → Option FieldCell → Option FieldCell → Sight → Sight
  corner_of wave (Some a) (Some b) s = extended wave (index_of b) s
  corner_of wave (Some a) None s = s
  corner_of wave None b s = s

  -- one sideways pair is tried
  unfoldable pub side_tried : ℕ → ℕ → ℕ → CompassDir → Sight → Sight
  side_tried wave from wall side s =
      corner_of wave (unless_wall s.cells (stepped (cell_at from) side)) (unless_wall s.cells (stepped (cell_at wall) side)) s

  -- Wall: both sideways pairs are tried (West then East, North then South).
  unfoldable pub wall_met : ℕ → ℕ → ℕ → CompassDir → Sight → Sight
  wall_met wave from wall d s = side_tried wave from wall (opposite (lower_side d)) (side_tried wave from wall (lower_side d) s)

  -- BLOCKED or GOAL: nothing. Wall: its sides. Otherwise, if not LOS: in sight.
  unfoldable pub spread_to : ℕ → ℕ → CompassDir → ℕ → Sight → Sight
  spread_to wave from d n s =
      let x = get_or s.cells n 0 in
      cond (is_blocked x || is_goal x) s (cond (is_impassable x) (wall_met wave from n d s) (cond (is_los x) s (seen wave n s)))

  -- to where a step arrives, if inside
  abbrev pub spread_towards : ℕ → ℕ → CompassDir → Option FieldCell → Sight → Sight
  spread_towards wave from d (Some n) s = spread_to wave from d (index_of n) s
  spread_towards wave from d None s = s

  -- neighbours N, E, S, W
  unfoldable pub spread_around : ℕ → ℕ → List CompassDir → Sight → Sight
  spread_around wave from [] s = s
  spread_around wave from (d ∷ ds) s = spread_around wave from ds (spread_towards wave from d (stepped (cell_at from) d) s)

  -- the cells of a wave, in the order in which they were queued
  unfoldable pub wave_spread : ℕ → List ℕ → Sight → Sight
  wave_spread wave [] s = s
  wave_spread wave (i ∷ is) s = wave_spread wave is (spread_around wave i orthogonal s)

  -- Waves from the goal, first wave cost 1: what wave k leaves. Wave 0 is the goal; each later wave begins with an empty queue.
  unfoldable pub sight_after : List ℕ → ℕ → ℕ → Sight
  sight_after cells goal zero = record { cells = with_goal goal cells; corners = []; queue = goal ∷ [] }
  sight_after cells goal (suc k) = let s = sight_after cells goal k in wave_spread (suc k) s.queue (begun s)
