-- Small computed cases of starting a field (01, "Integration: init"), on as many cells as each needs.
-- Assumes nothing.
use mathlib.Core.Path.{◌≡◌, refl}
use mathlib.Core.List.{List, [], ◌∷◌, ◌++◌}
use Prim.Native.Nat.{ℕ, ◌+◌}
use lib.ListN.{get_or, set, replicate}
use Rattle.utilities.specs.declared.CompassDir.TheVariants.{North, East}
use Rattle.fields.specs.Cell.{stepped}
use Rattle.route.specs.Step.{step_number_on}
use Rattle.integration_field.specs.Diagonal.{passes_wall}
use Rattle.integration_started.specs.Sight.{walls, with_portals, with_goal, Sight, marked, line_marked, seen, extended, side_tried, wall_met}
use Rattle.integration_started.specs.Sight.{spread_to, spread_around, wave_spread, sight_after}
use Rattle.integration_started.specs.CornerLine.{corner_line}
use Rattle.integration_started.specs.Started.{started_at, init_number}

-- the words of an open cell and of a wall
abbrev free : ℕ
free = 65535

abbrev wall : ℕ
wall = 0x200FFFF

-- cells of which none is listed yet, nor queued
abbrev of : List ℕ → Sight
of cells = record { cells = cells; corners = []; queue = [] }

-- the line of a corner that draws none but itself
abbrev itself : ℕ → List ℕ
itself n = n ∷ []

-- cost 255 is a wall, and no other
pub walls_of_255 : walls (1 ∷ 254 ∷ 255 ∷ []) ≡ free ∷ free ∷ wall ∷ []
unfolding walls
walls_of_255 = refl

-- `init` refuses a goal of cost 255 with 16 (02, "Job 3"), after 1, and takes it beside such a cell
abbrev wall_at44 : List ℕ
wall_at44 = set (replicate 100 1) 44 255

pub goal_of_255 : init_number wall_at44 (0 ∷ 44 ∷ 0 ∷ 0 ∷ 0 ∷ 0 ∷ 0 ∷ 0 ∷ []) ≡ 16
unfolding init_number step_number_on
goal_of_255 = refl

pub goal_beside_255 : init_number wall_at44 (0 ∷ 45 ∷ 0 ∷ 0 ∷ 0 ∷ 0 ∷ 0 ∷ 0 ∷ []) ≡ 0
unfolding init_number step_number_on
goal_beside_255 = refl

pub costs_first : init_number (255 ∷ []) (replicate 8 0) ≡ 1
unfolding init_number step_number_on
costs_first = refl

-- window cells are put, and listed
pub window_put : (started_at (1 ∷ 1 ∷ []) (0 ∷ [])).field ≡ 0x80000 ∷ free ∷ []
unfolding started_at with_portals walls
window_put = refl

pub window_listed : (started_at (1 ∷ 1 ∷ []) (0 ∷ [])).count ≡ 1
unfolding started_at
window_listed = refl

-- a corner's word, and the list that it joins; one that is BLOCKED stays as it is
pub corner_marked : marked 3 0 (of (free ∷ [])) ≡ record { cells = 0x4040003 ∷ []; corners = 0 ∷ []; queue = [] }
unfolding marked
corner_marked = refl

pub blocked_stays : marked 9 0 (of (0x4040003 ∷ [])) ≡ of (0x4040003 ∷ [])
unfolding marked
blocked_stays = refl

-- in wave 1 the cells of a line get 2, 3, .. ; it stops before a wall ..
pub line_counts : (line_marked 1 0 0 (0 ∷ 1 ∷ 2 ∷ []) (of (free ∷ free ∷ wall ∷ []))).cells ≡ 0x4040002 ∷ 0x4040003 ∷ wall ∷ []
unfolding line_marked marked passes_wall
line_counts = refl

-- .. and before a cell that it enters diagonally past a wall, East of the cell that it leaves or South of it (02, "Job 7")
pub line_unbarred : (line_marked 1 0 0 (0 ∷ 11 ∷ []) (of (replicate 12 free))).corners ≡ 0 ∷ 11 ∷ []
unfolding line_marked marked passes_wall
line_unbarred = refl

pub line_barred_in_row : (line_marked 1 0 0 (0 ∷ 11 ∷ []) (of (free ∷ wall ∷ replicate 10 free))).corners ≡ 0 ∷ []
unfolding line_marked marked passes_wall
line_barred_in_row = refl

pub line_barred_in_column : (line_marked 1 0 0 (0 ∷ 11 ∷ []) (of (replicate 10 free ++ wall ∷ free ∷ []))).corners ≡ 0 ∷ []
unfolding line_marked marked passes_wall
line_barred_in_column = refl

-- a wall north of cell 12: west of it is a corner first, then east; and only where the cell beside cell 12 is no wall
pub sides_in_order : (wall_met itself 1 12 2 North (of (replicate 2 free ++ wall ∷ replicate 11 free))).corners ≡ 1 ∷ 3 ∷ []
unfolding wall_met side_tried extended line_marked marked passes_wall stepped
sides_in_order = refl

pub side_closed : (wall_met itself 1 12 2 North (of (replicate 2 free ++ wall ∷ replicate 8 free ++ wall ∷ free ∷ free ∷ []))).corners ≡ 3 ∷ []
unfolding wall_met side_tried extended line_marked marked passes_wall stepped
side_closed = refl

-- sight leaves the goal as it is, and queues a cell that comes into sight
pub goal_stays : spread_to itself 1 1 East 0 (of (0x20000 ∷ [])) ≡ of (0x20000 ∷ [])
unfolding spread_to
goal_stays = refl

pub cell_seen : spread_to itself 1 1 East 0 (of (free ∷ [])) ≡ record { cells = 0x10001 ∷ []; corners = []; queue = 0 ∷ [] }
unfolding spread_to seen
cell_seen = refl

-- Three open cells in a row, walls around, the goal at the left end: wave 1 costs 1, wave 2 spreads from one cell and leaves one, and it is
-- the second wave that comes to the right end.
abbrev pub row : List ℕ
row = replicate 3 1 ++ replicate 11 255

pub first_wave : get_or (sight_after itself (walls row) 0 1).cells 1 0 ≡ 1 + 0x10000
unfolding walls with_goal seen wall_met side_tried spread_to spread_around wave_spread sight_after stepped
first_wave = refl

pub second_queue : (sight_after itself (walls row) 0 2).queue ≡ 2 ∷ []
unfolding walls with_goal seen wall_met side_tried spread_to spread_around wave_spread sight_after stepped
second_queue = refl

-- with the lines of corners: the third wave leaves no cell to spread from; `Whole.antt` goes on from here to the end of sight
pub third_queue : (sight_after (corner_line 0) (walls row) 0 3).queue ≡ []
unfolding walls with_goal seen wall_met side_tried spread_to spread_around wave_spread sight_after stepped
third_queue = refl

pub third_wave : get_or (sight_after (corner_line 0) (walls row) 0 3).cells 2 0 ≡ 2 + 0x10000
unfolding walls with_goal seen wall_met side_tried spread_to spread_around wave_spread sight_after stepped
third_wave = refl
