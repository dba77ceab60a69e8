-- The smallest floor on which arrows with sight run in a circle, worked out with sight and without: wall 1, goal 10, every other cost 1.
-- Assumes nothing.
use mathlib.Core.Path.{◌≡◌, refl}
use mathlib.Core.Bool.{Bool, true, false}
use mathlib.Core.List.{List, [], ◌∷◌, map}
use Prim.Native.Nat.{ℕ}
use lib.ListN.{set, replicate, get_or}
use Rattle.fields.specs.Cell.{stepped}
use Rattle.line_nearest.specs.Table.{table}
use Rattle.line_nearest.specs.Line.{toward, nearest, shallow, steep, line}
use Rattle.line_end.specs.LineEnd.{first_ending, slanted_end, end_by, line_end}
use Rattle.route.specs.Step.{portal_of}
use Rattle.route.specs.Target.{by_sight, target_of}
use Rattle.integration_field.specs.Diagonal.{passes_wall}
use Rattle.integration_field.specs.Wave.{relaxed, offered_around, offered_by, changed_from, next}
use Rattle.integration_field.specs.Rest.{total}
use Rattle.integration_field.specs.Build.{is_empty, settle, build}
use Rattle.integration_started.specs.Sight.{walls, with_goal, marked, line_marked, seen, extended, side_tried, wall_met}
use Rattle.integration_started.specs.Sight.{spread_to, spread_around, wave_spread, sight_after}
use Rattle.integration_started.specs.CornerLine.{corner_line}
use Rattle.integration_started.specs.Started.{sight_from, started_from, started_without, started}
use Rattle.flow_byte.specs.New.{start_of, new_byte, new_bytes}
use Rattle.flow_byte.specs.Look as look
use Rattle.flow_byte.specs.Look.{look_around, pointed, built_byte, flow_build}
use Rattle.sector.specs.Sector.{sector_bytes}
use Rattle.flow_arrivals.specs.Decided.{next_move_if, next_move, searched_on, searched_from, searched, decided, arrival}
use Rattle.flow_arrivals.specs.Arrivals.{moves_from}

abbrev step : List ℕ
step = 0 ∷ 10 ∷ 0 ∷ 0 ∷ 0 ∷ 0 ∷ 0 ∷ 0 ∷ []

abbrev bytes : Bool → List ℕ
bytes sight = sector_bytes (set (replicate 100 1) 1 255) (by_sight sight (target_of step)) (portal_of step) false []

-- without sight cells 2 and 3 point south and south-west, and their arrows come to the goal
pub arrives_without : map (λ (x : ℕ). get_or (bytes false) x 0) (2 ∷ 3 ∷ 9 ∷ []) ≡ 0x14 ∷ 0x1C ∷ 0x1C ∷ []
unfolding stepped target_of passes_wall relaxed offered_around offered_by changed_from next total is_empty settle build walls
    with_goal started_without started start_of new_byte new_bytes look.seen look_around pointed built_byte flow_build sector_bytes
arrives_without = refl

pub moves_without : map (moves_from (bytes false)) (2 ∷ 3 ∷ 9 ∷ []) ≡ 3 ∷ 3 ∷ 9 ∷ []
unfolding stepped target_of passes_wall relaxed offered_around offered_by changed_from next total is_empty settle build walls
    with_goal started_without started start_of new_byte new_bytes look.seen look_around pointed built_byte flow_build sector_bytes
    moves_from next_move_if next_move searched_on searched_from searched decided arrival
moves_without = refl

-- with sight 2 and 3 point at each other, and no number of moves arrives
pub circle_with : map (moves_from (bytes true)) (2 ∷ 3 ∷ 9 ∷ []) ≡ 255 ∷ 255 ∷ 255 ∷ []
unfolding stepped table toward nearest shallow steep line first_ending slanted_end end_by line_end target_of
    passes_wall relaxed offered_around offered_by changed_from next total is_empty settle build
    walls with_goal marked line_marked seen extended side_tried wall_met spread_to spread_around wave_spread sight_after
    corner_line sight_from started_from started start_of new_byte new_bytes look.seen look_around pointed built_byte flow_build sector_bytes
    moves_from next_move_if next_move searched_on searched_from searched decided arrival
circle_with = refl
