-- The starred cases of document 01 (01, "Cases"), those that document 02 changed as it has them, and a floor of 02, "Job 10": one table, one
-- proof by computation from the definitions.
-- Assumes nothing.
use Rattle.std.specs.Prelude.{◌≡◌, refl, Bool, true, false, cond, List, [], ◌∷◌, ◌++◌, map, ℕ, get_or, set, replicate}
use Rattle.utilities.specs.declared.CompassDir.TheVariants.{Zero}
use Rattle.utilities.specs.Compass.{all, number_of}
use Rattle.fields.specs.declared.FieldCell.{FieldCell}
use Rattle.fields.specs.Cell.{cell, index_or, stepped}
use Rattle.line_nearest.specs.Table.{table}
use Rattle.line_nearest.specs.Line.{toward, nearest, shallow, steep, line}
use Rattle.line_end.specs.LineEnd.{first_ending, slanted_end, end_by, line_end}
use Rattle.route.specs.Window.{on_edge, edge, cells_between}
use Rattle.route.specs.Step.{step_number_on}
use Rattle.route.specs.Target.{target_of}
use Rattle.integration_field.specs.Diagonal.{passes_wall}
use Rattle.integration_field.specs.Listed.{list_of}
use Rattle.integration_field.specs.Wave.{relaxed, offered_around, offered_by, changed_from, next}
use Rattle.integration_field.specs.Rest.{total}
use Rattle.integration_field.specs.Build.{is_empty, settle, build}
use Rattle.integration_field.specs.Position.{first_position, arrives_from, position_at}
use Rattle.integration_started.specs.Sight.{walls, with_portals, with_goal, marked, line_marked, seen, extended, side_tried, wall_met, spread_to}
use Rattle.integration_started.specs.Sight.{spread_around, wave_spread, sight_after}
use Rattle.integration_started.specs.CornerLine.{corner_line}
use Rattle.integration_started.specs.Started.{sight_from, started_from, started_at, started, init_number}
use Rattle.flow_bits.specs.Byte.{is_goal, is_portal_goal, has_line_of_sight, is_wall}
use Rattle.flow_byte.specs.New.{start_of, facing_bits, facing_choice, window_bits, new_byte, new_bytes}
use Rattle.flow_byte.specs.Look as look
use Rattle.flow_byte.specs.Look.{look_around, pointed, built_byte, flow_build}
use Rattle.sector.specs.Sector.{sector_number, sector_bytes, sector_sheet}

-- a case: what the definitions give, and what document 01 expects, both as numbers
pub record Case : Type 0 where
  pub given : List ℕ
  pub expected : List ℕ

abbrev case : List ℕ → List ℕ → Case
case g e = record { given = g; expected = e }

-- cells as document 01 writes them, column before row
abbrev coordinates : List FieldCell → List ℕ
coordinates [] = []
coordinates (c ∷ l) = c.column ∷ c.row ∷ coordinates l

-- the costs of a floor, and steps: a goal, and a window from a first cell to a last at a boundary
abbrev ones : List ℕ
ones = replicate 100 1

abbrev wall_and : ℕ → List ℕ → List ℕ
wall_and i costs = set costs i 255

abbrev goal : ℕ → List ℕ
goal g = 0 ∷ g ∷ 0 ∷ 0 ∷ 0 ∷ 0 ∷ 0 ∷ 0 ∷ []

abbrev window : ℕ → ℕ → ℕ → List ℕ
window first last boundary = 0 ∷ 0 ∷ 1 ∷ first ∷ last ∷ boundary ∷ 0 ∷ 0 ∷ []

-- cells' words in the started field; cells' words in the built one; the waves; and cells' flow bytes, as the sector call leaves them on a sheet
-- of zeros, with a previous field or none
abbrev words : List ℕ → List ℕ → List ℕ
words cells is = map (λ (i : ℕ). get_or cells i 0) is

abbrev unbuilt : List ℕ → List ℕ → List ℕ → List ℕ
unbuilt costs step is = words (started costs (target_of step)).field is

abbrev built : List ℕ → List ℕ → List ℕ → List ℕ
built costs step is =
    let f = started costs (target_of step) in
    let b = build costs f.field (list_of f) in
    words b.cells is

abbrev waves : List ℕ → List ℕ → List ℕ
waves costs step = let f = started costs (target_of step) in (build costs f.field (list_of f)).waves ∷ []

-- cells' positions in the built field
abbrev positions_at : List ℕ → List ℕ → List ℕ → List ℕ
positions_at costs step is =
    let f = started costs (target_of step) in
    map (position_at costs f.field (list_of f)) is

-- walls but for two window cells, 93 and 94, and a way around from the first that meets the second's at cell 64, as dear there
abbrev two_ways : List ℕ
two_ways = set (set (set (set (set (set (set (set (set (replicate 100 255) 93 1) 94 1) 83 1) 84 3) 73 3) 74 3) 63 2) 64 2) 65 2

abbrev zeros : List ℕ
zeros = replicate 100 0

abbrev flow : List ℕ → List ℕ → Bool → List ℕ → List ℕ → List ℕ
flow costs step has previous is = words (sector_sheet costs step has previous zeros) is

-- the flow bytes of a North window 3 to 5, where the facing cells hold these
abbrev facing : ℕ → ℕ → ℕ → List ℕ
facing a b c = flow ones (window 3 5 0) true (set (set (set zeros 93 a) 94 b) 95 c) (3 ∷ 4 ∷ 5 ∷ [])

-- what a byte reads as: goal, portal goal, in sight, wall
abbrev number : Bool → ℕ
number b = cond b 1 0

abbrev read : ℕ → List ℕ
read byte = number (is_goal byte) ∷ number (is_portal_goal byte) ∷ number (has_line_of_sight byte) ∷ number (is_wall byte) ∷ []

abbrev pub cases : List Case
cases =
    -- All 1, goal 44: cell 45 0x10001, cell 0 0x10008, waves 0.
    case (built ones (goal 44) (45 ∷ 0 ∷ []) ++ waves ones (goal 44)) (0x10001 ∷ 0x10008 ∷ 0 ∷ [])
    -- Cell 55 wall, else 1, goal 44: cell 45 is 0x4040003, built and unbuilt; its flow 0x18.
    ∷ case (
    unbuilt (wall_and 55 ones) (goal 44) (45 ∷ []) ++ built (wall_and 55 ones) (goal 44) (45 ∷ []) ++ flow (wall_and 55 ones) (goal 44) false [] (45 ∷ [])
    ) (0x4040003 ∷ 0x4040003 ∷ 0x18 ∷ [])
    -- Goal on cost 255: refused with 16 since 02, "Job 3".
    ∷ case (init_number (wall_and 44 ones) (goal 44) ∷ []) (16 ∷ [])
    -- Walls 1 and 10, goal 44, else 1: cell 0 ends 65535, flow 0xE0.
    ∷ case (built (wall_and 1 (wall_and 10 ones)) (goal 44) (0 ∷ []) ++ flow (wall_and 1 (wall_and 10 ones)) (goal 44) false [] (0 ∷ [])) (65535 ∷ 0xE0 ∷ [])
    -- All 1, East window 9 to 99: cell 0 holds 9; waves 9; flow 0x12; cell 9, with a previous field of zeros since 02, "Job 8", 0x92.
    ∷ case (built ones (window 9 99 1) (0 ∷ []) ++ waves ones (window 9 99 1) ++ flow ones (window 9 99 1) true zeros (0 ∷ 9 ∷ []))
    (9 ∷ 9 ∷ 0x12 ∷ 0x92 ∷ [])
    -- Two window cells, the second's walk the shorter, both as dear at cells 64 and 65: these belong to the first, though cell 74 on the way to
    -- them is the second's. A wall has no position.
    ∷ case (positions_at two_ways (window 93 94 2) (65 ∷ 64 ∷ 63 ∷ 74 ∷ 84 ∷ 93 ∷ 94 ∷ 50 ∷ [])) (0 ∷ 0 ∷ 0 ∷ 1 ∷ 1 ∷ 0 ∷ 1 ∷ 255 ∷ [])
    -- North window 3 to 5, facing 9, 5, 9: 0x93, 0x91, 0x99; facing 7, 7, 7: 0x91 each.
    ∷ case (facing 9 5 9 ++ facing 7 7 7) (0x93 ∷ 0x91 ∷ 0x99 ∷ 0x91 ∷ 0x91 ∷ 0x91 ∷ [])
    -- (0,0) to (2,1): middle (1,0); from (2,1) back: also (1,0).
    ∷ case (coordinates (line (cell 0 0) (cell 2 1))) (0 ∷ 0 ∷ 1 ∷ 0 ∷ 2 ∷ 1 ∷ [])
    ∷ case (coordinates (line (cell 2 1) (cell 0 0))) (2 ∷ 1 ∷ 1 ∷ 0 ∷ 0 ∷ 0 ∷ [])
    -- (0,0) to (3,1): (0,0), (1,0), (2,1), (3,1).
    ∷ case (coordinates (line (cell 0 0) (cell 3 1))) (0 ∷ 0 ∷ 1 ∷ 0 ∷ 2 ∷ 1 ∷ 3 ∷ 1 ∷ [])
    -- Line end of corner (5,3), goal (4,4): (9,0). Since 02, "Job 11", corner (4,3), goal (5,4): (0,0); corner (9,7), goal (2,9): (9,7).
    ∷ case (coordinates (line_end (cell 5 3) (cell 4 4) ∷ line_end (cell 4 3) (cell 5 4) ∷ line_end (cell 9 7) (cell 2 9) ∷ []))
    (9 ∷ 0 ∷ 0 ∷ 0 ∷ 9 ∷ 7 ∷ [])
    -- Straight rays (01, "Integration: init", third paragraph): corners right of, left of, below and above the goal (4,4), and the goal itself.
    ∷ case (coordinates (line_end (cell 6 4) (cell 4 4) ∷ line_end (cell 2 4) (cell 4 4) ∷ line_end (cell 4 6) (cell 4 4) ∷ line_end (cell 4 2) (cell 4 4) ∷ []))
    (9 ∷ 4 ∷ 0 ∷ 4 ∷ 4 ∷ 9 ∷ 4 ∷ 0 ∷ [])
    ∷ case (coordinates (line_end (cell 4 4) (cell 4 4) ∷ [])) (4 ∷ 0 ∷ [])
    -- Before building no cell has a position (02, "Job 10"), and the places of the corner list beyond its count hold 0: of a goal with one wall, of a window.
    ∷ case (words (started (wall_and 55 ones) (target_of (goal 44))).positions (0 ∷ 44 ∷ 55 ∷ 99 ∷ [])) (255 ∷ 255 ∷ 255 ∷ 255 ∷ [])
    ∷ case (words (started ones (target_of (window 3 5 0))).los_corners (0 ∷ 1 ∷ 2 ∷ 3 ∷ 99 ∷ [])) (3 ∷ 4 ∷ 5 ∷ 0 ∷ 0 ∷ [])
    -- What an end cell of a window does not see counts as above every value: where all that it sees is unreached it stays straight.
    ∷ case (facing 65535 65535 65535 ++ facing 65535 5 65535) (0x91 ∷ 0x91 ∷ 0x91 ∷ 0x93 ∷ 0x91 ∷ 0x99 ∷ [])
    -- The numbers of the directions: N, E, S, W, NE, SE, SW, NW, none.
    ∷ case (map number_of (all ++ (Zero ∷ []))) (0 ∷ 1 ∷ 2 ∷ 3 ∷ 4 ∷ 5 ∷ 6 ∷ 7 ∷ 8 ∷ [])
    -- A cell's index, and what stands for a cell outside the sector.
    ∷ case (index_or 100 (cell 3 4) ∷ index_or 100 (cell 10 0) ∷ index_or 100 (cell 0 10) ∷ []) (43 ∷ 100 ∷ 100 ∷ [])
    -- Byte 0xF3 reads as goal, portal goal and in sight, not wall.
    ∷ case (read 0xF3) (1 ∷ 1 ∷ 1 ∷ 0 ∷ [])
    ∷ []

pub as_expected : map (λ (c : Case). c.given) cases ≡ map (λ (c : Case). c.expected) cases
unfolding on_edge index_or stepped table toward nearest shallow steep line first_ending slanted_end end_by line_end edge cells_between target_of
    passes_wall relaxed offered_around offered_by changed_from next total is_empty settle build first_position arrives_from
    walls with_portals with_goal marked line_marked seen extended side_tried wall_met spread_to spread_around wave_spread sight_after
    corner_line sight_from started_from started_at started init_number step_number_on sector_number
    start_of facing_bits facing_choice window_bits new_byte new_bytes look.seen look_around pointed built_byte flow_build sector_bytes
as_expected = refl
