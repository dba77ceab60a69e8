-- A leg (01, "A leg, the added entry"; 02, "Job 2" and "Job 3"): its number, and the sheet that it leaves.
-- Assumes nothing.
use Rattle.std.specs.Prelude.{Bool, true, false, cond, not, ◌||◌, List, [], ◌∷◌, ◌++◌, ℕ, ◌+◌, ◌*◌, eqb, length, take, drop, Option, Some, None}
use Rattle.route.specs.Table.{Row, row, first_number}
use Rattle.route.specs.Step.{sector_of, is_window, boundary_of, portal_of, each_step_on, no_step_list}
use Rattle.step_list.specs.Steps.{steps_of}
use Rattle.sectors.specs.Floor.{across}
use Rattle.sector.specs.Sector.{sector_field, sector_bytes}
use Rattle.leg_counting.specs.Counting.{leg_target, is_closed}

-- a sector's own 100 bytes, of a floor or of a sheet
abbrev pub part : List ℕ → ℕ → List ℕ
part bytes sector = take 100 (drop (sector * 100) bytes)

-- ---- the table, "each step" and "whole leg"

-- the number of a step on its own sector's costs: 4 to 8, or 16 (02, "Job 3": any window cell, also one that does not count)
abbrev pub floor_number : List ℕ → List ℕ → ℕ
floor_number floor step = each_step_on (part floor (sector_of step)) step

-- 4 to 8 and 16 for one step before the next step
abbrev pub each_rows : List ℕ → List (List ℕ) → List Row
each_rows floor [] = []
each_rows floor (s ∷ ss) = row (floor_number floor s) (not (eqb (floor_number floor s) 0)) ∷ each_rows floor ss

-- a step of the list names the sector
abbrev pub names : ℕ → List (List ℕ) → Bool
names sector [] = false
names sector (s ∷ ss) = eqb (sector_of s) sector || names sector ss

-- a sector is named twice
abbrev pub names_twice : List (List ℕ) → Bool
names_twice [] = false
names_twice (s ∷ ss) = names (sector_of s) ss || names_twice ss

-- a step of the list is without window
abbrev pub some_goal : List (List ℕ) → Bool
some_goal [] = false
some_goal (s ∷ ss) = not (is_window s) || some_goal ss

-- 9: first step with window, later one without, or a sector named twice
abbrev pub out_of_order : List (List ℕ) → Bool
out_of_order [] = false
out_of_order (s ∷ ss) = is_window s || some_goal ss || names_twice (s ∷ ss)

-- what lies across a boundary is this sector
abbrev pub is_sector : ℕ → Option ℕ → Bool
is_sector s (Some t) = eqb t s
is_sector s None = false

-- the sector across a step's boundary is not that of the step before, or is off the floor
abbrev pub disconnected_from : List ℕ → List (List ℕ) → Bool
disconnected_from before [] = false
disconnected_from before (s ∷ ss) = not (is_sector (sector_of before) (across (sector_of s) (boundary_of s))) || disconnected_from s ss

-- 10: of some later step, the sector across its boundary is not that of the step before, or is off the floor
abbrev pub disconnected : List (List ℕ) → Bool
disconnected [] = false
disconnected (s ∷ ss) = disconnected_from s ss

-- ---- planning, step after step; `sight` says whether the first step's goal is planned with the sight of it

-- the built field of a step, on its own sector's costs
abbrev pub step_field : Bool → List ℕ → Bool → List ℕ → List ℕ → List ℕ
step_field sight floor has previous step = (sector_field (part floor (sector_of step)) (leg_target sight has previous step)).field

-- the flow bytes of a step's sector
abbrev pub step_bytes : Bool → List ℕ → Bool → List ℕ → List ℕ → List ℕ
step_bytes sight floor has previous step = sector_bytes (part floor (sector_of step)) (leg_target sight has previous step) (portal_of step) has previous

-- 15 (02, "Job 2"): a step of the list has a window with no counting cell. `has` and `previous` tell of the step before the list.
unfoldable pub closed_from : Bool → List ℕ → List (List ℕ) → Bool → List ℕ → Bool
closed_from sight floor [] has previous = false
closed_from sight floor (s ∷ ss) has previous =
    is_closed (leg_target sight has previous s) || closed_from sight floor ss true (step_field sight floor has previous s)

-- 15 of a whole leg: its first step has no previous field
unfoldable pub some_closed : Bool → List ℕ → List (List ℕ) → Bool
some_closed sight floor steps = closed_from sight floor steps false []

-- ---- its number

-- the table's lines 1, 2, 3, each step's 4 to 8 and 16, 9 and 10, which are judged before a step is planned
unfoldable pub judged_rows : List ℕ → List ℕ → List ℕ → List Row
judged_rows floor steps sheet =
    row 1 (not (eqb (length floor) 6400))
    ∷ row 2 (not (eqb (length sheet) 6400))
    ∷ row 3 (no_step_list steps)
    ∷ (each_rows floor (steps_of steps) ++ (row 9 (out_of_order (steps_of steps)) ∷ row 10 (disconnected (steps_of steps)) ∷ []))

-- the leg's number: that of the first of these lines, and 15 after 10
unfoldable pub leg_number_by : Bool → List ℕ → List ℕ → List ℕ → ℕ
leg_number_by sight floor steps sheet = first_number (judged_rows floor steps sheet ++ (row 15 (some_closed sight floor (steps_of steps)) ∷ []))

-- ---- the sheet

-- a sheet with other bytes as a sector's part
abbrev pub with_part : List ℕ → ℕ → List ℕ → List ℕ
with_part sheet sector bytes = take (sector * 100) sheet ++ (bytes ++ drop (sector * 100 + 100) sheet)

-- The sheet after these steps: each runs the sector call over its target, the built field of the step before serving as previous field, and
-- writes its sector's own 100 bytes. `has` and `previous` tell of the step before the list.
unfoldable pub planned_from : Bool → List ℕ → List (List ℕ) → Bool → List ℕ → List ℕ → List ℕ
planned_from sight floor [] has previous sheet = sheet
planned_from sight floor (s ∷ ss) has previous sheet =
    planned_from sight floor ss true (step_field sight floor has previous s) (with_part sheet (sector_of s) (step_bytes sight floor has previous s))

-- the sheet of a planned leg: the first step has no previous field
unfoldable pub planned : Bool → List ℕ → List (List ℕ) → List ℕ → List ℕ
planned sight floor steps sheet = planned_from sight floor steps false [] sheet

-- what a leg leaves of the sheet: a refusal writes nothing
abbrev pub leg_sheet_by : Bool → List ℕ → List ℕ → List ℕ → List ℕ
leg_sheet_by sight floor steps sheet = cond (eqb (leg_number_by sight floor steps sheet) 0) (planned sight floor (steps_of steps) sheet) sheet

-- the leg of the documents: with the sight of its goal
abbrev pub leg_number : List ℕ → List ℕ → List ℕ → ℕ
leg_number floor steps sheet = leg_number_by true floor steps sheet

abbrev pub leg_sheet : List ℕ → List ℕ → List ℕ → List ℕ
leg_sheet floor steps sheet = leg_sheet_by true floor steps sheet
