-- A leg over three sectors, worked out: the arrows of the sheet that its definition leaves, followed over the floor.
-- Assumes nothing.
use mathlib.Core.Path.{◌≡◌, refl}
use mathlib.Core.Bool.{true}
use mathlib.Core.List.{List, [], ◌∷◌}
use Prim.Native.Nat.{ℕ, zero, suc, ◌+◌}
use lib.ListN.{set, replicate}
use Rattle.fields.specs.Cell.{stepped}
use Rattle.route.specs.Window.{on_edge, edge, cells_between}
use Rattle.route.specs.Target.{target_of}
use Rattle.integration_field.specs.Diagonal.{passes_wall}
use Rattle.integration_field.specs.Wave.{relaxed, offered_around, offered_by, changed_from, next}
use Rattle.integration_field.specs.Rest.{total}
use Rattle.integration_field.specs.Build.{is_empty, settle, build}
use Rattle.integration_started.specs.Sight.{walls, with_portals, with_goal, seen, spread_to, spread_around, wave_spread, sight_after}
use Rattle.integration_started.specs.Started.{sight_from, started_from, started_at, started}
use Rattle.flow_byte.specs.New.{start_of, facing_bits, facing_choice, window_bits, new_byte, new_bytes}
use Rattle.flow_byte.specs.Look as look
use Rattle.flow_byte.specs.Look.{look_around, pointed, built_byte, flow_build}
use Rattle.sector.specs.Sector.{sector_bytes}
use Rattle.leg_counting.specs.Counting.{counts, counting_cells}
use Rattle.leg_plan.specs.Leg.{planned, planned_from}
use Rattle.leg_journey.specs.Place.{place_of}
use Rattle.leg_journey.proofs.Once.{moved, followed}

-- on a floor of ones, n walls from cell 90 of sector 10 on
abbrev walled : ℕ → List ℕ
walled zero = replicate 6400 1
walled (suc n) = set (walled n) (1090 + n) 255

-- the goal is cell 0 of sector 9; from sector 10 the West edge leads into it, and from sector 18 the North edge into sector 10
abbrev steps : List (List ℕ)
steps = (9 ∷ 0 ∷ 0 ∷ 0 ∷ 0 ∷ 0 ∷ 0 ∷ 0 ∷ []) ∷ (10 ∷ 0 ∷ 1 ∷ 0 ∷ 90 ∷ 3 ∷ 0 ∷ 0 ∷ []) ∷ (18 ∷ 0 ∷ 1 ∷ 0 ∷ 9 ∷ 0 ∷ 0 ∷ 0 ∷ []) ∷ []

-- of the row that sector 18 faces, cell 99 alone is no wall, so that cells 8 and 9 of its window count
abbrev after : List ℕ
after = planned true (walled 9) steps (replicate 6400 0)

-- From cell 5 of sector 18: three moves east along the window to cell 8, north-east into cell 99, north to 89, since the way north-west to 88
-- passes the wall 98 (02, "Job 7"), nine moves west to 80, and north-west into cell 79 of the goal's sector.
pub three_sectors :
    followed after 3 (place_of 18 5) ∷ followed after 4 (place_of 18 5) ∷ followed after 14 (place_of 18 5) ∷ followed after 15 (place_of 18 5) ∷ []
    ≡ place_of 18 8 ∷ place_of 10 99 ∷ place_of 10 80 ∷ place_of 9 79 ∷ []
unfolding on_edge stepped edge cells_between target_of passes_wall relaxed offered_around offered_by changed_from next total is_empty settle build walls
    with_portals with_goal seen spread_to spread_around wave_spread sight_after sight_from started_from started_at started start_of facing_bits facing_choice
    window_bits new_byte new_bytes look.seen look_around pointed built_byte flow_build sector_bytes counts counting_cells planned planned_from moved followed
three_sectors = refl
