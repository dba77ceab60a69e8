-- The goal of a leg that is planned without sight: its byte on the sheet reads as goal and has no arrow.
--     goal_in, goal_sector_in     it lies on the floor
--     goal_byte                   the byte of its place on the sheet is 0x70
-- Assumes nothing.
use mathlib.Core.Path.{◌≡◌, sym, ap, ◌∙◌}
use mathlib.Core.Bool.{false}
use mathlib.Core.List.{List, []}
use Prim.Native.Nat.{ℕ, ◌*◌, ◌≤◌, ◌<◌}
use lib.ListN.{length, get_or, drop}
use lib.Seq.{get_or-take, get_or-drop}
use Rattle.route.specs.Step.{is_window, goal_of}
use Rattle.route.specs.Target.{Target, to_corner, without_sight}
use Rattle.route.proofs.Accepted.{accepted_goal}
use Rattle.route.proofs.Targets.{target_goal}
use Rattle.flow_arrows.proofs.CellBytes.{corner_byte}
use Rattle.sector.specs.Sector.{sector_bytes}
use Rattle.step_list.specs.Steps.{step_of, steps_of}
use Rattle.leg_plan.specs.Leg.{part, planned}
use Rattle.leg_plan.specs.Promise.{sector_at, portal_at, costs_at, target_at}
use Rattle.leg_plan.proofs.Numbers.{Judged, ready}
use Rattle.leg_plan.proofs.Planned as plan
use Rattle.leg_journey.specs.Place.{place_of}
use Rattle.leg_journey.proofs.Places.{sector_in, cell_in}
use Rattle.leg_plan.proofs.Before.{first_goal}
use Rattle.leg_moves.specs.Moving.{byte_at}

-- a leg of which nothing is refused; the costs of a floor are bytes
module _ (floor steps before : List ℕ) (j : Judged floor steps before) (bytes : (i : ℕ) → get_or floor i 0 ≤ 255) (h : 0 < length (steps_of steps)) where
  -- its first step, with its sector, its goal and its costs; and the sheet that it leaves
  abbrev first : List ℕ
  first = step_of (steps_of steps) 0

  abbrev sector : ℕ
  sector = sector_at (steps_of steps) 0

  abbrev goal : ℕ
  goal = goal_of first

  abbrev costs : List ℕ
  costs = costs_at floor (steps_of steps) 0

  abbrev after : List ℕ
  after = planned false floor (steps_of steps) before

  by_goal : is_window first ≡ false
  by_goal = first_goal (steps_of steps) j.ordered h

  pub goal_in : goal < 100
  goal_in = accepted_goal first (plan.good false floor steps before (ready j) j.sheet_full 0 h) by_goal

  pub goal_sector_in : sector < 64
  goal_sector_in = (plan.fits false floor steps before (ready j) j.sheet_full).in_floor 0 h

  goal_target : target_at false floor (steps_of steps) 0 ≡ to_corner goal
  goal_target = ap without_sight (target_goal first by_goal)

  in_part : get_or (part after sector) goal 0 ≡ 0x70
  unfolding sector_bytes
  in_part =
      let portal = portal_at (steps_of steps) 0 in
      let full = plan.part_hundred floor sector j.floor_full goal_sector_in in
      ap (λ (b : List ℕ). get_or b goal 0) ((plan.leg_planned false floor steps before (ready j) j.sheet_full j.ordered bytes).written 0 h)
      ∙ ap (λ (t : Target). get_or (sector_bytes costs t portal false []) goal 0) goal_target
      ∙ corner_byte costs goal full goal_in (plan.part_bytes floor sector bytes) portal false []

  pub goal_byte : byte_at after (place_of sector goal) ≡ 0x70
  goal_byte =
      rw (sector_in sector goal goal_in, cell_in sector goal goal_in)
      (sym (get_or-take 100 (drop (sector * 100) after) goal 0 goal_in ∙ get_or-drop (sector * 100) after goal 0) ∙ in_part)
