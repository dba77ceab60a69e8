-- What the numbers of moves that are answered for a sheet say where that sheet was planned: as a sector left by a window (demand 3), or as the goal's
-- sector of a leg (02, "Job 4"). `bytes` are the sheet, `moves` the numbers.
-- Assumes nothing.
use Rattle.std.specs.Prelude.{◌≡◌, Bool, true, List, ℕ, ◌+◌, ◌≤◌, ◌<◌, length, get_or}
use Rattle.route.specs.declared.PortalWindow.{PortalWindow}
use Rattle.route.specs.Target.{Target}
use Rattle.flow_arrows.specs.Arrows.{Reached, Leads}
use Rattle.flow_arrows.specs.Promise.{WindowSector, SightlessSector, built_cells}
use Rattle.sector.specs.Sector.{sector_bytes}
use Rattle.leg_plan.specs.Leg.{part}
use Rattle.leg_plan.specs.Promise.{sector_at, built_at}
use Rattle.leg_journey.specs.Place.{Place, place_of, FloorWalk}
use Rattle.leg_journey.specs.Journey.{NoZero, LegArrives}
use Rattle.flow_arrivals.specs.Following.{is_arrival, Comes}

-- Where the sheet is what the sector call's definition gives for a sector of some kind, the number of every reached cell is that of the moves by which its
-- arrows lead (demand 3): no such cell holds 255.
pub record SectorArrives (Kind : List ℕ → Target → Type 0) (bytes moves : List ℕ) : Type 0 where
  pub arrives : (costs : List ℕ) (target : Target) (portal : PortalWindow) (has : Bool) (previous : List ℕ) → Kind costs target
      → bytes ≡ sector_bytes costs target portal has previous → (x : ℕ) → x < 100 → Reached (built_cells costs target) x
      → Leads costs target (built_cells costs target) bytes (get_or moves x 0) x

-- of a sector left by a window, with no cost 0; and of one planned without sight, with the goal in it too, with no cost 0
abbrev pub WindowArrives : List ℕ → List ℕ → Type 0
WindowArrives = SectorArrives WindowSector

abbrev pub SightlessArrives : List ℕ → List ℕ → Type 0
SightlessArrives = SectorArrives SightlessSector

module _ (floor : List ℕ) (steps : List (List ℕ)) (sheet : List ℕ) where
  -- the goal's sector is that of the first step
  abbrev pub goal_sector : ℕ
  goal_sector = sector_at steps 0

  -- after n moves from a place, the cart stands in a cell of the goal's sector whose byte reads as goal, in sight or portal goal
  pub record StandsThere (n : ℕ) (p : Place) : Type 0 where
    pub cell : ℕ
    pub inside : cell < 100
    pub walk : FloorWalk sheet n p (place_of goal_sector cell)
    pub arrived : is_arrival (get_or (part sheet goal_sector) cell 0) ≡ true

  -- the way from a place into the goal's sector, and what that sector's numbers of moves say of the rest
  pub record WholeWay (moves : List ℕ) (p : Place) : Type 0 where
    pub crossed : ℕ
    pub few : crossed ≤ 1500
    pub entry : ℕ
    pub inside : entry < 100
    pub reached : Reached (built_at true floor steps 0) entry
    pub walk : FloorWalk sheet crossed p (place_of goal_sector entry)
    -- a number below 255 in the cell where the cart comes in: after so many moves more it has arrived
    pub arrives : (n : ℕ) → n < 255 → get_or moves entry 0 ≡ n → StandsThere (crossed + n) p
    -- 255 there: no number of moves inside that sector arrives
    pub not_ever : get_or moves entry 0 ≡ 255 → (n : ℕ) → Comes (part sheet goal_sector) n entry → ⊥

-- Where the sheet is the goal's sector of a leg whose arrows lead into that sector, as those of every planned leg do, one look at that sector's numbers
-- tells the whole way, from every reached cell of every other sector of the leg, with no cost 0 in the sectors that are walked through.
pub record LegTold (bytes moves : List ℕ) : Type 0 where
  pub whole_way : (floor : List ℕ) (steps : List (List ℕ)) (sheet : List ℕ) → LegArrives floor steps sheet → bytes ≡ part sheet (sector_at steps 0)
      → (k : ℕ) → 1 ≤ k → k < length steps → NoZero floor steps k → (x : ℕ) → x < 100 → Reached (built_at true floor steps k) x
      → WholeWay floor steps sheet moves (place_of (sector_at steps k) x)
