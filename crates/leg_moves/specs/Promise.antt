-- What is promised of a cart's calls: the number and each outcome exactly where their conditions hold, on every sheet; and on the sheet of a planned leg.
-- Assumes nothing.
use Rattle.std.specs.Prelude.{◌≡◌, Bool, true, false, ◌↔◌, List, ℕ, zero, suc, ◌≤◌, ◌<◌, length, get_or}
use Rattle.route.specs.Step.{goal_of}
use Rattle.flow_arrows.specs.Arrows.{Reached}
use Rattle.step_list.specs.Steps.{step_of, steps_of}
use Rattle.leg_plan.specs.Leg.{leg_number_by, leg_sheet_by}
use Rattle.leg_plan.specs.Promise.{sector_at, built_at}
use Rattle.leg_journey.specs.Place.{Place, place_of, FloorMove, FloorWalk}
use Rattle.leg_journey.specs.Journey.{Journey, NoZero, NoZeroFrom}
use Rattle.leg_moves.specs.declared.CartMove.{CartMove}
use Rattle.leg_moves.specs.declared.CartWay.{CartWay}
use Rattle.leg_moves.specs.Moving.{ReadsGoal, ReadsSight, ReadsNeither, byte_at, Still, StandsAfter, StandsWhere, ComesAgain}
use Rattle.leg_moves.specs.Answers.{move_answer}

-- ---- the number of both calls

-- what is accepted: a floor's sheet, and a place of the floor
pub record CartAccepted (sheet : List ℕ) (sector cell : ℕ) : Type 0 where
  pub full : length sheet ≡ 6400
  pub sector_in : sector < 64
  pub cell_in : cell < 100

pub record CartNumbered (sheet : List ℕ) (sector cell n : ℕ) : Type 0 where
  pub accepted : (n ≡ 0) ↔ CartAccepted sheet sector cell
  pub two : (n ≡ 2) ↔ (length sheet ≡ 6400 → ⊥)
  pub four : (n ≡ 4) ↔ ((length sheet ≡ 6400) × (64 ≤ sector))
  pub five : (n ≡ 5) ↔ ((length sheet ≡ 6400) × ((sector < 64) × (100 ≤ cell)))

-- every other part of a refusal is zero
pub record MoveRefused (r : CartMove) : Type 0 where
  pub outcome_zero : r.outcome ≡ 0
  pub sector_zero : r.sector ≡ 0
  pub cell_zero : r.cell ≡ 0

pub record WayRefused (r : CartWay) : Type 0 where
  pub outcome_zero : r.outcome ≡ 0
  pub sector_zero : r.sector ≡ 0
  pub cell_zero : r.cell ≡ 0
  pub moves_zero : r.moves ≡ 0

-- ---- the outcomes

-- the place that is answered
abbrev pub moved_to : CartMove → Place
moved_to r = place_of r.sector r.cell

abbrev pub came_to : CartWay → Place
came_to r = place_of r.sector r.cell

-- one move from a place
pub record MoveTold (sheet : List ℕ) (p : Place) (r : CartMove) : Type 0 where
  -- moved, to a place, exactly where the arrow points at that place, on the floor
  pub moved : (q : Place) → ((r.outcome ≡ 1) × (moved_to r ≡ q)) ↔ FloorMove sheet p q
  -- arrived, in sight or stopped exactly where no move leads on, by what the byte reads as
  pub arrived : (r.outcome ≡ 2) ↔ (Still sheet p × ReadsGoal (byte_at sheet p))
  pub in_sight : (r.outcome ≡ 3) ↔ (Still sheet p × ReadsSight (byte_at sheet p))
  pub stopped : (r.outcome ≡ 0) ↔ (Still sheet p × ReadsNeither (byte_at sheet p))
  -- and no other outcome is answered; a cart that does not move keeps its place
  pub outcomes : r.outcome ≤ 3
  pub keeps : (r.outcome ≡ 1 → ⊥) → moved_to r ≡ p
  -- what is answered may be handed in again: a sector of the floor, and a cell of it
  pub sector_in : r.sector < 64
  pub cell_in : r.cell < 100

-- the moves until the cart stands still
pub record WayTold (sheet : List ℕ) (p : Place) (r : CartWay) : Type 0 where
  -- an outcome other than never, with a number of moves and a place, exactly where so many moves lead to that place and none leads on
  pub stands : (n : ℕ) (q : Place) → ((r.outcome ≡ 4 → ⊥) × ((r.moves ≡ n) × (came_to r ≡ q))) ↔ (FloorWalk sheet n p q × Still sheet q)
  -- arrived, in sight or stopped exactly where it comes to stand still, by what the byte there reads as
  pub arrived : (r.outcome ≡ 2) ↔ StandsWhere sheet ReadsGoal p
  pub in_sight : (r.outcome ≡ 3) ↔ StandsWhere sheet ReadsSight p
  pub stopped : (r.outcome ≡ 0) ↔ StandsWhere sheet ReadsNeither p
  -- never, exactly where the cart stands still after no number of moves, however large, and so exactly where it comes again to a place where it was;
  -- with its own place, and no moves
  pub not_ever : (r.outcome ≡ 4) ↔ ((n : ℕ) → StandsAfter sheet n p → ⊥)
  pub again : (r.outcome ≡ 4) ↔ ComesAgain sheet p
  pub keeps : r.outcome ≡ 4 → (came_to r ≡ p) × (r.moves ≡ 0)
  -- and no other outcome is answered, moved neither
  pub outcomes : r.outcome ≤ 4
  pub not_moved : r.outcome ≡ 1 → ⊥
  -- in at most 6,399 moves
  pub few : r.moves ≤ 6399
  -- to a sector of the floor, and a cell of it
  pub sector_in : r.sector < 64
  pub cell_in : r.cell < 100

-- ---- on the sheet of a planned leg

-- So many calls, one after the other, each for the place that the one before answered, all of them answered with moved.
pub data Drives (sheet : List ℕ) : ℕ → ℕ → ℕ → ℕ → ℕ → Type 0 where
  rests : {sector cell : ℕ} → Drives sheet zero sector cell sector cell
  drives : {n sector cell to-sector to_cell : ℕ} → (move_answer sheet sector cell).outcome ≡ 1
      → Drives sheet n (move_answer sheet sector cell).sector (move_answer sheet sector cell).cell to-sector to_cell
      → Drives sheet (suc n) sector cell to-sector to_cell

-- A sheet that a planned leg leaves, with the sight of its goal or without; the costs of a floor are bytes.
pub record LegSheet (sight : Bool) (floor steps before sheet : List ℕ) : Type 0 where
  pub byte : (i : ℕ) → get_or floor i 0 ≤ 255
  pub number : leg_number_by sight floor steps before ≡ 0
  pub is : sheet ≡ leg_sheet_by sight floor steps before

-- With sight: from every reached cell of every sector but the goal's, with no cost 0 in the sectors that are driven through, so many moves one after the other
-- come into a reached cell of the goal's sector. They are those of the leg's `arrives`.
pub record DrivenIn (floor : List ℕ) (steps : List (List ℕ)) (sheet : List ℕ) (k x : ℕ) : Type 0 where
  pub moves : ℕ
  pub few : moves ≤ 1500
  pub journey : Journey true floor steps sheet moves k (place_of (sector_at steps k) x)
  pub cell : ℕ
  pub inside : cell < 100
  pub reached : Reached (built_at true floor steps 0) cell
  pub drives : Drives sheet moves (sector_at steps k) x (sector_at steps 0) cell

-- Without sight: from every reached cell of every sector, with no cost 0 in them, they come to the goal, and there a move is answered with arrived.
pub record DrivenToGoal (floor : List ℕ) (steps : List (List ℕ)) (sheet : List ℕ) (k x : ℕ) : Type 0 where
  pub moves : ℕ
  pub few : moves ≤ 1599
  pub journey : Journey false floor steps sheet moves k (place_of (sector_at steps k) x)
  pub drives : Drives sheet moves (sector_at steps k) x (sector_at steps 0) (goal_of (step_of steps 0))
  pub arrived : (move_answer sheet (sector_at steps 0) (goal_of (step_of steps 0))).outcome ≡ 2

pub record LegDriven (sheet : List ℕ) : Type 0 where
  pub into : (floor steps before : List ℕ) → LegSheet true floor steps before sheet → (k : ℕ) → 1 ≤ k → k < length (steps_of steps)
      → NoZero floor (steps_of steps) k → (x : ℕ) → x < 100 → Reached (built_at true floor (steps_of steps) k) x → DrivenIn floor (steps_of steps) sheet k x
  pub to_goal : (floor steps before : List ℕ) → LegSheet false floor steps before sheet → (k : ℕ) → k < length (steps_of steps)
      → NoZeroFrom 0 floor (steps_of steps) k → (x : ℕ) → x < 100 → Reached (built_at false floor (steps_of steps) k) x
      → DrivenToGoal floor (steps_of steps) sheet k x

-- and the way from there is answered with arrived, at the goal
pub record AtGoal (steps : List (List ℕ)) (r : CartWay) : Type 0 where
  pub outcome_is : r.outcome ≡ 2
  pub few : r.moves ≤ 1599
  pub sector_is : r.sector ≡ sector_at steps 0
  pub cell_is : r.cell ≡ goal_of (step_of steps 0)

pub record WayToGoal (sheet : List ℕ) (sector cell : ℕ) (r : CartWay) : Type 0 where
  pub arrives : (floor steps before : List ℕ) → LegSheet false floor steps before sheet → (k : ℕ) → k < length (steps_of steps)
      → NoZeroFrom 0 floor (steps_of steps) k → sector ≡ sector_at (steps_of steps) k → Reached (built_at false floor (steps_of steps) k) cell
      → AtGoal (steps_of steps) r
