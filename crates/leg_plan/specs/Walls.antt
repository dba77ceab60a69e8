-- Number 16 of a leg and of its step, by places of the floor (02, "Job 3"), and not by the costs that are cut for a sector.
-- Assumes nothing.
use Rattle.std.specs.Prelude.{◌≡◌, false, List, [], ℕ, ◌+◌, ◌*◌, ◌<◌, length, get_or}
use Rattle.route.specs.Step.{sector_of, step_number, no_step_list}
use Rattle.route.specs.Target.{StepGoal, StepWindow}
use Rattle.step_list.specs.Steps.{steps_of}
use Rattle.leg_plan.specs.Leg.{floor_number}

-- The goal, or a window cell, of a step has cost 255: cell x of sector s stands at s * 100 + x. That a step of a leg is refused with 16 exactly
-- then, where 4 to 8 are not due, is `floor_told`, `proofs/Walls.antt`.
pub data FloorWall (floor step : List ℕ) : Type 0 where
  goal_on : (x : ℕ) → StepGoal step x → get_or floor (sector_of step * 100 + x) 0 ≡ 255 → FloorWall floor step
  window_on : (x : ℕ) → StepWindow step x → get_or floor (sector_of step * 100 + x) 0 ≡ 255 → FloorWall floor step

-- A leg is refused with 16 (`leg_told`, `proofs/Walls.antt`): 1, 2 and 3 are not due, and some step has a goal or a window cell on a wall and is
-- not refused with 4 to 8, nor is any step before it refused. Whether 9, 10, 15 or any number of a later step is due is not asked.
pub record LegOnWall (floor steps sheet : List ℕ) : Type 0 where
  pub floor_full : length floor ≡ 6400
  pub sheet_full : length sheet ≡ 6400
  pub list : no_step_list steps ≡ false
  pub place : ℕ
  pub inside : place < length (steps_of steps)
  pub taken : step_number (get_or (steps_of steps) place []) ≡ 0
  pub wall : FloorWall floor (get_or (steps_of steps) place [])
  pub before : (j : ℕ) → j < place → floor_number floor (get_or (steps_of steps) j []) ≡ 0
