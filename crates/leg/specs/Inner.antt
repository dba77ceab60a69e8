-- What planning the steps does: the contracts of the leg's own functions, no part of what is promised.
-- Assumes nothing.
use Rattle.std.specs.Prelude.{◌≡◌, List, ℕ, ◌<◌, length}
use Rattle.route.specs.declared.Target as program
use Rattle.route.specs.Step.{step_number}
use Rattle.route.specs.Inner.{TargetHeld}

-- what a step's field is built from: a floor of 64 sectors, one of them, and a target inside it
pub record StepReady (floor : List ℕ) (sector : ℕ) (target : program.Target) : Type 0 where
  pub floor_full : length floor ≡ 6400
  pub sector_in : sector < 64
  pub target_held : TargetHeld target

-- where a step is written: a floor of 64 sectors, a step that is not refused before it is planned, and a sheet of that floor
pub record WriteReady (floor step sheet : List ℕ) : Type 0 where
  pub floor_full : length floor ≡ 6400
  pub accepted : step_number step ≡ 0
  pub sheet_full : length sheet ≡ 6400
