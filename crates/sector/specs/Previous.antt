-- Numbers 16 and 17 of the sector call (02, "Job 3" and "Job 8"), by the step's cells and its mark, and not by the table's lines.
-- Assumes nothing.
use Rattle.std.specs.Prelude.{◌≡◌, Bool, false, List, ℕ, length}
use Rattle.route.specs.Step.{mark_of, step_number, step_number_on}
use Rattle.route.specs.Target.{StepOnWall}

-- A sector call is refused with 17 exactly then: 1, 2, 3 to 8 and 16 are not due, the step has a window, however
-- long, and no previous field is lent, whatever numbers stand in its place.
pub record WithoutPrevious (costs step : List ℕ) (has : Bool) (sheet : List ℕ) : Type 0 where
  pub costs_hundred : length costs ≡ 100
  pub sheet_hundred : length sheet ≡ 100
  pub step_taken : step_number_on costs step ≡ 0
  pub mark : mark_of step ≡ 1
  pub none_lent : has ≡ false

-- A sector call is refused with 16 exactly then: 1, 2 and 3 to 8 are not due, and the goal, or a window cell, has cost 255.
pub record TargetOnWall (costs step sheet : List ℕ) : Type 0 where
  pub costs_hundred : length costs ≡ 100
  pub sheet_hundred : length sheet ≡ 100
  pub step_good : step_number step ≡ 0
  pub wall : StepOnWall costs step
