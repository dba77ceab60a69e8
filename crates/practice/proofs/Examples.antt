-- Practice floors, computed (02, Job 6). What is expected is what the second implementation gives for that seed (tools/oracle/tests/practice.rs).
-- Assumes nothing.
use Rattle.std.proofs.Common.{◌≡◌, [], ◌∷◌, refl}
use Rattle.practice.specs.declared.PracticeFloor.{PracticeFloor}
use Rattle.practice.specs.Values.{wrapped_sum, next_value, values_to, practice_value}
use Rattle.practice.specs.Floor.{cost_of, drawn_costs, practice_goal, practice_floor}

-- seed 1: the goal's cell, 63, was drawn as a wall
abbrev floor_1 : PracticeFloor
floor_1 =
    record {
      costs =
          1 ∷ 1 ∷ 10 ∷ 255 ∷ 1 ∷ 1 ∷ 10 ∷ 255 ∷ 1 ∷ 1 ∷
          10 ∷ 255 ∷ 255 ∷ 1 ∷ 1 ∷ 10 ∷ 255 ∷ 1 ∷ 1 ∷ 10 ∷
          255 ∷ 1 ∷ 1 ∷ 10 ∷ 255 ∷ 255 ∷ 10 ∷ 10 ∷ 1 ∷ 1 ∷
          1 ∷ 255 ∷ 255 ∷ 10 ∷ 10 ∷ 1 ∷ 1 ∷ 1 ∷ 255 ∷ 255 ∷
          10 ∷ 10 ∷ 1 ∷ 1 ∷ 1 ∷ 255 ∷ 255 ∷ 10 ∷ 10 ∷ 1 ∷
          10 ∷ 1 ∷ 10 ∷ 1 ∷ 1 ∷ 1 ∷ 1 ∷ 1 ∷ 1 ∷ 1 ∷
          10 ∷ 10 ∷ 255 ∷ 1 ∷ 255 ∷ 1 ∷ 1 ∷ 1 ∷ 1 ∷ 1 ∷
          1 ∷ 10 ∷ 255 ∷ 10 ∷ 1 ∷ 255 ∷ 10 ∷ 1 ∷ 1 ∷ 1 ∷
          1 ∷ 1 ∷ 255 ∷ 255 ∷ 255 ∷ 255 ∷ 10 ∷ 10 ∷ 10 ∷ 10 ∷
          10 ∷ 1 ∷ 1 ∷ 1 ∷ 1 ∷ 1 ∷ 1 ∷ 255 ∷ 1 ∷ 1 ∷ [];
      goal = 63;
    }

pub seed_1 : practice_floor 1 ≡ floor_1
unfolding wrapped_sum next_value values_to practice_value cost_of drawn_costs practice_goal practice_floor
seed_1 = refl
