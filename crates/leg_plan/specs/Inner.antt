-- What is known where a leg is planned: for the leg's own functions and their proofs, no part of what is promised.
-- Assumes nothing.
use Rattle.std.specs.Prelude.{◌≡◌, false, List, ℕ, ◌/◌, ◌<◌, length}
use Rattle.route.specs.Step.{step_number}
use Rattle.step_list.specs.Steps.{steps_of}
use Rattle.step_list.specs.Inner.{step_at}
use Rattle.leg_plan.specs.Leg.{names_twice}

-- a leg of which nothing is refused before a step is planned
pub record LegReady (floor steps : List ℕ) : Type 0 where
  pub floor_full : length floor ≡ 6400
  pub accepted : (k : ℕ) → k < length steps / 8 → step_number (step_at steps k) ≡ 0
  pub named_once : names_twice (steps_of steps) ≡ false
