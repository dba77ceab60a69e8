-- Number 15 of a leg (02, "Job 2": a window with no counting cell), by the cells that count as rows and columns tell them, and not by the list that is
-- made of them.
-- Assumes nothing.
use Rattle.std.specs.Prelude.{◌≡◌, Bool, List, ℕ, suc, ◌<◌, length}
use Rattle.route.specs.Table.{first_number}
use Rattle.step_list.specs.Steps.{steps_of, step_of}
use Rattle.leg_counting.specs.Counting.{CountingCell}
use Rattle.leg_plan.specs.Leg.{judged_rows}
use Rattle.leg_plan.specs.Promise.{built_at}

-- A leg is refused with 15 exactly then: no number before it is due, which are 1, 2 and 3, of each step 4 to 8 and 16, and 9 and 10; and of some step behind
-- the first no window cell counts, by the built field of the step before.
pub record LegClosed (sight : Bool) (floor steps sheet : List ℕ) : Type 0 where
  pub judged : first_number (judged_rows floor steps sheet) ≡ 0
  pub before : ℕ
  pub inside : suc before < length (steps_of steps)
  pub none : (x : ℕ) → CountingCell (step_of (steps_of steps) (suc before)) (built_at sight floor (steps_of steps) before) x → ⊥
