-- What demand 3 says of costs and a target: the started field, once built.
-- Assumes nothing.
use Rattle.std.specs.Prelude.{◌≡◌, List, ℕ}
use Rattle.route.specs.Target.{Target, GoalCell, target_of}
use Rattle.integration_field.specs.declared.IntegrationField.{IntegrationField}
use Rattle.integration_field.specs.declared.BuildAnswer.{BuildAnswer}
use Rattle.integration_field.specs.Listed.{list_of}
use Rattle.integration_field.specs.Built.{built_field, wave_count}
use Rattle.integration_field.specs.Promise.{Counted, EarliestCorners}
use Rattle.integration_started.specs.Started.{started, init_number}
use Rattle.integration_walks.specs.Walks.{Wall, StartedLeast}

-- `built` are the cells after building, `waves` the count answered
pub record Demand3 (costs : List ℕ) (target : Target) (built : List ℕ) (waves : ℕ) : Type 0 where
  pub least : StartedLeast costs (started costs target).field (list_of (started costs target)) (Wall costs target) (GoalCell target) built
  pub counted : Counted costs (started costs target).field (list_of (started costs target)) built waves

-- Each cell of the started field, once built, holds the position of the earliest corner with a walk arriving at its cost (02, "Job 10").
abbrev pub StartedPositions : List ℕ → Target → List ℕ → List ℕ → Type 0
StartedPositions costs target built positions =
    EarliestCorners costs (started costs target).field (list_of (started costs target)) built positions

-- of `init`: a field that it answers, once built
abbrev pub OnceBuilt : List ℕ → Target → IntegrationField → Type 0
OnceBuilt costs target f = Demand3 costs target (built_field costs f).field (wave_count costs f)

-- a field with the cells and the list of another, whatever its positions
pub record SameStart (f g : IntegrationField) : Type 0 where
  pub cells_same : f.field ≡ g.field
  pub list_same : f.los_corners ≡ g.los_corners
  pub count_same : f.count ≡ g.count

-- of `build`: where the field given has the values, flags and list of `init`'s for these costs and a step that it accepts (01: a started field), the
-- call is accepted, and demand 3 holds of its answer
pub record BuildsStarted (costs : List ℕ) (f : IntegrationField) (r : BuildAnswer) : Type 0 where
  pub started_built : (step : List ℕ) → init_number costs step ≡ 0 → SameStart f (started costs (target_of step))
      → (r.number ≡ 0) × Demand3 costs (target_of step) r.field.field r.waves
