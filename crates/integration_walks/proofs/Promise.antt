-- Demand 3 for every target inside the sector, of the started field as it is defined.
--     accepts_started    the started field is one that `build` takes
--     started_ground     what its cells are, as far as walks go
--     started_walks      its least walks, once built
--     started_positions  its positions, once built
--     demand3            the same in demand 3's words, and the exact count
--     goal_told          of a goal without sight: its costs are least walks from the goal, and its positions
--     built, builds      what `build` answers for it, and the same of that answer
--     builds_started     as it is promised of `build`
--     once_built         as it is promised of `init`
-- Assumes nothing.
use mathlib.Core.Path.{◌≡◌, refl, subst, ◌∙◌}
use mathlib.Core.Bool.{true}
use mathlib.Core.List.{List, [], ◌∷◌, Memᴰ}
use Prim.Native.Nat.{ℕ, zero, suc, ◌<◌, ◌≤◌}
use native.Mathlib.Omega.{arith}
use lib.ListN.{get_or, length}
use borrow.Author.Tests.{lt-ltb}
use Rattle.route.specs.Target.{Target, to_goal, to_window, to_corner, GoalCell, TargetIn, target_of}
use Rattle.integration_field.specs.Listed.{list_of}
use Rattle.integration_field.specs.declared.IntegrationField.{IntegrationField}
use Rattle.integration_field.specs.declared.BuildAnswer.{BuildAnswer}
use Rattle.integration_field.specs.Build.{build}
use Rattle.integration_field.specs.Answer.{answer_of, all_cells, Accepted, build_number, build_answer}
use Rattle.integration_field.specs.Position.{positions}
use Rattle.integration_field.specs.Promise.{LeastWalks, EarliestCorners}
use Rattle.integration_field.proofs.Answers.{number_accepted}
use Rattle.integration_started.specs.declared.InitAnswer.{InitAnswer}
use Rattle.integration_field.proofs.Least.{least_walks, waves_counted}
use Rattle.integration_field.proofs.Position.{positions_told}
use Rattle.integration_started.specs.Started.{started, StartedCells, StartedField, init_answer}
use Rattle.integration_started.specs.StartedCell.{CornerStarted}
use Rattle.integration_started.proofs.Started.{started_field, accepted_target, answered}
use Rattle.integration_walks.specs.Walks.{Wall}
use Rattle.integration_walks.specs.Promise.{Demand3, StartedPositions, OnceBuilt, SameStart, BuildsStarted}
use Rattle.integration_walks.specs.Goal.{GoalCosts, GoalPositions}
use Rattle.integration_walks.proofs.Started.{Ground, started_least}
use Rattle.integration_walks.proofs.Ground.{mem_among, goal_ground, window_ground, corner_ground}
use Rattle.integration_walks.proofs.Goal.{goal_costs, goal_positions}

all_below : (l : List ℕ) → ((i : ℕ) → i < length l → get_or l i 0 < 100) → all_cells l ≡ true
unfolding all_cells
all_below [] h = refl
all_below (x ∷ xs) h = rw (lt-ltb x 100 (h zero (omega arith))) (all_below xs (λ i g. h (suc i) (omega arith)))

-- fields that start alike are built alike: building reads no positions
any_positions : (costs : List ℕ) (g : IntegrationField) (positions : List ℕ) (n : ℕ)
    → answer_of n costs (record { field = g.field; los_corners = g.los_corners; count = g.count; positions = positions }) ≡ answer_of n costs g
any_positions costs g positions zero = refl
any_positions costs g positions (suc n) = refl

same_answer : (costs : List ℕ) (f g : IntegrationField) → SameStart f g → build_answer costs f ≡ build_answer costs g
unfolding build_number
same_answer costs f g e = rw (e.cells_same, e.list_same, e.count_same) (any_positions costs g f.positions (build_number costs g))

-- what a started field's cells and corners are, by the kind of the target
module _ (costs : List ℕ) (full : length costs ≡ 100) (cells corners : List ℕ) where
  long : (target : Target) → StartedCells costs target cells corners → length cells ≡ 100
  long (to_goal goal) s = s.full
  long (to_window window) s = s.full
  long (to_corner goal) s = s.full

  within : (target : Target) → StartedCells costs target cells corners → (i : ℕ) → i < length corners → get_or corners i 0 < 100
  within (to_goal goal) s = s.corner_in
  within (to_window window) s = s.corner_in
  within (to_corner goal) s = s.corner_in

  ground : (target : Target) → StartedCells costs target cells corners → Ground costs cells corners (Wall costs target) (GoalCell target)
  ground (to_goal goal) s = goal_ground costs full cells corners goal s
  ground (to_window window) s = window_ground costs full cells corners window s
  ground (to_corner goal) s = corner_ground costs full cells corners goal s

module _ (costs : List ℕ) (target : Target) (full : length costs ≡ 100) (target_in : TargetIn target) where
  abbrev cells : List ℕ
  cells = (started costs target).field

  abbrev corners : List ℕ
  corners = list_of (started costs target)

  told : StartedField costs target (started costs target)
  told = started_field costs full target target_in

  below : (i : ℕ) → i < length corners → get_or corners i 0 < 100
  below = within costs full cells corners target told.cells_are

  inside : (x : ℕ) → Memᴰ x corners → x < 100
  inside x m = let a = mem_among x corners m in subst (λ (n : ℕ). n < 100) a.2 (below a.0 a.1)

  pub accepts_started : Accepted costs (started costs target)
  accepts_started = record { costs_hundred = full; count_in = told.list_fits; corners_in = all_below corners below }

  hundred : length cells ≡ 100
  hundred = long costs full cells corners target told.cells_are

  pub started_ground : Ground costs cells corners (Wall costs target) (GoalCell target)
  started_ground = ground costs full cells corners target told.cells_are

  pub started_walks : LeastWalks costs cells corners (build costs cells corners).cells
  started_walks = least_walks costs cells corners hundred inside

  pub started_positions : StartedPositions costs target (build costs cells corners).cells (positions costs cells corners)
  started_positions = positions_told costs cells corners hundred inside

  pub demand3 : Demand3 costs target (build costs cells corners).cells (build costs cells corners).waves
  demand3 = record {
    least = started_least costs cells corners (Wall costs target) (GoalCell target) started_ground (build costs cells corners).cells started_walks;
    counted = waves_counted costs cells corners hundred inside;
  }

  -- built by `build`, which does not read positions
  pub built : (f : IntegrationField) → SameStart f (started costs target) → build_answer costs f ≡ answer_of 0 costs (started costs target)
  built f e = same_answer costs f (started costs target) e ∙ rw (number_accepted costs (started costs target) accepts_started)

  pub builds : (f : IntegrationField) (r : BuildAnswer) → r ≡ build_answer costs f → SameStart f (started costs target)
      → (r.number ≡ 0) × Demand3 costs target r.field.field r.waves
  builds f r e q = rw (e ∙ built f q) (refl, demand3)

-- of a goal without sight; costs are bytes
module _ (costs : List ℕ) (goal : ℕ) (full : length costs ≡ 100) (goal_in : goal < 100) (byte : (x : ℕ) → x < 100 → get_or costs x 0 ≤ 255) where
  abbrev field : IntegrationField
  field = started costs (to_corner goal)

  abbrev built_cells_law : List ℕ
  built_cells_law = (build costs field.field (list_of field)).cells

  pub goal_told : GoalCosts costs goal built_cells_law × GoalPositions costs goal built_cells_law (positions costs field.field (list_of field))
  goal_told =
      let c = (started_field costs full (to_corner goal) goal_in).cells_are in
      let at = subst (CornerStarted costs goal field.field) c.list c in
      let least = subst (λ (l : List ℕ). LeastWalks costs field.field l built_cells_law) c.list (started_walks costs (to_corner goal) full goal_in) in
      let told = started_positions costs (to_corner goal) full goal_in in (
        goal_costs costs goal field.field at byte built_cells_law least,
        goal_positions costs goal field.field at byte built_cells_law least (positions costs field.field (list_of field))
            (subst (λ (l : List ℕ). EarliestCorners costs field.field l built_cells_law (positions costs field.field (list_of field))) c.list told),
      )

pub builds_started : (costs : List ℕ) (f : IntegrationField) (r : BuildAnswer) → r ≡ build_answer costs f → BuildsStarted costs f r
builds_started costs f r e = record {
  started_built = λ step good q. (let a = accepted_target costs step good in builds costs (target_of step) a.0 a.1 f r e q);
}

pub once_built : (costs step : List ℕ) (r : InitAnswer) → r ≡ init_answer costs step → r.number ≡ 0 → OnceBuilt costs (target_of step) r.field
once_built costs step =
    answered costs step (OnceBuilt costs (target_of step)) (λ good. let a = accepted_target costs step good in demand3 costs (target_of step) a.0 a.1)
