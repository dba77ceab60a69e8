-- The started field of costs and a target.
--     started_sizes, any_number    100 places and any falling number of at least 100 give the sight that is defined without either
--     started_field                what it is, for every target inside the sector
--     accepted, accepted_target    what an accepted `init` is given
--     answered, answer_told        the same of what `init` answers
--     init_refused_law                 a refused answer, part by part
-- Assumes nothing.
use mathlib.Core.Path.{◌≡◌, refl, sym, ◌∙◌, ap}
use mathlib.Core.Bool.{Bool, true, false, cond, not, true≢false}
use mathlib.Core.List.{List, [], ◌∷◌}
use Prim.Native.Nat.{ℕ, ◌<◌, ◌≤◌}
use native.Mathlib.Omega.{arith}
use lib.Dec.{eqb}
use lib.ListN.{length}
use borrow.Author.Tests.{eqb-true, eqb-false}
use Rattle.route.specs.Step.{step_number, step_number_on}
use Rattle.route.specs.Target.{Target, to_goal, to_window, to_corner, is_sightless, TargetIn, target_of}
use Rattle.route.proofs.Targets.{target_in}
use Rattle.route.proofs.Walls.{accepted_on}
use Rattle.integration_field.specs.declared.IntegrationField.{IntegrationField}
use Rattle.integration_field.specs.Listed.{with_corners}
use Rattle.integration_field.specs.Promise.{ZeroField}
use Rattle.integration_field.proofs.Answers.{zero_field_law}
use Rattle.integration_field.proofs.Lists.{padded_length, padded_beyond, no_position, corners_listed}
use Rattle.integration_started.specs.Sight.{walls, Sight, sight_after}
use Rattle.integration_started.specs.CornerLine.{corner_line}
use Rattle.integration_started.specs.Sizes.{Sizes}
use Rattle.integration_started.specs.Started.{sight_from, started_from, started_at, started_without, started, init_number, init_refused}
use Rattle.integration_started.specs.Started.{init_accepted, init_answer, StartedCells, StartedField}
use Rattle.integration_started.specs.declared.InitAnswer.{InitAnswer}
use Rattle.integration_started.proofs.Waves.{sizes, goal_started}
use Rattle.integration_started.proofs.Window.{window_started}
use Rattle.integration_started.proofs.Corner.{corner_started}
use Rattle.integration_started.proofs.Lines.{corner_lines}

-- a target has one goal, and beside a window none
the_goal_in : Target → ℕ
the_goal_in (to_goal n) = n
the_goal_in (to_window cells) = 0
the_goal_in (to_corner n) = 0

same_goal : {a b : ℕ} → to_goal a ≡ to_goal b → a ≡ b
unfolding the_goal_in
same_goal e = ap the_goal_in e

no_sight : {t : Target} {g : ℕ} → is_sightless t ≡ true → t ≡ to_goal g → ⊥
no_sight s e = true≢false (sym s ∙ ap is_sightless e)

module _ (costs : List ℕ) (hundred : length costs ≡ 100) where
  pub started_sizes : (goal : ℕ) → goal < 100 → Sizes (corner_line goal) (walls costs) goal
  started_sizes goal h = sizes goal h costs hundred (corner_line goal) (corner_lines goal)

  pub any_number : (goal : ℕ) → goal < 100 → (n : ℕ) → 100 ≤ n → sight_after (corner_line goal) (walls costs) goal n ≡ sight_from costs goal
  unfolding sight_from
  any_number goal h n m = (started_sizes goal h).same n m

  -- a field made of cells and corners
  made : (target : Target) (cells corners : List ℕ) → length corners ≤ 100 → StartedCells costs target cells corners
      → ((goal n : ℕ) → target ≡ to_goal goal → 100 ≤ n
      → let s = sight_after (corner_line goal) (walls costs) goal n in with_corners cells corners ≡ with_corners s.cells s.corners)
      → StartedField costs target (with_corners cells corners)
  made target cells corners few told over = record {
    list_fits = few;
    list_full = padded_length corners few;
    list_beyond = padded_beyond corners;
    has_no_positions = no_position;
    cells_are = rw (corners_listed corners cells) told;
    sight_over = over;
  }

  pub started_field : (target : Target) → TargetIn target → StartedField costs target (started costs target)
  unfolding started started_from started_at started_without sight_from
  started_field (to_goal goal) h =
      made (to_goal goal) _ (sight_from costs goal).corners ((started_sizes goal h).corners_fit _)
      (goal_started goal h costs hundred (corner_line goal) (corner_lines goal) _)
      (λ g n e m. over g n (same_goal e) m)
    where
      over : (g n : ℕ) → goal ≡ g → 100 ≤ n
          → let s = sight_after (corner_line g) (walls costs) g n in
          with_corners (sight_from costs goal).cells (sight_from costs goal).corners ≡ with_corners s.cells s.corners
      over g n e m = rw (← e) (ap (λ (s : Sight). with_corners s.cells s.corners) (sym (any_number goal h n m)))
  started_field (to_window window) w =
      made (to_window window) _ window (omega (arith, w.few)) (window_started costs hundred window w.inside w.once)
      (λ g n e m. absurd (no_sight refl e))
  started_field (to_corner goal) h =
      made (to_corner goal) _ (goal ∷ []) (omega arith) (corner_started goal h costs hundred) (λ g n e m. absurd (no_sight refl e))

-- what an accepted `init` is given
pub accepted : (costs step : List ℕ) → init_number costs step ≡ 0 → (length costs ≡ 100) × (step_number step ≡ 0)
unfolding init_number
accepted costs step e = go (eqb (length costs) 100) refl e
  where
    go : (b : Bool) → eqb (length costs) 100 ≡ b → cond (not b) 1 (step_number_on costs step) ≡ 0 → (length costs ≡ 100) × (step_number step ≡ 0)
    go true q z = (eqb-true (length costs) 100 q, accepted_on costs step z)
    go false q z = absurd (omega arith)

-- its costs, and the target of its step
pub accepted_target : (costs step : List ℕ) → init_number costs step ≡ 0 → (length costs ≡ 100) × TargetIn (target_of step)
accepted_target costs step e = let a = accepted costs step e in (a.0, target_in step a.1)

accepted_field : (costs step : List ℕ) → init_number costs step ≡ 0 → StartedField costs (target_of step) (started costs (target_of step))
accepted_field costs step e = let a = accepted_target costs step e in started_field costs a.0 (target_of step) a.1

-- what holds of the started field of an accepted step holds of an answer of `init` whose number is 0
pub answered : (costs step : List ℕ) (P : IntegrationField → Type 0) → (init_number costs step ≡ 0 → P (started costs (target_of step)))
    → (r : InitAnswer) → r ≡ init_answer costs step → r.number ≡ 0 → P r.field
unfolding init_answer
answered costs step P p r e n = go (eqb (init_number costs step) 0) refl e
  where
    go : (b : Bool) → eqb (init_number costs step) 0 ≡ b
        → r ≡ cond b (init_accepted (started costs (target_of step))) (init_refused (init_number costs step)) → P r.field
    go true q f = rw f (p (eqb-true (init_number costs step) 0 q))
    go false q f = absurd (eqb-false (init_number costs step) 0 q (sym (ap (λ (a : InitAnswer). a.number) f) ∙ n))

pub answer_told : (costs step : List ℕ) (r : InitAnswer) → r ≡ init_answer costs step → r.number ≡ 0 → StartedField costs (target_of step) r.field
answer_told costs step = answered costs step (StartedField costs (target_of step)) (accepted_field costs step)

pub init_refused_law : (costs step : List ℕ) (r : InitAnswer) → r ≡ init_answer costs step → (r.number ≡ 0 → ⊥) → ZeroField r.field
unfolding init_answer
init_refused_law costs step r e h = go (eqb (init_number costs step) 0) e
  where
    go : (b : Bool) → r ≡ cond b (init_accepted (started costs (target_of step))) (init_refused (init_number costs step)) → ZeroField r.field
    go true f = absurd (h (ap (λ (a : InitAnswer). a.number) f))
    go false f = zero_field_law (ap (λ (a : InitAnswer). a.field) f)
