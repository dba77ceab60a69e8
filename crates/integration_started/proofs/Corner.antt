-- What each cell of a field started with a goal and without sight is.
-- Assumes nothing.
use mathlib.Core.Path.{◌≡◌, refl}
use mathlib.Core.List.{List, [], ◌∷◌}
use Prim.Native.Nat.{ℕ, zero, suc, ◌<◌}
use native.Mathlib.Omega.{arith}
use lib.ListN.{length, get_or}
use Rattle.integration_field.specs.Word.{is_los, is_goal}
use Rattle.integration_started.specs.Sight.{walls, with_goal}
use Rattle.integration_started.specs.StartedCell.{CornerStarted}
use Rattle.integration_started.proofs.Before.{wall_word, other_word, only_wall, fails, only_chosen}
use Rattle.integration_started.proofs.Waves.{before, start_length, start_goal}

module _ (goal : ℕ) (goal_in : goal < 100) (costs : List ℕ) (hundred : length costs ≡ 100) where
  within : (i : ℕ) → i < 1 → get_or (goal ∷ []) i 0 < 100
  within zero h = goal_in
  within (suc i) h = absurd (omega arith)

  pub corner_started : CornerStarted costs goal (with_goal goal (walls costs)) (goal ∷ [])
  corner_started = record {
    full = start_length goal goal_in costs hundred;
    list = refl;
    corner_in = within;
    goal_stays = record {
      goal_cell = start_goal goal goal_in costs hundred;
      goal_only = λ i h. only_chosen costs _ _ is_goal refl refl i _ (before goal goal_in costs hundred i h);
    };
    wall_cell = λ i h. wall_word costs _ _ i _ (before goal goal_in costs hundred i h);
    wall_only = λ i h. only_wall costs _ _ refl i _ (before goal goal_in costs hundred i h);
    other_cell = λ i h. other_word costs _ _ i _ (before goal goal_in costs hundred i h);
    no_sight = λ i h. fails costs _ _ is_los refl refl refl i _ (before goal goal_in costs hundred i h);
  }
