-- The number of the call for window costs, down the table.
--     step_number_law     of a step: 20 decides where 4 to 8 and 16 do not
--     accepted_among  a step that is not refused among the windows of a sector
--     ready           what an accepted call is given
-- Assumes nothing.
use mathlib.Core.Path.{◌≡◌, refl, sym, ap, ◌∙◌}
use mathlib.Core.Bool.{Bool, true, false, not, cond, ◌&&◌, ◌||◌}
use mathlib.Core.List.{List, [], ◌∷◌}
use Prim.Native.Nat.{ℕ, zero, suc, ◌/◌, ◌%◌, ◌<◌}
use native.Mathlib.Omega.{arith}
use lib.Dec.{ltb, eqb}
use lib.ListN.{length, get_or}
use borrow.Author.Tests.{ltb-false, eqb-true, eqb-false}
use Rattle.route.specs.Table.{first_number}
use Rattle.route.specs.Window.{on_edge}
use Rattle.route.specs.Step.{sector_of, goal_of, mark_of, first_of, last_of, boundary_byte, boundary_of, is_goal, is_window, targets_wall, each_step_on}
use Rattle.route.proofs.Walls.{each_step_on_law, accepted_on}
use Rattle.step_list.specs.Steps.{steps_of, step_of}
use Rattle.step_list.specs.Inner.{step_at}
use Rattle.step_list.proofs.Steps.{steps_count, step_of_law, step_long}
use Rattle.window_square.specs.Square.{no_window_of, window_step_number, window_step_rows, window_costs_number}
use Rattle.window_square.specs.Inner.{WindowsReady}

-- ---- a step

-- the lines 4 to 8 and 16, and what is below them
ladder : (b₄ b₅ b₆ b₇ b₈ b₁₆ : Bool) → ℕ → ℕ
ladder b₄ b₅ b₆ b₇ b₈ b₁₆ rest = cond b₄ 4 (cond b₅ 5 (cond b₆ 6 (cond b₇ 7 (cond b₈ 8 (cond b₁₆ 16 rest)))))

-- what is below them decides where none of them does
lines : (b₄ b₅ b₆ b₇ b₈ b₁₆ : Bool) (rest : ℕ)
    → ladder b₄ b₅ b₆ b₇ b₈ b₁₆ rest ≡ cond (eqb (ladder b₄ b₅ b₆ b₇ b₈ b₁₆ 0) 0) rest (ladder b₄ b₅ b₆ b₇ b₈ b₁₆ 0)
unfolding ladder
lines true b₅ b₆ b₇ b₈ b₁₆ rest = refl
lines false true b₆ b₇ b₈ b₁₆ rest = refl
lines false false true b₇ b₈ b₁₆ rest = refl
lines false false false true b₈ b₁₆ rest = refl
lines false false false false true b₁₆ rest = refl
lines false false false false false true rest = refl
lines false false false false false false rest = refl

module _ (costs : List ℕ) (sector : ℕ) where
  pub step_number_law : (s : List ℕ)
      → window_step_number costs sector s ≡ cond (eqb (each_step_on costs s) 0) (cond (no_window_of sector s) 20 0) (each_step_on costs s)
  unfolding window_step_number each_step_on ladder
  step_number_law s =
      lines (ltb 63 (sector_of s) || ltb 1 (mark_of s) || not (eqb (get_or s 6 0) 0) || not (eqb (get_or s 7 0) 0))
      (is_goal s && ltb 99 (goal_of s))
      (is_window s && (ltb 99 (first_of s) || ltb 99 (last_of s) || ltb 3 (boundary_byte s)))
      (is_window s && not (on_edge (boundary_of s) (first_of s) && on_edge (boundary_of s) (last_of s)))
      (is_window s && ltb (last_of s) (first_of s))
      (targets_wall costs s)
      (cond (no_window_of sector s) 20 0)

  pub accepted_among : (s : List ℕ) → window_step_number costs sector s ≡ 0 → (each_step_on costs s ≡ 0) × (is_window s ≡ true)
  accepted_among s z = go (eqb (each_step_on costs s) 0) refl (is_window s) refl (eqb (sector_of s) sector) (sym (step_number_law s) ∙ z)
    where
      go : (a : Bool) → eqb (each_step_on costs s) 0 ≡ a → (b : Bool) → is_window s ≡ b → (d : Bool)
          → cond a (cond (not b || not d) 20 0) (each_step_on costs s) ≡ 0 → (each_step_on costs s ≡ 0) × (is_window s ≡ true)
      go true p true q d e = (eqb-true (each_step_on costs s) 0 p, q)
      go true p false q d e = absurd (omega arith)
      go false p b q d e = absurd (eqb-false (each_step_on costs s) 0 p e)

  -- each step of a list of which none is refused
  each_good : (ss : List (List ℕ)) → first_number (window_step_rows costs sector ss) ≡ 0 → (k : ℕ) → k < length ss
      → window_step_number costs sector (get_or ss k []) ≡ 0
  each_good [] e k h = absurd (omega arith)
  each_good (s ∷ ss) e k h = go (eqb (window_step_number costs sector s) 0) refl e k h (each_good ss)
    where
      go : (b : Bool) → eqb (window_step_number costs sector s) 0 ≡ b
          → cond (not b) (window_step_number costs sector s) (first_number (window_step_rows costs sector ss)) ≡ 0 → (k : ℕ) → k < length (s ∷ ss)
          → (first_number (window_step_rows costs sector ss) ≡ 0 → (j : ℕ) → j < length ss → window_step_number costs sector (get_or ss j []) ≡ 0)
          → window_step_number costs sector (get_or (s ∷ ss) k []) ≡ 0
      go true q e zero h f = eqb-true (window_step_number costs sector s) 0 q
      go true q e (suc j) h f = f e j (omega arith)
      go false q e k h f = absurd (eqb-false (window_step_number costs sector s) 0 q e)

-- ---- the call

module _ (costs steps : List ℕ) where
  pub ready : window_costs_number costs steps ≡ 0 → WindowsReady costs steps
  unfolding window_costs_number
  ready =
      go (eqb (length costs) 100) (eqb (length steps % 8) 0) (ltb (length (steps_of steps)) 2) (ltb 8 (length (steps_of steps))) refl refl refl refl
    where
      go : (a b c d : Bool) → eqb (length costs) 100 ≡ a → eqb (length steps % 8) 0 ≡ b → ltb (length (steps_of steps)) 2 ≡ c
          → ltb 8 (length (steps_of steps)) ≡ d
          → cond (not a) 1 (cond (not b) 3 (cond (c || d) 19 (first_number (window_step_rows costs (sector_of (step_of (steps_of steps) 0)) (steps_of steps)))))
          ≡ 0
          → WindowsReady costs steps
      go false b c d p q r s e = absurd (omega arith)
      go true false c d p q r s e = absurd (omega arith)
      go true true true d p q r s e = absurd (omega arith)
      go true true false true p q r s e = absurd (omega arith)
      go true true false false p q r s e =
          let n = steps_count steps in
          let good : (k : ℕ) → k < length steps / 8 → (each_step_on costs (step_at steps k) ≡ 0) × (is_window (step_at steps k) ≡ true)
          = λ k h. accepted_among costs _ (step_at steps k)
          (ap (window_step_number costs (sector_of (step_of (steps_of steps) 0))) (sym (step_of_law steps k h))
          ∙ each_good costs _ (steps_of steps) e k (omega arith)) in
          record {
            costs_hundred = eqb-true (length costs) 100 p;
            some = omega (arith, n, ltb-false (length (steps_of steps)) 2 r);
            few = omega (arith, n, ltb-false 8 (length (steps_of steps)) s);
            each = record {
              accepted = λ k h. accepted_on costs (step_at steps k) (each_step_on_law costs (step_at steps k) (step_long steps k h) ∙ (good k h).0);
              windows = λ k h. (good k h).1;
            };
          }
