-- A step on its sector's costs: number 16, after 3 to 8 (02, "Job 3").
--     number_on_law                    16 decides where 3 to 8 do not
--     each_step_on_law                 of 8 bytes, 3 does not come
--     accepted_on, refused_on      a step that is not refused on its costs is not refused with 3 to 8; one that is refused with 3 to 8 keeps its number
--     wall_target                  number 16's condition, by the step's target
--     sixteen_told                 a step is refused with 16 exactly if 3 to 8 are not due and its goal or a window cell, by rows and columns, has cost 255
-- Assumes nothing.
use mathlib.Core.Path.{◌≡◌, refl, sym, ◌∙◌}
use mathlib.Core.Bool.{Bool, true, false, true≢false, or-false, not, cond, ◌&&◌, ◌||◌}
use mathlib.Core.Logic.{◌↔◌}
use mathlib.Core.List.Memᴰ
use mathlib.Core.List.{List, [], ◌∷◌, Memᴰ}
use Prim.Native.Nat.{ℕ}
use native.Mathlib.Omega.{arith}
use lib.Dec.{ltb, eqb}
use lib.ListN.{length, get_or}
use borrow.Author.Tests.{eqb-true, eqb-false, eq-eqb, ne_eqb}
use Rattle.route.specs.Window.{on_edge}
use Rattle.route.specs.Step.{sector_of, goal_of, mark_of, first_of, last_of, boundary_byte, boundary_of, is_goal, is_window, step_number}
use Rattle.route.specs.Step.{is_wall_cost, some_wall_cost, targets_wall, each_step_on, step_number_on}
use Rattle.route.specs.Target.{Target, to_goal, to_window, to_corner, GoalCell, WindowCell, target_of, StepOnWall, goal_on, window_on}
use Rattle.route.specs.Inner.{is_wall_target}
use Rattle.route.proofs.Accepted.{accepted_step}
use Rattle.route.proofs.Targets.{target_goal, target_window, goal_told, window_told}

-- ---- the lines, one after the other

-- the lines 3 to 8, and what is below them
ladder : (b₃ b₄ b₅ b₆ b₇ b₈ : Bool) → ℕ → ℕ
ladder b₃ b₄ b₅ b₆ b₇ b₈ rest = cond b₃ 3 (cond b₄ 4 (cond b₅ 5 (cond b₆ 6 (cond b₇ 7 (cond b₈ 8 rest)))))

-- what is below them decides where none of them does; and 16 is none of them
Below : ℕ → ℕ → ℕ → Type 0
Below with_rest without rest = (with_rest ≡ cond (eqb without 0) rest without) × (without ≡ 16 → ⊥)

below : (b₃ b₄ b₅ b₆ b₇ b₈ : Bool) (rest : ℕ) → Below (ladder b₃ b₄ b₅ b₆ b₇ b₈ rest) (ladder b₃ b₄ b₅ b₆ b₇ b₈ 0) rest
unfolding ladder Below
below true b₄ b₅ b₆ b₇ b₈ rest = (refl, λ e. omega arith)
below false true b₅ b₆ b₇ b₈ rest = (refl, λ e. omega arith)
below false false true b₆ b₇ b₈ rest = (refl, λ e. omega arith)
below false false false true b₇ b₈ rest = (refl, λ e. omega arith)
below false false false false true b₈ rest = (refl, λ e. omega arith)
below false false false false false true rest = (refl, λ e. omega arith)
below false false false false false false rest = (refl, λ e. omega arith)

module _ (costs s : List ℕ) where
  sixteen_below : Below (step_number_on costs s) (step_number s) (cond (targets_wall costs s) 16 0)
  unfolding step_number_on step_number ladder
  sixteen_below =
      below (not (eqb (length s) 8))
      (ltb 63 (sector_of s) || ltb 1 (mark_of s) || not (eqb (get_or s 6 0) 0) || not (eqb (get_or s 7 0) 0))
      (is_goal s && ltb 99 (goal_of s))
      (is_window s && (ltb 99 (first_of s) || ltb 99 (last_of s) || ltb 3 (boundary_byte s)))
      (is_window s && not (on_edge (boundary_of s) (first_of s) && on_edge (boundary_of s) (last_of s)))
      (is_window s && ltb (last_of s) (first_of s))
      (cond (targets_wall costs s) 16 0)

  pub number_on_law : step_number_on costs s ≡ cond (eqb (step_number s) 0) (cond (targets_wall costs s) 16 0) (step_number s)
  unfolding Below
  number_on_law = sixteen_below.0

  never : step_number s ≡ 16 → ⊥
  unfolding Below
  never = sixteen_below.1

  pub each_step_on_law : length s ≡ 8 → step_number_on costs s ≡ each_step_on costs s
  unfolding step_number_on each_step_on
  each_step_on_law e = rw (eq-eqb (length s) 8 e)

  pub accepted_on : step_number_on costs s ≡ 0 → step_number s ≡ 0
  accepted_on e = go (eqb (step_number s) 0) refl (sym number_on_law ∙ e)
    where
      go : (b : Bool) → eqb (step_number s) 0 ≡ b → cond b (cond (targets_wall costs s) 16 0) (step_number s) ≡ 0 → step_number s ≡ 0
      go true q z = eqb-true (step_number s) 0 q
      go false q z = z

  pub refused_on : (step_number s ≡ 0 → ⊥) → step_number_on costs s ≡ step_number s
  refused_on h = number_on_law ∙ rw (ne_eqb (step_number s) 0 h)

-- ---- by the target

module _ (costs : List ℕ) where
  -- a cell of the list of cost 255, if there is one, and there is one if there is such a cell
  some_at : {A : Type 0} (cells : List ℕ) → some_wall_cost costs cells ≡ true → ((x : ℕ) → Memᴰ x cells → get_or costs x 0 ≡ 255 → A) → A
  some_at [] e f = absurd (true≢false (sym e))
  some_at {A} (y ∷ cells) e f = go (is_wall_cost costs y) refl e (λ d. some_at cells d (λ x m. f x (Memᴰ.tail m)))
    where
      go : (b : Bool) → is_wall_cost costs y ≡ b → (b || some_wall_cost costs cells) ≡ true → (some_wall_cost costs cells ≡ true → A) → A
      go true q d ih = f y (Memᴰ.head refl) (eqb-true (get_or costs y 0) 255 q)
      go false q d ih = ih d

  at_some : (cells : List ℕ) (x : ℕ) → Memᴰ x cells → get_or costs x 0 ≡ 255 → some_wall_cost costs cells ≡ true
  at_some cells x m w = along x cells m w
    where
      along : (x : ℕ) (cells : List ℕ) → Memᴰ x cells → get_or costs x 0 ≡ 255 → some_wall_cost costs cells ≡ true
      along x cells (Memᴰ.head {x = y} {xs = ys} e) w = let q : is_wall_cost costs y ≡ true = eq-eqb (get_or costs y 0) 255 (rw (← e) w) in rw q
      along x cells (Memᴰ.tail {x = y} {xs = ys} n) w = go (is_wall_cost costs y) (along x ys n w)
        where
          go : (b : Bool) → some_wall_cost costs ys ≡ true → (b || some_wall_cost costs ys) ≡ true
          go true e = refl
          go false e = e

  wall_at_law : {A : Type 0} (t : Target) → is_wall_target costs t ≡ true → ((x : ℕ) → GoalCell t x → get_or costs x 0 ≡ 255 → A)
      → ((x : ℕ) → WindowCell t x → get_or costs x 0 ≡ 255 → A) → A
  wall_at_law (to_goal n) e g w = g n refl (eqb-true (get_or costs n 0) 255 e)
  wall_at_law (to_window cells) e g w = some_at cells e w
  wall_at_law (to_corner n) e g w = g n refl (eqb-true (get_or costs n 0) 255 e)

  goal_wall : (t : Target) (x : ℕ) → GoalCell t x → get_or costs x 0 ≡ 255 → is_wall_target costs t ≡ true
  goal_wall (to_goal n) x q e = eq-eqb (get_or costs n 0) 255 (rw (← q) e)
  goal_wall (to_window cells) x q e = absurd q
  goal_wall (to_corner n) x q e = eq-eqb (get_or costs n 0) 255 (rw (← q) e)

  window_wall : (t : Target) (x : ℕ) → WindowCell t x → get_or costs x 0 ≡ 255 → is_wall_target costs t ≡ true
  window_wall (to_goal n) x m e = absurd (Memᴰ.not-nil m)
  window_wall (to_window cells) x m e = at_some cells x m e
  window_wall (to_corner n) x m e = absurd (Memᴰ.not-nil m)

module _ (costs s : List ℕ) where
  pub wall_target : step_number s ≡ 0 → targets_wall costs s ≡ is_wall_target costs (target_of s)
  wall_target good = go (is_window s) refl
    where
      go : (b : Bool) → is_window s ≡ b → targets_wall costs s ≡ is_wall_target costs (target_of s)
      go true e =
          let z : is_goal s ≡ false = ne_eqb (mark_of s) 0 (λ z. omega (arith, z, eqb-true (mark_of s) 1 e)) in
          rw (target_window s e, z, e)
      go false e =
          let z : is_goal s ≡ true = eq-eqb (mark_of s) 0 (omega (arith, (accepted_step s good).mark_in, eqb-false (mark_of s) 1 e)) in
          rw (target_goal s e, z, e) (or-false (is_wall_cost costs (goal_of s)))

  told : step_number s ≡ 0 → is_wall_target costs (target_of s) ≡ true → StepOnWall costs s
  told good e =
      wall_at_law costs (target_of s) e (λ x m. goal_on x ((goal_told s good x).0 m)) (λ x m. window_on x ((window_told s good x).0 m))

  so : step_number s ≡ 0 → StepOnWall costs s → is_wall_target costs (target_of s) ≡ true
  so good (goal_on x g e) = goal_wall costs (target_of s) x ((goal_told s good x).1 g) e
  so good (window_on x w e) = window_wall costs (target_of s) x ((window_told s good x).1 w) e

  pub sixteen_told : (step_number_on costs s ≡ 16) ↔ ((step_number s ≡ 0) × StepOnWall costs s)
  sixteen_told = (λ e. go (eqb (step_number s) 0) refl (sym (number_on_law costs s) ∙ e), λ p. number_on_law costs s ∙ rw (p.0, wall_target p.0, so p.0 p.1))
    where
      on : (b : Bool) → ◌≡◌ {A = ℕ} (cond b 16 0) 16 → b ≡ true
      on true e = refl
      on false e = absurd (omega arith)

      go : (b : Bool) → eqb (step_number s) 0 ≡ b → cond b (cond (targets_wall costs s) 16 0) (step_number s) ≡ 16 → (step_number s ≡ 0) × StepOnWall costs s
      go true q e = let good = eqb-true (step_number s) 0 q in (good, told good (sym (wall_target good) ∙ on (targets_wall costs s) e))
      go false q e = absurd (never costs s e)
