-- Laws of targets.
--     at_place, place_of            a list has an entry, and a place has it
--     target_goal, target_window    a step's target, by its kind
--     named_edge, edge_named        the named edge, by the boundary's byte, is the side's
--     target_in                     that of a step that is not refused lies inside the sector
--     goal_told, window_told        and its cells are those that the step's bytes say by rows and columns
--     held_listed, listed_held      in the program: what a target becomes there stands for that target
--     made_target .. made_held      and what a step's target becomes there
--     listed_sight .. goal_end      with sight or without
--     held_in .. held_inside        what the program holds stands for one inside the sector, cell by cell; its window
-- Assumes nothing.
use mathlib.Core.Path.{◌≡◌, refl, sym, ap, subst, ◌∙◌}
use Rattle.std.specs.Prelude.{Some, None}
use mathlib.Core.Bool.{Bool, true, false, cond, true≢false}
use mathlib.Core.Logic.{◌↔◌, ⊎_elim}
use mathlib.Core.List.Memᴰ
use mathlib.Core.List.{List, [], ◌∷◌, Memᴰ}
use Prim.Native.Nat.{ℕ, zero, suc, ◌/◌, ◌%◌, ◌<◌}
use native.Mathlib.Omega.{arith}
use lib.ListN.{length, get_or}
use lib.Seq.{take-append_seam, get_or-take, length-take-le}
use borrow.Author.Tests.{eqb-true, eqb-false, eq-eqb}
use Rattle.utilities.specs.Compass.{side_of}
use Rattle.utilities.proofs.Padded.{padded_length}
use Rattle.fields.specs.declared.CellList.{CellList}
use Rattle.route.specs.declared.RouteStep.{RouteStep}
use Rattle.route.specs.declared.Target as program
use Rattle.route.specs.declared.Target.TheVariants.{Goal, Window, Corner}
use Rattle.route.specs.Window.{on_edge, listed}
use Rattle.route.specs.Step.{goal_of, mark_of, first_of, last_of, boundary_byte, boundary_of, is_window, window_cells, portal_of}
use Rattle.route.specs.Step.{route_step, step_number}
use Rattle.route.specs.Target.{Target, to_goal, to_window, to_corner, is_sightless, without_sight, by_sight, by_window, window_of}
use Rattle.route.specs.Target.{GoalCell, WindowCell, EndCell, WindowIn, TargetIn, target_of, StepGoal, OnNamedEdge, north, east, south, west, StepWindow}
use Rattle.route.specs.Inner.{portal_target, route_target, listed_target, unsighted, sighted_by, held_cells, held_target, own_window}
use Rattle.route.specs.Inner.{WindowHeld, TargetHeld}
use Rattle.route.proofs.Accepted.{Window as StepEdge, accepted_step, accepted_goal, accepted_window}
use Rattle.route.proofs.Cells.{cells_in}
use Rattle.route.proofs.Windows.{window_at, window_all}

-- ---- a step's target

pub target_goal : (step : List ℕ) → is_window step ≡ false → target_of step ≡ to_goal (goal_of step)
unfolding target_of
target_goal step e = rw e

pub target_window : (step : List ℕ) → is_window step ≡ true → target_of step ≡ to_window (window_cells step)
unfolding target_of
target_window step e = rw e

-- a list has an entry, by its place
pub at_place : (l : List ℕ) (i x : ℕ) → i < length l → get_or l i 0 ≡ x → Memᴰ x l
at_place [] i x h e = absurd (omega arith)
at_place (y ∷ l) zero x h e = Memᴰ.head (sym e)
at_place (y ∷ l) (suc i) x h e = Memᴰ.tail (at_place l i x (omega arith) e)

pub place_of : (l : List ℕ) (x : ℕ) → Memᴰ x l → (i : ℕ) × (i < length l) × (get_or l i 0 ≡ x)
place_of l x m = go x l m
  where
    go : (x : ℕ) (l : List ℕ) → Memᴰ x l → (i : ℕ) × (i < length l) × (get_or l i 0 ≡ x)
    go x l (Memᴰ.head e) = (0, omega arith, sym e)
    go x l (Memᴰ.tail {xs = ys} n) = let r = go x ys n in (suc r.0, omega (arith, r.1), r.2)

-- the named edge, by the boundary's byte
pub named_edge : (boundary x : ℕ) → on_edge (side_of boundary) x ≡ true → OnNamedEdge boundary x
unfolding on_edge
named_edge zero x e = north refl (eqb-true (x / 10) 0 e)
named_edge (suc zero) x e = east refl (eqb-true (x % 10) 9 e)
named_edge (suc (suc zero)) x e = south refl (eqb-true (x / 10) 9 e)
named_edge (suc (suc (suc zero))) x e = west refl (eqb-true (x % 10) 0 e)
named_edge (suc (suc (suc (suc n)))) x e = absurd (true≢false (sym e))

pub edge_named : (boundary x : ℕ) → OnNamedEdge boundary x → on_edge (side_of boundary) x ≡ true
unfolding on_edge
edge_named boundary x (north b e) = rw b (eq-eqb (x / 10) 0 e)
edge_named boundary x (east b e) = rw b (eq-eqb (x % 10) 9 e)
edge_named boundary x (south b e) = rw b (eq-eqb (x / 10) 9 e)
edge_named boundary x (west b e) = rw b (eq-eqb (x % 10) 0 e)

module _ (step : List ℕ) (good : step_number step ≡ 0) where
  by_kind : (P : Target → Type 0) → (is_window step ≡ false → P (to_goal (goal_of step)))
      → (is_window step ≡ true → P (to_window (window_cells step))) → P (target_of step)
  by_kind P g w = go (is_window step) refl
    where
      go : (b : Bool) → is_window step ≡ b → P (target_of step)
      go true e = subst P (sym (target_window step e)) (w e)
      go false e = subst P (sym (target_goal step e)) (g e)

  pub target_in : TargetIn (target_of step)
  target_in =
      by_kind TargetIn (accepted_goal step good) (λ e. cells_in (boundary_of step) (first_of step) (last_of step))

  no_window : is_window step ≡ false → mark_of step ≡ 0
  no_window e = omega (arith, (accepted_step step good).mark_in, eqb-false (mark_of step) 1 e)

  pub goal_told : (x : ℕ) → GoalCell (target_of step) x ↔ StepGoal step x
  goal_told x =
      by_kind (λ t. GoalCell t x ↔ StepGoal step x)
      (λ e. (λ q. record { mark = no_window e; is = q }, λ g. g.is))
      (λ e. (λ q. absurd q, λ g. absurd (omega (arith, g.mark, eqb-true (mark_of step) 1 e))))

  pub window_told : (x : ℕ) → WindowCell (target_of step) x ↔ StepWindow step x
  window_told x =
      by_kind (λ t. WindowCell t x ↔ StepWindow step x)
      (λ e. (λ m. absurd (Memᴰ.not-nil m), λ c. absurd (omega (arith, c.mark, no_window e))))
      (λ e. let w = accepted_window step good e in (told e w, listed_so w))
    where
      told : is_window step ≡ true → StepEdge step → Memᴰ x (window_cells step) → StepWindow step x
      told e w m =
          let p = place_of (window_cells step) x m in
          let a = window_at step w p.0 p.1 in
          subst (StepWindow step) p.2 (record {
            mark = eqb-true (mark_of step) 1 e;
            inside = a.below;
            is_on_edge = named_edge (boundary_byte step) _ a.on;
            from = a.from;
            to = a.to;
          })

      listed_so : StepEdge step → StepWindow step x → Memᴰ x (window_cells step)
      listed_so w c =
          let p = window_all step w x c.inside (edge_named (boundary_byte step) x c.is_on_edge) c.from c.to in
          at_place (window_cells step) p.0 x p.1 p.2

-- ---- a target in the program

cells_listed : (cells : List ℕ) → held_cells (listed cells) ≡ cells
cells_listed cells = take-append_seam cells _

pub held_listed : (target : Target) → held_target (listed_target target) ≡ target
held_listed (to_goal n) = refl
held_listed (to_window cells) = ap to_window (cells_listed cells)
held_listed (to_corner n) = refl

listed_without : (target : Target) → unsighted (listed_target target) ≡ listed_target (without_sight target)
listed_without (to_goal n) = refl
listed_without (to_window cells) = refl
listed_without (to_corner n) = refl

pub listed_sight : (sight : Bool) (target : Target) → sighted_by sight (listed_target target) ≡ listed_target (by_sight sight target)
listed_sight true target = refl
listed_sight false target = listed_without target

without_in : (target : Target) → TargetIn target → TargetIn (without_sight target)
without_in (to_goal n) h = h
without_in (to_window cells) h = h
without_in (to_corner n) h = h

pub sight_in : (sight : Bool) (target : Target) → TargetIn target → TargetIn (by_sight sight target)
sight_in true target h = h
sight_in false target h = without_in target h

without_window : (target : Target) → window_of (without_sight target) ≡ window_of target
without_window (to_goal n) = refl
without_window (to_window cells) = refl
without_window (to_corner n) = refl

pub sight_window : (sight : Bool) (target : Target) → window_of (by_sight sight target) ≡ window_of target
sight_window true target = refl
sight_window false target = without_window target

pub without_sightless : (target : Target) → is_sightless (without_sight target) ≡ true
without_sightless (to_goal n) = refl
without_sightless (to_window cells) = refl
without_sightless (to_corner n) = refl

-- where arrows end without sight, with a goal: in the goal alone
pub goal_end : (step : List ℕ) → is_window step ≡ false → (x : ℕ) → EndCell (without_sight (target_of step)) x ↔ (x ≡ goal_of step)
goal_end step e x = rw (target_goal step e) (
  λ m. ⊎_elim (λ q. q) (λ n. absurd (Memᴰ.not-nil n)) (Memᴰ.cases_cons m),
  λ q. Memᴰ.head q,
)

window_listed : (cells : List ℕ) → WindowIn cells → WindowHeld (listed cells)
window_listed cells w = record {
  full = padded_length 10 0 cells w.few;
  count_in = w.few;
  window_in = subst WindowIn (sym (cells_listed cells)) w;
}

none_in : WindowIn []
none_in = record { inside = λ i h. absurd (omega arith); once = λ i j h k q. omega arith; few = omega arith }

pub listed_held : (target : Target) → TargetIn target → TargetHeld (listed_target target)
listed_held (to_goal n) h = h
listed_held (to_window cells) w = window_listed cells w
listed_held (to_corner n) h = h

pub held_in : (t : program.Target) → TargetHeld t → TargetIn (held_target t)
held_in (Goal n) h = h
held_in (Window w) h = h.window_in
held_in (Corner n) h = h

-- the window cells of what it stands for are those that it holds
pub held_window : (t : program.Target) → held_cells (own_window t) ≡ window_of (held_target t)
held_window (Goal n) = refl
held_window (Window w) = refl
held_window (Corner n) = refl

pub window_held : (t : program.Target) → TargetHeld t → WindowHeld (own_window t)
window_held (Goal n) h = window_listed [] none_in
window_held (Window w) h = h
window_held (Corner n) h = window_listed [] none_in

-- as it is made of a step
module _ (step : List ℕ) (s : RouteStep) (t : program.Target) (parsed : s ≡ route_step step) (made : t ≡ listed_target (route_target s)) where
  by_mark : (b : Bool) → portal_target (goal_of step) (cond b (Some (portal_of step)) None) ≡ cond b (to_window (window_cells step)) (to_goal (goal_of step))
  by_mark true = refl
  by_mark false = refl

  is : t ≡ listed_target (target_of step)
  unfolding target_of
  is = made ∙ ap (λ (r : RouteStep). listed_target (route_target r)) parsed ∙ ap listed_target (by_mark (is_window step))

  pub made_target : held_target t ≡ target_of step
  made_target = ap held_target is ∙ held_listed (target_of step)

  -- it is a window exactly if the step is marked so
  pub made_marked : by_window (held_target t) ≡ is_window step
  unfolding target_of
  made_marked = ap by_window made_target ∙ go (is_window step)
    where
      go : (b : Bool) → by_window (cond b (to_window (window_cells step)) (to_goal (goal_of step))) ≡ b
      go true = refl
      go false = refl

  -- with sight or without
  module _ (sight : Bool) (u : program.Target) (seen : u ≡ sighted_by sight t) where
    pub seen_is : u ≡ listed_target (by_sight sight (target_of step))
    seen_is = seen ∙ ap (sighted_by sight) is ∙ listed_sight sight (target_of step)

    pub seen_target : held_target u ≡ by_sight sight (target_of step)
    seen_target = ap held_target seen_is ∙ held_listed (by_sight sight (target_of step))

    pub seen_held : step_number step ≡ 0 → TargetHeld u
    seen_held good = subst TargetHeld (sym seen_is) (listed_held (by_sight sight (target_of step)) (sight_in sight (target_of step) (target_in step good)))

  pub made_window : held_cells (own_window t) ≡ window_of (target_of step)
  made_window = held_window t ∙ ap window_of made_target

  pub made_held : step_number step ≡ 0 → TargetHeld t
  made_held good = subst TargetHeld (sym is) (listed_held (target_of step) (target_in step good))

module _ (w : CellList 10) (h : WindowHeld w) where
  pub held_length : length (held_cells w) ≡ w.count
  held_length = length-take-le w.count w.cells (omega (arith, h.full, h.count_in))

  pub held_at : (i : ℕ) → i < w.count → get_or (held_cells w) i 0 ≡ get_or w.cells i 0
  held_at i g = rw get_or-take

  pub held_inside : (i : ℕ) → i < w.count → get_or w.cells i 0 < 100
  held_inside i g = subst (λ (n : ℕ). n < 100) (held_at i g) (h.window_in.inside i (omega (arith, held_length)))
