-- Number 16 of a leg and of its step is told by places of the floor.
--     part_at       a cost of a sector, by its place on the floor
--     floor_told    a step of a leg is refused with 16 exactly if 4 to 8 are not due and its goal or a window cell has cost 255 on the floor
--     leg_told      a leg is refused with 16 exactly if a step is, none before it is refused, and 1, 2 and 3 are not due
-- Assumes nothing.
use mathlib.Core.Path.{◌≡◌, refl, sym, ap, ◌∙◌}
use mathlib.Core.Bool.{Bool, true, false, cond, not}
use mathlib.Core.Logic.{◌↔◌}
use mathlib.Core.List.{List, [], ◌∷◌, ◌++◌, append_assoc}
use Prim.Native.Nat.{ℕ, zero, suc, ◌+◌, ◌*◌, ◌/◌, ◌<◌}
use native.Mathlib.Omega.{arith}
use lib.ListN.{length, get_or}
use lib.Seq.{get_or-take, get_or-drop}
use lib.Dec.{eqb}
use borrow.Author.Tests.{eqb-true, eq-eqb, ne_eqb}
use Rattle.route.specs.Table.{Row, row, first_number}
use Rattle.route.specs.Step.{sector_of, mark_of, step_number, no_step_list}
use Rattle.route.specs.Target as target
use Rattle.route.specs.Target.{StepGoal, StepOnWall}
use Rattle.route.proofs.Accepted.{accepted_goal}
use Rattle.route.proofs.Walls.{each_step_on_law, sixteen_told}
use Rattle.step_list.specs.Steps.{steps_of}
use Rattle.leg_plan.specs.Leg.{part, floor_number, each_rows, out_of_order, disconnected, some_closed, judged_rows, leg_number_by}
use Rattle.leg_plan.specs.Walls.{FloorWall, goal_on, window_on, LegOnWall}
use Rattle.step_list.proofs.Steps.{steps_count, step_of_law, step_long}

pub part_at : (bytes : List ℕ) (sector x : ℕ) → x < 100 → get_or (part bytes sector) x 0 ≡ get_or bytes (sector * 100 + x) 0
part_at bytes sector x h = rw (get_or-take, get_or-drop)

module _ (floor step : List ℕ) where
  goal_in : step_number step ≡ 0 → (x : ℕ) → StepGoal step x → x < 100
  goal_in good x g =
      omega (arith, g.is, accepted_goal step good (ne_eqb (mark_of step) 1 (λ e. omega (arith, e, g.mark))))

  on_floor : step_number step ≡ 0 → StepOnWall (part floor (sector_of step)) step → FloorWall floor step
  on_floor good (target.goal_on x g e) = goal_on x g (sym (part_at floor (sector_of step) x (goal_in good x g)) ∙ e)
  on_floor good (target.window_on x w e) = window_on x w (sym (part_at floor (sector_of step) x w.inside) ∙ e)

  on_part : step_number step ≡ 0 → FloorWall floor step → StepOnWall (part floor (sector_of step)) step
  on_part good (goal_on x g e) = target.goal_on x g (part_at floor (sector_of step) x (goal_in good x g) ∙ e)
  on_part good (window_on x w e) = target.window_on x w (part_at floor (sector_of step) x w.inside ∙ e)

  pub floor_told : length step ≡ 8 → (floor_number floor step ≡ 16) ↔ ((step_number step ≡ 0) × FloorWall floor step)
  floor_told h =
      let costs = part floor (sector_of step) in
      let same = each_step_on_law costs step h in
      let told = sixteen_told costs step in (
        λ e. (let p = told.0 (same ∙ e) in (p.0, on_floor p.0 p.1)),
        λ p. sym same ∙ told.1 (p.0, on_part p.0 p.1),
      )

-- ---- the whole leg

-- the place of the first step that is refused, and is with 16
record First (floor : List ℕ) (ss : List (List ℕ)) : Type 0 where
  place : ℕ
  inside : place < length ss
  sixteen : floor_number floor (get_or ss place []) ≡ 16
  before : (j : ℕ) → j < place → floor_number floor (get_or ss j []) ≡ 0

module _ (floor : List ℕ) (rest : List Row) (other : first_number rest ≡ 16 → ⊥) where
  first : (ss : List (List ℕ)) → first_number (each_rows floor ss ++ rest) ≡ 16 → First floor ss
  first [] e = absurd (other e)
  first (s ∷ ss) e = go (eqb (floor_number floor s) 0) refl e (first ss)
    where
      from : floor_number floor s ≡ 0 → (r : First floor ss) → (j : ℕ) → j < suc r.place → floor_number floor (get_or (s ∷ ss) j []) ≡ 0
      from z r zero h = z
      from z r (suc j) h = r.before j (omega arith)

      go : (b : Bool) → eqb (floor_number floor s) 0 ≡ b → cond (not b) (floor_number floor s) (first_number (each_rows floor ss ++ rest)) ≡ 16
          → (first_number (each_rows floor ss ++ rest) ≡ 16 → First floor ss) → First floor (s ∷ ss)
      go true q e ih =
          let r = ih e in
          record { place = suc r.place; inside = omega (arith, r.inside); sixteen = r.sixteen; before = from (eqb-true _ 0 q) r }
      go false q e ih = record { place = 0; inside = omega arith; sixteen = e; before = λ j h. absurd (omega arith) }

found : (floor : List ℕ) (rest : List Row) (ss : List (List ℕ)) (k : ℕ) → k < length ss → floor_number floor (get_or ss k []) ≡ 16
    → ((j : ℕ) → j < k → floor_number floor (get_or ss j []) ≡ 0) → first_number (each_rows floor ss ++ rest) ≡ 16
found floor rest [] k h e before = absurd (omega arith)
found floor rest (s ∷ ss) zero h e before = rw e
found floor rest (s ∷ ss) (suc k) h e before = rw (before 0 (omega arith)) (found floor rest ss k (omega arith) e (λ j g. before (suc j) (omega arith)))

module _ (sight : Bool) (floor steps sheet : List ℕ) where
  -- what comes below the steps' numbers, none of it 16
  rest : List Row
  rest = row 9 (out_of_order (steps_of steps)) ∷ row 10 (disconnected (steps_of steps)) ∷ row 15 (some_closed sight floor (steps_of steps)) ∷ []

  other : first_number rest ≡ 16 → ⊥
  unfolding rest
  other = go (out_of_order (steps_of steps)) (disconnected (steps_of steps)) (some_closed sight floor (steps_of steps))
    where
      go : (a b c : Bool) → ◌≡◌ {A = ℕ} (cond a 9 (cond b 10 (cond c 15 0))) 16 → ⊥
      go true b c e = omega arith
      go false true c e = omega arith
      go false false true e = omega arith
      go false false false e = omega arith

  below : first_number ((each_rows floor (steps_of steps) ++ (row 9 (out_of_order (steps_of steps)) ∷ row 10 (disconnected (steps_of steps)) ∷ []))
      ++ (row 15 (some_closed sight floor (steps_of steps)) ∷ [])) ≡ first_number (each_rows floor (steps_of steps) ++ rest)
  unfolding rest
  below = ap first_number (append_assoc (each_rows floor (steps_of steps)) _ _)

  long : (k : ℕ) → k < length (steps_of steps) → length (get_or (steps_of steps) k []) ≡ 8
  long k h =
      let g : k < length steps / 8 = omega (arith, steps_count steps) in
      ap length (step_of_law steps k g) ∙ step_long steps k g

  pub leg_told : (leg_number_by sight floor steps sheet ≡ 16) ↔ LegOnWall floor steps sheet
  unfolding leg_number_by judged_rows
  leg_told = (to (eqb (length floor) 6400) (eqb (length sheet) 6400) (no_step_list steps) refl refl refl, so)
    where
      to : (a b c : Bool) → eqb (length floor) 6400 ≡ a → eqb (length sheet) 6400 ≡ b → no_step_list steps ≡ c
          → cond (not a) 1 (cond (not b) 2 (cond c 3 (first_number ((each_rows floor (steps_of steps)
          ++ (row 9 (out_of_order (steps_of steps)) ∷ row 10 (disconnected (steps_of steps)) ∷ []))
          ++ (row 15 (some_closed sight floor (steps_of steps)) ∷ []))))) ≡ 16
          → LegOnWall floor steps sheet
      to false b c p q r e = absurd (omega arith)
      to true false c p q r e = absurd (omega arith)
      to true true true p q r e = absurd (omega arith)
      to true true false p q r e =
          let f = first floor rest other (steps_of steps) (sym below ∙ e) in
          let t = (floor_told floor _ (long f.place f.inside)).0 f.sixteen in
          record {
            floor_full = eqb-true _ _ p;
            sheet_full = eqb-true _ _ q;
            list = r;
            place = f.place;
            inside = f.inside;
            taken = t.0;
            wall = t.1;
            before = f.before;
          }

      so : LegOnWall floor steps sheet → leg_number_by sight floor steps sheet ≡ 16
      so w =
          let here = (floor_told floor _ (long w.place w.inside)).1 (w.taken, w.wall) in
          rw (eq-eqb (length floor) 6400 w.floor_full, eq-eqb (length sheet) 6400 w.sheet_full, w.list)
          (below ∙ found floor rest (steps_of steps) w.place w.inside here w.before)
