-- The number of a leg, down the table.
--     each_first, each_none    numbers 4 to 8 and 16: a step that is refused decides, else what comes below
--     nine_then_ten            where no step is refused: 9 decides before 10, and 10 before none
--     Judged, judged           what is known where nothing is refused before a step is planned
--     judged_first             a number that is judged before then is the leg's
--     closed_15, open_0        else 15 where a window is closed, and 0 where none is
--     ready                    what planning is given
-- Assumes nothing.
use mathlib.Core.Path.{◌≡◌, refl, sym, ap, ◌∙◌}
use mathlib.Core.Bool.{Bool, true, false, true≢false, cond, not, ◌||◌}
use mathlib.Core.List.{List, [], ◌∷◌, ◌++◌, append_assoc}
use Prim.Native.Nat.{ℕ, zero, suc, ◌<◌}
use native.Mathlib.Omega.{arith}
use lib.Dec.{eqb}
use lib.ListN.{length, get_or}
use borrow.Author.Tests.{eqb-true, eqb-false, eq-eqb}
use Rattle.route.specs.Table.{Row, row, first_number}
use Rattle.route.specs.Step.{is_window, no_step_list}
use Rattle.route.proofs.Walls.{each_step_on_law, accepted_on}
use Rattle.step_list.specs.Steps.{steps_of}
use Rattle.leg_plan.specs.Leg.{names_twice, some_goal, out_of_order, disconnected, floor_number, each_rows, some_closed, judged_rows, leg_number_by}
use Rattle.step_list.specs.Inner.{step_at}
use Rattle.leg_plan.specs.Inner.{LegReady}
use Rattle.step_list.proofs.Steps.{neither, steps_count, step_of_law, step_long}

-- a number that is not 0 stays the first
pub rows_first : (a b : List Row) → (first_number a ≡ 0 → ⊥) → first_number (a ++ b) ≡ first_number a
rows_first [] b h = absurd (h refl)
rows_first (r ∷ a) b h = go r.holds h (rows_first a b)
  where
    go : (t : Bool) → (cond t r.number (first_number a) ≡ 0 → ⊥) → ((first_number a ≡ 0 → ⊥) → first_number (a ++ b) ≡ first_number a)
        → cond t r.number (first_number (a ++ b)) ≡ cond t r.number (first_number a)
    go true h ih = refl
    go false h ih = ih h

-- ---- numbers 4 to 8 and 16 of each step, and what comes below them

module _ (floor : List ℕ) where
  -- a step that is refused decides
  pub each_first : (ss : List (List ℕ)) (rest : List Row) → eqb (first_number (each_rows floor ss)) 0 ≡ false
      → first_number (each_rows floor ss ++ rest) ≡ first_number (each_rows floor ss)
  each_first [] rest h = absurd (true≢false h)
  each_first (s ∷ ss) rest h = go (eqb (floor_number floor s) 0) h (each_first ss rest)
    where
      go : (b : Bool) → eqb (cond (not b) (floor_number floor s) (first_number (each_rows floor ss))) 0 ≡ false
          → (eqb (first_number (each_rows floor ss)) 0 ≡ false → first_number (each_rows floor ss ++ rest) ≡ first_number (each_rows floor ss))
          → cond (not b) (floor_number floor s) (first_number (each_rows floor ss ++ rest))
          ≡ cond (not b) (floor_number floor s) (first_number (each_rows floor ss))
      go true k ih = ih k
      go false k ih = refl

  -- a list of steps of which none is refused, step by step
  each_head : (s : List ℕ) (ss : List (List ℕ)) → first_number (each_rows floor (s ∷ ss)) ≡ 0
      → (floor_number floor s ≡ 0) × (first_number (each_rows floor ss) ≡ 0)
  each_head s ss = go (eqb (floor_number floor s) 0) refl
    where
      go : (b : Bool) → eqb (floor_number floor s) 0 ≡ b → cond (not b) (floor_number floor s) (first_number (each_rows floor ss)) ≡ 0
          → (floor_number floor s ≡ 0) × (first_number (each_rows floor ss) ≡ 0)
      go true q e = (eqb-true (floor_number floor s) 0 q, e)
      go false q e = absurd (eqb-false (floor_number floor s) 0 q e)

  pub each_none : (ss : List (List ℕ)) (rest : List Row) → first_number (each_rows floor ss) ≡ 0 → first_number (each_rows floor ss ++ rest) ≡ first_number rest
  each_none [] rest h = refl
  each_none (s ∷ ss) rest h = let k = each_head s ss h in rw k.0 (each_none ss rest k.1)

  pub each_good : (ss : List (List ℕ)) → first_number (each_rows floor ss) ≡ 0 → (k : ℕ) → k < length ss → floor_number floor (get_or ss k []) ≡ 0
  each_good [] e k h = absurd (omega arith)
  each_good (s ∷ ss) e zero h = (each_head s ss e).0
  each_good (s ∷ ss) e (suc k) h = each_good ss (each_head s ss e).1 k (omega arith)

  each_zero : (ss : List (List ℕ)) (rest : List Row) → first_number (each_rows floor ss ++ rest) ≡ 0 → first_number (each_rows floor ss) ≡ 0
  each_zero ss rest e = go (eqb (first_number (each_rows floor ss)) 0) refl
    where
      go : (b : Bool) → eqb (first_number (each_rows floor ss)) 0 ≡ b → first_number (each_rows floor ss) ≡ 0
      go true q = eqb-true (first_number (each_rows floor ss)) 0 q
      go false q = sym (each_first ss rest q) ∙ e

-- ---- numbers 9 and 10

module _ (floor steps sheet : List ℕ) (floor_full : length floor ≡ 6400) (sheet_full : length sheet ≡ 6400)
    (list : no_step_list steps ≡ false) (each : first_number (each_rows floor (steps_of steps)) ≡ 0) where
  pub nine_then_ten : first_number (judged_rows floor steps sheet)
      ≡ first_number (row 9 (out_of_order (steps_of steps)) ∷ row 10 (disconnected (steps_of steps)) ∷ [])
  unfolding judged_rows
  nine_then_ten = rw (eq-eqb (length floor) 6400 floor_full, eq-eqb (length sheet) 6400 sheet_full, list) (each_none floor (steps_of steps) _ each)

-- ---- nothing refused before a step is planned

pub record Judged (floor steps sheet : List ℕ) : Type 0 where
  pub floor_full : length floor ≡ 6400
  pub sheet_full : length sheet ≡ 6400
  pub list : no_step_list steps ≡ false
  pub each : first_number (each_rows floor (steps_of steps)) ≡ 0
  pub ordered : out_of_order (steps_of steps) ≡ false
  pub faced : disconnected (steps_of steps) ≡ false

module _ (floor steps sheet : List ℕ) where
  pub judged : first_number (judged_rows floor steps sheet) ≡ 0 → Judged floor steps sheet
  unfolding judged_rows
  judged = go (eqb (length floor) 6400) (eqb (length sheet) 6400) (no_step_list steps) refl refl refl
    where
      rest : List Row
      rest = row 9 (out_of_order (steps_of steps)) ∷ row 10 (disconnected (steps_of steps)) ∷ []

      last : (b d : Bool) → ◌≡◌ {A = ℕ} (cond b 9 (cond d 10 0)) 0 → (b ≡ false) × (d ≡ false)
      last true d e = absurd (omega arith)
      last false true e = absurd (omega arith)
      last false false e = (refl, refl)

      go : (a b c : Bool) → eqb (length floor) 6400 ≡ a → eqb (length sheet) 6400 ≡ b → no_step_list steps ≡ c
          → cond (not a) 1 (cond (not b) 2 (cond c 3 (first_number (each_rows floor (steps_of steps) ++ rest)))) ≡ 0 → Judged floor steps sheet
      go false b c p q r e = absurd (omega arith)
      go true false c p q r e = absurd (omega arith)
      go true true true p q r e = absurd (omega arith)
      go true true false p q r e =
          let z = each_zero floor (steps_of steps) rest e in
          let l = last (out_of_order (steps_of steps)) (disconnected (steps_of steps)) (sym (each_none floor (steps_of steps) rest z) ∙ e) in
          record {
            floor_full = eqb-true (length floor) 6400 p;
            sheet_full = eqb-true (length sheet) 6400 q;
            list = r;
            each = z;
            ordered = l.0;
            faced = l.1;
          }

module _ (sight : Bool) (floor steps sheet : List ℕ) where
  -- a number that is judged before a step is planned is the leg's
  pub judged_first : (first_number (judged_rows floor steps sheet) ≡ 0 → ⊥)
      → leg_number_by sight floor steps sheet ≡ first_number (judged_rows floor steps sheet)
  unfolding leg_number_by
  judged_first h = rows_first (judged_rows floor steps sheet) (row 15 (some_closed sight floor (steps_of steps)) ∷ []) h

  -- else 15 decides
  pub last_number : Judged floor steps sheet → leg_number_by sight floor steps sheet ≡ cond (some_closed sight floor (steps_of steps)) 15 0
  unfolding leg_number_by judged_rows
  last_number j = rw (eq-eqb (length floor) 6400 j.floor_full, eq-eqb (length sheet) 6400 j.sheet_full, j.list)
      (ap first_number (append_assoc (each_rows floor (steps_of steps)) _ _) ∙ each_none floor (steps_of steps) _ j.each ∙ rw (j.ordered, j.faced))

  pub closed_15 : Judged floor steps sheet → some_closed sight floor (steps_of steps) ≡ true → leg_number_by sight floor steps sheet ≡ 15
  closed_15 j e = last_number j ∙ rw e

  pub open_0 : Judged floor steps sheet → some_closed sight floor (steps_of steps) ≡ false → leg_number_by sight floor steps sheet ≡ 0
  open_0 j e = last_number j ∙ rw e

  -- a leg that is not refused
  pub accepted : leg_number_by sight floor steps sheet ≡ 0 → Judged floor steps sheet × (some_closed sight floor (steps_of steps) ≡ false)
  accepted e = go (eqb (first_number (judged_rows floor steps sheet)) 0) refl
    where
      shut : (b : Bool) → ◌≡◌ {A = ℕ} (cond b 15 0) 0 → b ≡ false
      shut true z = absurd (omega arith)
      shut false z = refl

      go : (b : Bool) → eqb (first_number (judged_rows floor steps sheet)) 0 ≡ b → Judged floor steps sheet × (some_closed sight floor (steps_of steps) ≡ false)
      go true q = let j = judged floor steps sheet (eqb-true _ 0 q) in (j, shut (some_closed sight floor (steps_of steps)) (sym (last_number j) ∙ e))
      go false q = let h = eqb-false _ 0 q in absurd (h (sym (judged_first h) ∙ e))

-- ---- what planning is given

ordered_once : (ss : List (List ℕ)) → out_of_order ss ≡ false → names_twice ss ≡ false
ordered_once [] e = refl
ordered_once (s ∷ ss) e = (neither (is_window s || some_goal ss) (names_twice (s ∷ ss)) e).1

pub ready : {floor steps sheet : List ℕ} → Judged floor steps sheet → LegReady floor steps
ready {floor} {steps} j = record {
  floor_full = j.floor_full;
  accepted = λ k h. accepted_on _ (step_at steps k)
      (each_step_on_law _ (step_at steps k) (step_long steps k h) ∙ ap (floor_number floor) (sym (step_of_law steps k h))
      ∙ each_good floor (steps_of steps) j.each k (omega (arith, steps_count steps)));
  named_once = ordered_once (steps_of steps) j.ordered;
}
