-- Number 15 of a leg is told by the cells that count. Planning goes over the steps in order, and the definition looks for a closed window the same way; both
-- are said here by a step's place in the list.
--     each_is          a number that is none of a step's is none of a leg's steps
--     never_15         no number that is judged before a step is planned is 15
--     found, so_from   a closed window on the way is one at some place
--     fifteen_told     a leg is refused with 15 exactly if nothing is judged before, and a step's window has no cell that counts
-- Assumes nothing.
use mathlib.Core.Path.{◌≡◌, refl, sym, ap, ◌∙◌}
use mathlib.Core.Bool.{Bool, true, false, true≢false, cond, not, ◌&&◌, ◌||◌}
use mathlib.Core.Logic.{◌↔◌}
use mathlib.Core.List.Memᴰ
use mathlib.Core.List.{List, [], ◌∷◌, Memᴰ}
use Prim.Native.Nat.{ℕ, zero, suc, ◌+◌, ◌≤◌, ◌<◌}
use native.Mathlib.Omega.{arith}
use lib.Dec.{eqb}
use lib.ListN.{length, drop, drop_of_length-le}
use lib.Seq.{drop-cons}
use borrow.Author.Tests.{eqb-true, eqb-false}
use Rattle.route.specs.Table.{row, first_number}
use Rattle.route.specs.Step.{sector_of, step_rows_on}
use Rattle.route.specs.Target.{Target, to_goal, to_window, by_sight, WindowCell, target_of}
use Rattle.route.proofs.Targets.{target_goal}
use Rattle.route.proofs.NoneIs.{none_is, none_is_law, none_both, step_is}
use Rattle.step_list.specs.Steps.{steps_of, step_of}
use Rattle.leg_counting.specs.Counting.{counting_cells, is_closed, CountingCell}
use Rattle.leg_plan.specs.Leg.{part, floor_number, each_rows, out_of_order, disconnected, closed_from, some_closed, judged_rows, leg_number_by}
use Rattle.leg_plan.specs.Promise.{has_before, built_at, built_before, target_at}
use Rattle.leg_plan.specs.Closed.{LegClosed}
use Rattle.leg_plan.proofs.Numbers.{Judged, judged, judged_first, closed_15, last_number, ready}
use Rattle.leg_plan.proofs.Sheet.{built_is}
use Rattle.leg_plan.proofs.Before.{first_goal}
use Rattle.leg_plan.proofs.Planned.{counting_at}

-- ---- what is judged before is never 15

-- the numbers of a leg's steps
pub each_is : (n : ℕ) → ((costs step : List ℕ) → none_is (suc n) (step_rows_on costs step) ≡ true) → (floor : List ℕ) (ss : List (List ℕ))
    → none_is (suc n) (each_rows floor ss) ≡ true
each_is n none floor [] = refl
each_is n none floor (s ∷ ss) = go (eqb (floor_number floor s) (suc n)) refl (each_is n none floor ss)
  where
    go : (b : Bool) → eqb (floor_number floor s) (suc n) ≡ b → none_is (suc n) (each_rows floor ss) ≡ true
        → (not b && none_is (suc n) (each_rows floor ss)) ≡ true
    go true q ih = absurd (step_is n (part floor (sector_of s)) s (none (part floor (sector_of s)) s) (eqb-true (floor_number floor s) (suc n) q))
    go false q ih = ih

never_15 : (floor steps sheet : List ℕ) → first_number (judged_rows floor steps sheet) ≡ 15 → ⊥
unfolding judged_rows
never_15 floor steps sheet =
    none_is_law 14 (judged_rows floor steps sheet)
    (none_both 15 (each_rows floor (steps_of steps)) (row 9 (out_of_order (steps_of steps)) ∷ row 10 (disconnected (steps_of steps)) ∷ [])
    (each_is 14 (λ costs step. refl) floor (steps_of steps)) refl)

-- ---- closed windows, by a step's place

module _ (sight : Bool) (floor : List ℕ) (ss : List (List ℕ)) where
  -- the window of the step at a place has no counting cell
  abbrev ClosedAt : ℕ → Type 0
  ClosedAt k = is_closed (target_at sight floor ss k) ≡ true

  -- the definition's search, from a place on
  abbrev from_place : ℕ → Bool
  from_place k = closed_from sight floor (drop k ss) (has_before k) (built_before sight floor ss k)

  from_next : (k : ℕ) → k < length ss → from_place k ≡ (is_closed (target_at sight floor ss k) || from_place (suc k))
  unfolding closed_from
  from_next k h =
      rw (drop-cons ss k [] h)
      (ap (λ (b : List ℕ). is_closed (target_at sight floor ss k) || closed_from sight floor (drop (suc k) ss) true b) (sym (built_is sight floor ss k)))

  from_end : (k : ℕ) → length ss ≤ k → from_place k ≡ false
  unfolding closed_from
  from_end k h = rw (drop_of_length-le ss h)

  found : (n k : ℕ) → k + n ≡ length ss → from_place k ≡ true → (j : ℕ) × (j < length ss) × ClosedAt j
  found zero k e t = absurd (true≢false (sym t ∙ from_end k (omega arith)))
  found (suc n) k e t = go (is_closed (target_at sight floor ss k)) refl (sym (from_next k (omega arith)) ∙ t) (found n (suc k) (omega arith))
    where
      go : (b : Bool) → is_closed (target_at sight floor ss k) ≡ b → (b || from_place (suc k)) ≡ true
          → (from_place (suc k) ≡ true → (j : ℕ) × (j < length ss) × ClosedAt j) → (j : ℕ) × (j < length ss) × ClosedAt j
      go true q f ih = (k, omega arith, q)
      go false q f ih = ih f

  so_from : (n k j : ℕ) → k + n ≡ j → j < length ss → ClosedAt j → from_place k ≡ true
  so_from zero k j e h c =
      let at : k ≡ j = omega arith in
      from_next k (omega arith) ∙ ap (λ (b : Bool). b || from_place (suc k)) (ap (λ (i : ℕ). is_closed (target_at sight floor ss i)) at ∙ c)
  so_from (suc n) k j e h c = from_next k (omega arith) ∙ go (is_closed (target_at sight floor ss k)) (so_from n (suc k) j (omega arith) h c)
    where
      go : (b : Bool) → from_place (suc k) ≡ true → (b || from_place (suc k)) ≡ true
      go true f = refl
      go false f = f

-- ---- the cells that count

-- a window is closed exactly if it has no cell
closed_none : (l : List ℕ) → is_closed (to_window l) ≡ true → (x : ℕ) → Memᴰ x l → ⊥
closed_none [] e x m = Memᴰ.not-nil m
closed_none (y ∷ l) e x m = true≢false (sym e)

none_closed : (l : List ℕ) → ((x : ℕ) → Memᴰ x l → ⊥) → is_closed (to_window l) ≡ true
none_closed [] h = refl
none_closed (y ∷ l) h = absurd (h y (Memᴰ.head refl))

goal_open : (sight : Bool) (t : Target) (n : ℕ) → t ≡ to_goal n → is_closed (by_sight sight t) ≡ false
goal_open true t n e = ap is_closed e
goal_open false t n e = ap (λ (u : Target). is_closed (by_sight false u)) e

module _ (sight : Bool) (floor steps sheet : List ℕ) where
  abbrev ss : List (List ℕ)
  ss = steps_of steps

  -- where nothing is refused before a step is planned
  module _ (j : Judged floor steps sheet) where
    counting : (k : ℕ) → suc k < length ss → (x : ℕ)
        → WindowCell (target_at sight floor ss (suc k)) x ↔ CountingCell (step_of ss (suc k)) (built_at sight floor ss k) x
    counting = counting_at sight floor steps sheet (ready j) j.sheet_full j.ordered

    first_open : 0 < length ss → is_closed (target_at sight floor ss 0) ≡ false
    first_open h = goal_open sight (target_of (step_of ss 0)) _ (target_goal (step_of ss 0) (first_goal ss j.ordered h))

    told_at_law : first_number (judged_rows floor steps sheet) ≡ 0 → (k : ℕ) → k < length ss → ClosedAt sight floor ss k → LegClosed sight floor steps sheet
    told_at_law z zero h c = absurd (true≢false (sym c ∙ first_open h))
    told_at_law z (suc k) h c = record {
      judged = z;
      before = k;
      inside = h;
      none = λ x m. closed_none (counting_cells (built_at sight floor ss k) (step_of ss (suc k))) c x ((counting k h x).1 m);
    }

    closed_so : (k : ℕ) → suc k < length ss → ((x : ℕ) → CountingCell (step_of ss (suc k)) (built_at sight floor ss k) x → ⊥) → ClosedAt sight floor ss (suc k)
    closed_so k h none = none_closed (counting_cells (built_at sight floor ss k) (step_of ss (suc k))) (λ x m. none x ((counting k h x).0 m))

  to : leg_number_by sight floor steps sheet ≡ 15 → LegClosed sight floor steps sheet
  unfolding some_closed
  to e = go (eqb (first_number (judged_rows floor steps sheet)) 0) refl
    where
      shut : (b : Bool) → ◌≡◌ {A = ℕ} (cond b 15 0) 15 → b ≡ true
      shut true q = refl
      shut false q = absurd (omega arith)

      go : (b : Bool) → eqb (first_number (judged_rows floor steps sheet)) 0 ≡ b → LegClosed sight floor steps sheet
      go true q =
          let z = eqb-true (first_number (judged_rows floor steps sheet)) 0 q in
          let j = judged floor steps sheet z in
          let c = shut (some_closed sight floor ss) (sym (last_number sight floor steps sheet j) ∙ e) in
          let at = found sight floor ss (length ss) 0 (omega arith) c in
          told_at_law j z at.0 at.1 at.2
      go false q =
          let h = eqb-false (first_number (judged_rows floor steps sheet)) 0 q in
          absurd (never_15 floor steps sheet (sym (judged_first sight floor steps sheet h) ∙ e))

  so : LegClosed sight floor steps sheet → leg_number_by sight floor steps sheet ≡ 15
  unfolding some_closed
  so c =
      let j = judged floor steps sheet c.judged in
      closed_15 sight floor steps sheet j
      (so_from sight floor ss (suc c.before) 0 (suc c.before) (omega arith) c.inside (closed_so j c.before c.inside c.none))

  pub fifteen_told : (leg_number_by sight floor steps sheet ≡ 15) ↔ LegClosed sight floor steps sheet
  fifteen_told = (to, so)
