-- The sector call's number.
--     accepted           what is known of a call that is not refused
--     one_due .. step_due    1, 2, and 3 to 8 and 16, where what comes before is not due
--     last_two           where 1, 2, 3 to 8 and 16 are not due, 17 decides, and then 12
--     seventeen_told     a call is refused with 17 exactly if 1, 2, 3 to 8 and 16 are not due, the mark is 1 and no previous field is lent
--     sixteen_due        and with 16 exactly if 1, 2 and 3 to 8 are not due, and its goal or a window cell has cost 255
--     either_first       17 and 12 are never both due: the one or the other may stand first
-- Assumes nothing.
use mathlib.Core.Path.{◌≡◌, refl, ◌∙◌}
use mathlib.Core.Bool.{Bool, true, false, cond, not, ◌&&◌}
use mathlib.Core.Logic.{◌↔◌}
use mathlib.Core.List.{List, [], ◌∷◌}
use Prim.Native.Nat.{ℕ}
use native.Mathlib.Omega.{arith}
use lib.Dec.{eqb}
use lib.ListN.{length}
use borrow.Author.Tests.{eqb-true, eq-eqb, ne_eqb}
use Rattle.route.specs.Table.{row, first_number}
use Rattle.route.specs.Step.{is_window, step_number, step_rows_on, step_number_on}
use Rattle.route.proofs.Walls.{accepted_on, sixteen_told}
use Rattle.route.proofs.NoneIs.{none_is_law}
use Rattle.sector.specs.Sector.{lacks_previous, sector_number}
use Rattle.sector.specs.Previous.{WithoutPrevious, TargetOnWall}

pub record Accepted (costs step : List ℕ) (has : Bool) (previous sheet : List ℕ) : Type 0 where
  pub costs_hundred : length costs ≡ 100
  pub sheet_hundred : length sheet ≡ 100
  pub step_good : step_number step ≡ 0
  pub window_lent : lacks_previous step has ≡ false
  pub previous_fits : (has && not (eqb (length previous) 100)) ≡ false

-- a step's number is never 17
never : (costs step : List ℕ) → step_number_on costs step ≡ 17 → ⊥
unfolding step_number_on
never costs step = none_is_law 16 (row 3 (not (eqb (length step) 8)) ∷ step_rows_on costs step) refl

-- 17 and 12 by a window, a previous field that is lent, and one that is other than 100 numbers: in either order the same
not_both : (w h m : Bool) → ◌≡◌ {A = ℕ} (cond (w && not h) 17 (cond (h && m) 12 0)) (cond (h && m) 12 (cond (w && not h) 17 0))
not_both true true m = refl
not_both true false m = refl
not_both false true m = refl
not_both false false m = refl

module _ (costs step : List ℕ) (has : Bool) (previous sheet : List ℕ) where
  -- the table by its tests: the lengths, whether the step is taken, and the conditions of 17 and 12
  abbrev tested : Bool → Bool → Bool → Bool → Bool → ℕ
  tested a b d l e = cond (not a) 1 (cond (not b) 2 (cond (not d) (step_number_on costs step) (cond l 17 (cond e 12 0))))

  abbrev misfit : Bool
  misfit = has && not (eqb (length previous) 100)

  pub accepted : sector_number costs step has previous sheet ≡ 0 → Accepted costs step has previous sheet
  unfolding sector_number
  accepted =
      go (eqb (length costs) 100) (eqb (length sheet) 100) (eqb (step_number_on costs step) 0) (lacks_previous step has) misfit refl refl refl refl refl
    where
      go : (a b d l e : Bool) → eqb (length costs) 100 ≡ a → eqb (length sheet) 100 ≡ b → eqb (step_number_on costs step) 0 ≡ d
          → lacks_previous step has ≡ l → misfit ≡ e → tested a b d l e ≡ 0 → Accepted costs step has previous sheet
      go false b d l e p q r s t n = absurd (omega arith)
      go true false d l e p q r s t n = absurd (omega arith)
      go true true false l e p q r s t n =
          let f : ◌≡◌ {A = ℕ} 0 1 = cc (eq-eqb (step_number_on costs step) 0 n) in
          absurd (omega arith)
      go true true true true e p q r s t n = absurd (omega arith)
      go true true true false true p q r s t n = absurd (omega arith)
      go true true true false false p q r s t n =
          record {
            costs_hundred = eqb-true _ _ p;
            sheet_hundred = eqb-true _ _ q;
            step_good = accepted_on costs step (eqb-true _ _ r);
            window_lent = s;
            previous_fits = t;
          }

  pub one_due : (length costs ≡ 100 → ⊥) → 1 ≡ sector_number costs step has previous sheet
  unfolding sector_number
  one_due h = rw (ne_eqb (length costs) 100 h)

  pub two_due : length costs ≡ 100 → (length sheet ≡ 100 → ⊥) → 2 ≡ sector_number costs step has previous sheet
  unfolding sector_number
  two_due p h = rw (eq-eqb (length costs) 100 p, ne_eqb (length sheet) 100 h)

  pub step_due : length costs ≡ 100 → length sheet ≡ 100 → (n : ℕ) → n ≡ step_number_on costs step → (n ≡ 0 → ⊥)
      → n ≡ sector_number costs step has previous sheet
  unfolding sector_number
  step_due p q n e h =
      rw (eq-eqb (length costs) 100 p, eq-eqb (length sheet) 100 q, ne_eqb (step_number_on costs step) 0 (λ z. h (e ∙ z))) e

  pub last_two : length costs ≡ 100 → length sheet ≡ 100 → step_number_on costs step ≡ 0 → (l h f : Bool) → lacks_previous step has ≡ l → has ≡ h
      → eqb (length previous) 100 ≡ f → sector_number costs step has previous sheet ≡ cond l 17 (cond (h && not f) 12 0)
  unfolding sector_number
  last_two p q r l h f s t u = rw (eq-eqb _ 100 p, eq-eqb _ 100 q, eq-eqb _ 0 r, s, t, u)

  pub seventeen_told : (sector_number costs step has previous sheet ≡ 17) ↔ WithoutPrevious costs step has sheet
  unfolding sector_number
  seventeen_told =
      (to (eqb (length costs) 100) (eqb (length sheet) 100) (eqb (step_number_on costs step) 0) (is_window step) has misfit refl refl refl refl refl, so)
    where
      to : (a b d w h e : Bool) → eqb (length costs) 100 ≡ a → eqb (length sheet) 100 ≡ b → eqb (step_number_on costs step) 0 ≡ d
          → is_window step ≡ w → has ≡ h → tested a b d (w && not h) e ≡ 17 → WithoutPrevious costs step has sheet
      to false b d w h e p q r s t n = absurd (omega arith)
      to true false d w h e p q r s t n = absurd (omega arith)
      to true true false w h e p q r s t n = absurd (never costs step n)
      to true true true true false e p q r s t n =
          record {
            costs_hundred = eqb-true _ _ p;
            sheet_hundred = eqb-true _ _ q;
            step_taken = eqb-true _ _ r;
            mark = eqb-true _ _ s;
            none_lent = t;
          }
      to true true true true true true p q r s t n = absurd (omega arith)
      to true true true true true false p q r s t n = absurd (omega arith)
      to true true true false h true p q r s t n = absurd (omega arith)
      to true true true false h false p q r s t n = absurd (omega arith)

      so : WithoutPrevious costs step has sheet → sector_number costs step has previous sheet ≡ 17
      so w =
          rw (eq-eqb _ 100 w.costs_hundred, eq-eqb _ 100 w.sheet_hundred, eq-eqb _ 0 w.step_taken, eq-eqb _ 1 w.mark, w.none_lent)

  pub sixteen_due : (sector_number costs step has previous sheet ≡ 16) ↔ TargetOnWall costs step sheet
  unfolding sector_number
  sixteen_due =
      (to (eqb (length costs) 100) (eqb (length sheet) 100) (eqb (step_number_on costs step) 0) (lacks_previous step has) misfit refl refl refl, so)
    where
      to : (a b d l e : Bool) → eqb (length costs) 100 ≡ a → eqb (length sheet) 100 ≡ b → eqb (step_number_on costs step) 0 ≡ d
          → tested a b d l e ≡ 16 → TargetOnWall costs step sheet
      to false b d l e p q r n = absurd (omega arith)
      to true false d l e p q r n = absurd (omega arith)
      to true true false l e p q r n =
          let w = (sixteen_told costs step).0 n in
          record { costs_hundred = eqb-true _ _ p; sheet_hundred = eqb-true _ _ q; step_good = w.0; wall = w.1 }
      to true true true true e p q r n = absurd (omega arith)
      to true true true false true p q r n = absurd (omega arith)
      to true true true false false p q r n = absurd (omega arith)

      so : TargetOnWall costs step sheet → sector_number costs step has previous sheet ≡ 16
      so w =
          rw (eq-eqb _ 100 w.costs_hundred, eq-eqb _ 100 w.sheet_hundred, (sixteen_told costs step).1 (w.step_good, w.wall))

  pub either_first : sector_number costs step has previous sheet
      ≡ first_number (row 1 (not (eqb (length costs) 100)) ∷ row 2 (not (eqb (length sheet) 100))
      ∷ row (step_number_on costs step) (not (eqb (step_number_on costs step) 0)) ∷ row 12 misfit ∷ row 17 (lacks_previous step has) ∷ [])
  unfolding sector_number
  either_first = rw (not_both (is_window step) has (not (eqb (length previous) 100)))
