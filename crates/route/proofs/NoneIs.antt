-- A number that no line of a table has is not the table's.
--     none_is_law      of any table
--     none_both    of two tables, one below the other
--     step_is      a step's own lines, 4 to 8 and 16
-- Assumes nothing.
use mathlib.Core.Path.{◌≡◌, refl, sym}
use mathlib.Core.Bool.{Bool, true, false, true≢false, and-eq-true_iff, cond, not, ◌&&◌}
use mathlib.Core.List.{List, [], ◌∷◌, ◌++◌}
use Prim.Native.Nat.{ℕ, suc}
use native.Mathlib.Omega.{arith}
use lib.Dec.{eqb}
use borrow.Author.Tests.{eqb-false}
use Rattle.route.specs.Table.{Row, first_number}
use Rattle.route.specs.Step.{step_rows_on, each_step_on}

-- no line has this number
abbrev pub none_is : ℕ → List Row → Bool
none_is n [] = true
none_is n (r ∷ rs) = not (eqb r.number n) && none_is n rs

pub none_is_law : (n : ℕ) (rs : List Row) → none_is (suc n) rs ≡ true → first_number rs ≡ suc n → ⊥
none_is_law n [] e f = omega arith
none_is_law n (r ∷ rs) e f =
    let p = (and-eq-true_iff (not (eqb r.number (suc n))) (none_is (suc n) rs)).0 e in
    go r.holds (eqb r.number (suc n)) refl p.0 (none_is_law n rs p.1) f
  where
    go : (b t : Bool) → eqb r.number (suc n) ≡ t → not t ≡ true → (first_number rs ≡ suc n → ⊥) → cond b r.number (first_number rs) ≡ suc n → ⊥
    go true true q s ih g = true≢false (sym s)
    go true false q s ih g = eqb-false r.number (suc n) q g
    go false t q s ih g = ih g

pub none_both : (n : ℕ) (rs others : List Row) → none_is n rs ≡ true → none_is n others ≡ true → none_is n (rs ++ others) ≡ true
none_both n [] others e f = f
none_both n (r ∷ rs) others e f =
    let p = (and-eq-true_iff (not (eqb r.number n)) (none_is n rs)).0 e in
    (and-eq-true_iff (not (eqb r.number n)) (none_is n (rs ++ others))).1 (p.0, none_both n rs others p.1 f)

pub step_is : (n : ℕ) (costs step : List ℕ) → none_is (suc n) (step_rows_on costs step) ≡ true → each_step_on costs step ≡ suc n → ⊥
unfolding each_step_on
step_is n costs step = none_is_law n (step_rows_on costs step)
