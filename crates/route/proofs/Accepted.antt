-- What is known of a step, and of a list of steps, that is not refused.
--     each_step_law         of 8 bytes, 3 does not come: numbers 4 to 8 alone decide
--     accepted_step     its 8 bytes, its sector and its mark
--     accepted_goal     without a window: its goal is a cell
--     accepted_window   with a window: both cells are cells of the named edge, in order
--     accepted_list     a list: 1 to 16 whole steps
-- Assumes nothing.
use mathlib.Core.Path.{◌≡◌, refl}
use mathlib.Core.Bool.{Bool, true, false, not, cond, ◌&&◌, ◌||◌}
use mathlib.Core.List.{List}
use Prim.Native.Nat.{ℕ, suc, ◌<◌, ◌≤◌, ◌%◌}
use native.Mathlib.Omega.{arith}
use lib.Dec.{ltb, eqb}
use lib.ListN.{length, get_or}
use borrow.Author.Tests.{ltb-false, eqb-true, eqb-false, eq-eqb, not-false}
use Rattle.route.specs.Window.{on_edge}
use Rattle.route.specs.Step.{sector_of, goal_of, mark_of, first_of, last_of, boundary_byte, boundary_of}
use Rattle.route.specs.Step.{is_goal, is_window, each_step, step_number, no_step_list}

pub each_step_law : (s : List ℕ) → length s ≡ 8 → step_number s ≡ each_step s
unfolding step_number each_step
each_step_law s e = rw (eq-eqb (length s) 8 e)

-- a line that does not hold lets the next decide
not_this : (b : Bool) (n rest : ℕ) → cond b (suc n) rest ≡ 0 → (b ≡ false) × (rest ≡ 0)
not_this true n rest e = absurd (omega arith)
not_this false n rest e = (refl, e)

neither : (a b : Bool) → (a || b) ≡ false → (a ≡ false) × (b ≡ false)
neither true b e = let z : ◌≡◌ {A = ℕ} 0 1 = cc in absurd (omega arith)
neither false b e = (refl, e)

unmet : (a b : Bool) → a ≡ true → (a && b) ≡ false → b ≡ false
unmet true b t e = e
unmet false b t e = let z : ◌≡◌ {A = ℕ} 0 1 = cc in absurd (omega arith)

both : (a b : Bool) → not (a && b) ≡ false → (a ≡ true) × (b ≡ true)
both true true e = (refl, refl)
both true false e = let z : ◌≡◌ {A = ℕ} 0 1 = cc in absurd (omega arith)
both false b e = let z : ◌≡◌ {A = ℕ} 0 1 = cc in absurd (omega arith)

pub record Step (s : List ℕ) : Type 0 where
  pub bytes : length s ≡ 8
  pub sector_in : sector_of s < 64
  pub mark_in : mark_of s ≤ 1

pub record Window (s : List ℕ) : Type 0 where
  pub first_in : first_of s < 100
  pub last_in : last_of s < 100
  pub boundary_in : boundary_byte s < 4
  pub first_on : on_edge (boundary_of s) (first_of s) ≡ true
  pub last_on : on_edge (boundary_of s) (last_of s) ≡ true
  pub in_order : first_of s ≤ last_of s

-- no line holds
record Passed (s : List ℕ) : Type 0 where
  three : not (eqb (length s) 8) ≡ false
  four : (ltb 63 (sector_of s) || ltb 1 (mark_of s) || not (eqb (get_or s 6 0) 0) || not (eqb (get_or s 7 0) 0)) ≡ false
  five : (is_goal s && ltb 99 (goal_of s)) ≡ false
  six : (is_window s && (ltb 99 (first_of s) || ltb 99 (last_of s) || ltb 3 (boundary_byte s))) ≡ false
  seven : (is_window s && not (on_edge (boundary_of s) (first_of s) && on_edge (boundary_of s) (last_of s))) ≡ false
  eight : (is_window s && ltb (last_of s) (first_of s)) ≡ false

passed : (s : List ℕ) → step_number s ≡ 0 → Passed s
unfolding step_number
passed s e =
    let p₃ = not_this (not (eqb (length s) 8)) 2 _ e in
    let p₄ = not_this (ltb 63 (sector_of s) || ltb 1 (mark_of s) || not (eqb (get_or s 6 0) 0) || not (eqb (get_or s 7 0) 0)) 3 _ p₃.1 in
    let p₅ = not_this (is_goal s && ltb 99 (goal_of s)) 4 _ p₄.1 in
    let p₆ = not_this (is_window s && (ltb 99 (first_of s) || ltb 99 (last_of s) || ltb 3 (boundary_byte s))) 5 _ p₅.1 in
    let p₇ = not_this (is_window s && not (on_edge (boundary_of s) (first_of s) && on_edge (boundary_of s) (last_of s))) 6 _ p₆.1 in
    let p₈ = not_this (is_window s && ltb (last_of s) (first_of s)) 7 _ p₇.1 in
    record { three = p₃.0; four = p₄.0; five = p₅.0; six = p₆.0; seven = p₇.0; eight = p₈.0 }

pub accepted_step : (s : List ℕ) → step_number s ≡ 0 → Step s
accepted_step s e =
    let p = passed s e in
    let q = neither (ltb 63 (sector_of s) || ltb 1 (mark_of s) || not (eqb (get_or s 6 0) 0)) _ p.four in
    let r = neither (ltb 63 (sector_of s) || ltb 1 (mark_of s)) _ q.0 in
    let t = neither (ltb 63 (sector_of s)) (ltb 1 (mark_of s)) r.0 in
    record {
      bytes = eqb-true (length s) 8 (not-false (eqb (length s) 8) p.three);
      sector_in = omega (arith, ltb-false 63 (sector_of s) t.0);
      mark_in = ltb-false 1 (mark_of s) t.1;
    }

pub accepted_goal : (s : List ℕ) → step_number s ≡ 0 → is_window s ≡ false → goal_of s < 100
accepted_goal s e w =
    let a = accepted_step s e in
    let m : mark_of s ≡ 0 = omega (arith, a.mark_in, eqb-false (mark_of s) 1 w) in
    omega (arith, ltb-false 99 (goal_of s) (unmet (is_goal s) (ltb 99 (goal_of s)) (eq-eqb (mark_of s) 0 m) (passed s e).five))

pub accepted_window : (s : List ℕ) → step_number s ≡ 0 → is_window s ≡ true → Window s
accepted_window s e w =
    let p = passed s e in
    let q₆ = unmet (is_window s) _ w p.six in
    let q₇ = unmet (is_window s) _ w p.seven in
    let q₈ = unmet (is_window s) _ w p.eight in
    let r = neither (ltb 99 (first_of s) || ltb 99 (last_of s)) (ltb 3 (boundary_byte s)) q₆ in
    let t = neither (ltb 99 (first_of s)) (ltb 99 (last_of s)) r.0 in
    let o = both (on_edge (boundary_of s) (first_of s)) (on_edge (boundary_of s) (last_of s)) q₇ in
    record {
      first_in = omega (arith, ltb-false 99 (first_of s) t.0);
      last_in = omega (arith, ltb-false 99 (last_of s) t.1);
      boundary_in = omega (arith, ltb-false 3 (boundary_byte s) r.1);
      first_on = o.0;
      last_on = o.1;
      in_order = ltb-false (last_of s) (first_of s) q₈;
    }

pub record StepList (steps : List ℕ) : Type 0 where
  pub some : 8 ≤ length steps
  pub few : length steps ≤ 128
  pub whole : length steps % 8 ≡ 0

pub accepted_list : (steps : List ℕ) → no_step_list steps ≡ false → StepList steps
unfolding no_step_list
accepted_list steps e =
    let p = neither (eqb (length steps) 0 || ltb 128 (length steps)) _ e in
    let q = neither (eqb (length steps) 0) (ltb 128 (length steps)) p.0 in
    let z = eqb-false (length steps) 0 q.0 in
    let w = eqb-true (length steps % 8) 0 (not-false (eqb (length steps % 8) 0) p.1) in
    record { some = omega arith; few = ltb-false 128 (length steps) q.1; whole = w }
