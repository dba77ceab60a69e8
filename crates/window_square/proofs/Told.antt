-- Numbers 19 and 20 of the call for window costs are told by bytes, and by each step's mark and sector.
--     among, among_back    a step is not refused among the windows of a sector exactly if it is `AmongWindows`
--     twenty_step          and is refused with 20 exactly if 4 to 8 and 16 are not due, and it has no window or another sector
--     nineteen_told        19, of the call
--     twenty_told          20, of the call
-- Assumes nothing.
use mathlib.Core.Path.{◌≡◌, refl, sym, ap, ◌∙◌}
use mathlib.Core.Bool.{Bool, true, false, cond, not, ◌||◌}
use mathlib.Core.Logic.{◌⊎◌, inl, inr, ◌↔◌}
use mathlib.Core.List.{List, [], ◌∷◌}
use Prim.Native.Nat.{ℕ, zero, suc, ◌/◌, ◌%◌, ◌<◌}
use native.Mathlib.Omega.{arith}
use lib.Dec.{ltb, eqb}
use lib.ListN.{length, get_or}
use borrow.Author.Tests.{ltb-true, ltb-false, lt-ltb, le-ltb, eqb-true, eqb-false, eq-eqb, ne_eqb}
use Rattle.route.specs.Table.{first_number}
use Rattle.route.specs.Step.{sector_of, mark_of, is_window, each_step_on, step_number_on}
use Rattle.route.proofs.Accepted.{accepted_step}
use Rattle.route.proofs.NoneIs.{step_is}
use Rattle.route.proofs.Walls.{each_step_on_law, accepted_on}
use Rattle.step_list.specs.Steps.{steps_of, step_of}
use Rattle.step_list.proofs.Steps.{steps_count, step_of_law, step_long}
use Rattle.window_square.specs.Square.{window_step_number, window_step_rows, window_costs_number}
use Rattle.window_square.specs.Promise.{WrongCount, AmongWindows, NotAmong}
use Rattle.window_square.proofs.Numbers.{step_number_law}

-- ---- a step of 8 bytes

module _ (costs : List ℕ) (sector : ℕ) (s : List ℕ) (long : length s ≡ 8) where
  -- where it has no window, or is in another sector
  abbrev Elsewhere : Type 0
  Elsewhere = (mark_of s ≡ 0) ⊎ (sector_of s ≡ sector → ⊥)

  on : step_number_on costs s ≡ each_step_on costs s
  on = each_step_on_law costs s long

  -- its number, by its tests: whether it is refused before, its mark, and its sector
  tested : (a b d : Bool) → eqb (each_step_on costs s) 0 ≡ a → is_window s ≡ b → eqb (sector_of s) sector ≡ d
      → window_step_number costs sector s ≡ cond a (cond (not b || not d) 20 0) (each_step_on costs s)
  tested a b d p q r = step_number_law costs sector s ∙ rw (p, q, r)

  among : window_step_number costs sector s ≡ 0 → AmongWindows costs sector s
  among z = go (eqb (each_step_on costs s) 0) (is_window s) (eqb (sector_of s) sector) refl refl refl
    where
      go : (a b d : Bool) → eqb (each_step_on costs s) 0 ≡ a → is_window s ≡ b → eqb (sector_of s) sector ≡ d → AmongWindows costs sector s
      go true true true p q r = record { taken = on ∙ eqb-true _ 0 p; mark = eqb-true _ 1 q; same = eqb-true _ _ r }
      go true true false p q r = absurd (omega (arith, sym (tested true true false p q r) ∙ z))
      go true false d p q r = absurd (omega (arith, sym (tested true false d p q r) ∙ z))
      go false b d p q r = absurd (eqb-false _ 0 p (sym (tested false b d p q r) ∙ z))

  among_back : AmongWindows costs sector s → window_step_number costs sector s ≡ 0
  among_back m =
      tested true true true (eq-eqb _ 0 (sym on ∙ m.taken)) (eq-eqb _ 1 m.mark) (eq-eqb _ _ m.same)

  twenty_step : window_step_number costs sector s ≡ 20 → (step_number_on costs s ≡ 0) × Elsewhere
  twenty_step e = go (eqb (each_step_on costs s) 0) (is_window s) (eqb (sector_of s) sector) refl refl refl
    where
      go : (a b d : Bool) → eqb (each_step_on costs s) 0 ≡ a → is_window s ≡ b → eqb (sector_of s) sector ≡ d → (step_number_on costs s ≡ 0) × Elsewhere
      go true true true p q r = absurd (omega (arith, sym (tested true true true p q r) ∙ e))
      go true true false p q r = (on ∙ eqb-true _ 0 p, inr (eqb-false _ _ r))
      go true false d p q r =
          let z : step_number_on costs s ≡ 0 = on ∙ eqb-true _ 0 p in
          (z, inl (omega (arith, (accepted_step s (accepted_on costs s z)).mark_in, eqb-false (mark_of s) 1 q)))
      go false b d p q r = absurd (step_is 19 costs s refl (sym (tested false b d p q r) ∙ e))

  step_twenty : step_number_on costs s ≡ 0 → Elsewhere → window_step_number costs sector s ≡ 20
  step_twenty z (inl m) =
      tested true false (eqb (sector_of s) sector) (eq-eqb _ 0 (sym on ∙ z)) (ne_eqb (mark_of s) 1 (λ e. omega (arith, e, m))) refl
  step_twenty z (inr o) = go (is_window s) refl
    where
      go : (b : Bool) → is_window s ≡ b → window_step_number costs sector s ≡ 20
      go true q = tested true true false (eq-eqb _ 0 (sym on ∙ z)) q (ne_eqb _ _ o)
      go false q = tested true false false (eq-eqb _ 0 (sym on ∙ z)) q (ne_eqb _ _ o)

-- ---- the first step that is refused, with a number

record First (number : List ℕ → ℕ) (n : ℕ) (ss : List (List ℕ)) : Type 0 where
  place : ℕ
  inside : place < length ss
  here : number (get_or ss place []) ≡ n
  before : (j : ℕ) → j < place → number (get_or ss j []) ≡ 0

module _ (costs : List ℕ) (sector : ℕ) where
  abbrev number : List ℕ → ℕ
  number = window_step_number costs sector

  first : (n : ℕ) (ss : List (List ℕ)) → first_number (window_step_rows costs sector ss) ≡ suc n → First number (suc n) ss
  first n [] e = absurd (omega arith)
  first n (s ∷ ss) e = go (eqb (number s) 0) refl e (first n ss)
    where
      from : number s ≡ 0 → (r : First number (suc n) ss) → (j : ℕ) → j < suc r.place → number (get_or (s ∷ ss) j []) ≡ 0
      from z r zero h = z
      from z r (suc j) h = r.before j (omega arith)

      go : (b : Bool) → eqb (number s) 0 ≡ b → cond (not b) (number s) (first_number (window_step_rows costs sector ss)) ≡ suc n
          → (first_number (window_step_rows costs sector ss) ≡ suc n → First number (suc n) ss) → First number (suc n) (s ∷ ss)
      go true q e ih =
          let r = ih e in
          record { place = suc r.place; inside = omega (arith, r.inside); here = r.here; before = from (eqb-true _ 0 q) r }
      go false q e ih = record { place = 0; inside = omega arith; here = e; before = λ j h. absurd (omega arith) }

  found : (n : ℕ) (ss : List (List ℕ)) (k : ℕ) → k < length ss → number (get_or ss k []) ≡ suc n → ((j : ℕ) → j < k → number (get_or ss j []) ≡ 0)
      → first_number (window_step_rows costs sector ss) ≡ suc n
  found n [] k h e before = absurd (omega arith)
  found n (s ∷ ss) zero h e before = rw (e, ne_eqb (suc n) 0 (λ q. omega arith))
  found n (s ∷ ss) (suc k) h e before = rw (before 0 (omega arith)) (found n ss k (omega arith) e (λ j g. before (suc j) (omega arith)))

-- ---- the call

module _ (costs steps : List ℕ) where
  abbrev ss : List (List ℕ)
  ss = steps_of steps

  abbrev sector : ℕ
  sector = sector_of (step_of ss 0)

  -- what is below 19
  abbrev rest : ℕ
  rest = first_number (window_step_rows costs sector ss)

  long : (k : ℕ) → k < length ss → length (get_or ss k []) ≡ 8
  long k h =
      let g : k < length steps / 8 = omega (arith, steps_count steps) in
      ap length (step_of_law steps k g) ∙ step_long steps k g

  -- no step is refused with 19
  never : rest ≡ 19 → ⊥
  never e =
      let f = first costs sector 18 ss e in
      let s = get_or ss f.place [] in
      go s f.here (eqb (each_step_on costs s) 0) (is_window s) (eqb (sector_of s) sector) (long f.place f.inside) refl refl refl
    where
      go : (s : List ℕ) → window_step_number costs sector s ≡ 19 → (a b d : Bool) → length s ≡ 8 → eqb (each_step_on costs s) 0 ≡ a → is_window s ≡ b
          → eqb (sector_of s) sector ≡ d → ⊥
      go s e true true true l p q r = omega (arith, sym (tested costs sector s l true true true p q r) ∙ e)
      go s e true true false l p q r = omega (arith, sym (tested costs sector s l true true false p q r) ∙ e)
      go s e true false d l p q r = omega (arith, sym (tested costs sector s l true false d p q r) ∙ e)
      go s e false b d l p q r = step_is 18 costs s refl (sym (tested costs sector s l false b d p q r) ∙ e)

  pub nineteen_told : (window_costs_number costs steps ≡ 19) ↔ WrongCount costs steps
  unfolding window_costs_number
  nineteen_told = (to (eqb (length costs) 100) (eqb (length steps % 8) 0) (ltb (length ss) 2) (ltb 8 (length ss)) refl refl refl refl, so)
    where
      to : (a b c d : Bool) → eqb (length costs) 100 ≡ a → eqb (length steps % 8) 0 ≡ b → ltb (length ss) 2 ≡ c → ltb 8 (length ss) ≡ d
          → cond (not a) 1 (cond (not b) 3 (cond (c || d) 19 rest)) ≡ 19 → WrongCount costs steps
      to false b c d p q r s e = absurd (omega arith)
      to true false c d p q r s e = absurd (omega arith)
      to true true true d p q r s e = record {
        costs_hundred = eqb-true _ _ p;
        whole = eqb-true _ _ q;
        count = inl (omega (arith, steps_count steps, ltb-true (length ss) 2 r, eqb-true (length steps % 8) 0 q));
      }
      to true true false true p q r s e = record {
        costs_hundred = eqb-true _ _ p;
        whole = eqb-true _ _ q;
        count = inr (omega (arith, steps_count steps, ltb-true 8 (length ss) s, eqb-true (length steps % 8) 0 q));
      }
      to true true false false p q r s e = absurd (never e)

      counted : (length steps < 16) ⊎ (64 < length steps) → length steps % 8 ≡ 0 → (ltb (length ss) 2 || ltb 8 (length ss)) ≡ true
      counted (inl h) w = rw (lt-ltb (length ss) 2 (omega (arith, steps_count steps)))
      counted (inr h) w = go (ltb (length ss) 2) (lt-ltb 8 (length ss) (omega (arith, steps_count steps)))
        where
          go : (b : Bool) → ltb 8 (length ss) ≡ true → (b || ltb 8 (length ss)) ≡ true
          go true e = refl
          go false e = e

      so : WrongCount costs steps → window_costs_number costs steps ≡ 19
      so w = rw (eq-eqb _ 100 w.costs_hundred, eq-eqb _ 0 w.whole, counted w.count w.whole)

  pub twenty_told : (window_costs_number costs steps ≡ 20) ↔ NotAmong costs steps
  unfolding window_costs_number
  twenty_told = (to (eqb (length costs) 100) (eqb (length steps % 8) 0) (ltb (length ss) 2) (ltb 8 (length ss)) refl refl refl refl, so)
    where
      to : (a b c d : Bool) → eqb (length costs) 100 ≡ a → eqb (length steps % 8) 0 ≡ b → ltb (length ss) 2 ≡ c → ltb 8 (length ss) ≡ d
          → cond (not a) 1 (cond (not b) 3 (cond (c || d) 19 rest)) ≡ 20 → NotAmong costs steps
      to false b c d p q r s e = absurd (omega arith)
      to true false c d p q r s e = absurd (omega arith)
      to true true true d p q r s e = absurd (omega arith)
      to true true false true p q r s e = absurd (omega arith)
      to true true false false p q r s e =
          let f = first costs sector 19 ss e in
          let w = twenty_step costs sector (get_or ss f.place []) (long f.place f.inside) f.here in
          let whole = eqb-true (length steps % 8) 0 q in
          record {
            costs_hundred = eqb-true _ _ p;
            whole = whole;
            some = omega (arith, steps_count steps, ltb-false (length ss) 2 r, whole);
            few = omega (arith, steps_count steps, ltb-false 8 (length ss) s, whole);
            place = f.place;
            inside = f.inside;
            taken = w.0;
            why = w.1;
            before = λ j h. (let i = f.inside in among costs sector (get_or ss j []) (long j (omega arith)) (f.before j h));
          }

      so : NotAmong costs steps → window_costs_number costs steps ≡ 20
      so w =
          let here = step_twenty costs sector (get_or ss w.place []) (long w.place w.inside) w.taken w.why in
          let i = w.inside in
          let at = found costs sector 19 ss w.place i here (λ j h. among_back costs sector (get_or ss j []) (long j (omega arith)) (w.before j h)) in
          rw (
            eq-eqb _ 100 w.costs_hundred,
            eq-eqb _ 0 w.whole,
            le-ltb (length ss) 2 (omega (arith, steps_count steps, w.some)),
            le-ltb 8 (length ss) (omega (arith, steps_count steps, w.few)),
            at,
          )
