-- A look, direction by direction, whatever the cells are.
-- A direction leaves a look as it was, takes what is seen there, ends the look, or makes the direction the best so far. `Kept` asks of a fact that it
-- holds after each of these four; `came` then gives it after one more direction, and `along` after all of them.
--     aims              a look comes to no direction, or to that of a cell that it sees
--     is_taking         whether a goal or a portal is seen in a direction
--     passes, sees_on   a look passes over a direction, whatever it has found so far, exactly where it sees nothing there
--     nothing           where nothing that it sees is reached: it comes to no direction
-- Assumes nothing.
use mathlib.Core.Path.{◌≡◌, refl, sym, ap, ◌∙◌}
use mathlib.Core.Bool.{Bool, true, false, true≢false, cond, ◌||◌}
use mathlib.Core.Logic.{◌⊎◌, inl, inr}
use mathlib.Core.List.{List, [], ◌∷◌}
use Prim.Native.Nat.{ℕ, ◌^◌, ◌≤◌, ◌<◌}
use native.Mathlib.Omega.{arith}
use lib.Dec.{ltb, eqb}
use lib.ListN.{get_or}
use borrow.Author.Tests.{ltb-true, ltb-false, eqb-true}
use Rattle.utilities.specs.declared.CompassDir.{CompassDir}
use Rattle.utilities.specs.declared.CompassDir.TheVariants.{Zero}
use Rattle.utilities.specs.Compass.{all}
use Rattle.fields.specs.declared.FieldCell.{FieldCell}
use Rattle.std.specs.Prelude.{Option, Some, None}
use Rattle.fields.specs.Cell.{index_of, cell_at, stepped}
use Rattle.fields.proofs.Steps.{index_of_cell}
use Rattle.integration_field.specs.Word.{low, is_goal, is_portal}
use Rattle.flow_byte.specs.Look.{Look, Looking, Taken, Ended, is_passed_over, seen, seen_at, look_at, look_along, look_around}
use Rattle.flow_arrows.proofs.Around.{Sees, open_sees, sees_open}

module _ (cells : List ℕ) (i : ℕ) where
  abbrev pub the_value_at : ℕ → ℕ
  the_value_at n = low (get_or cells n 0)

  abbrev pub is_taken : ℕ → Bool
  is_taken n = is_goal (get_or cells n 0) || is_portal (get_or cells n 0)

  -- P holds after a look in direction d, with the best so far and its value, by what the direction comes to
  pub record Kept (P : Look → Type 0) (d best : CompassDir) (value : ℕ) : Type 0 where
    pub left : ((n : ℕ) → Sees cells i d n → (is_taken n ≡ false) × (value ≤ the_value_at n)) → P (Looking best value)
    pub taken : (n : ℕ) → Sees cells i d n → is_taken n ≡ true → P (Taken d)
    pub ended : (n : ℕ) → Sees cells i d n → is_taken n ≡ false → the_value_at n ≡ 65535 → P (Ended best)
    pub better : (n : ℕ) → Sees cells i d n → is_taken n ≡ false → the_value_at n < value → P (Looking d (the_value_at n))

  -- a direction arrives at one cell
  pub one_cell : {d : CompassDir} {n m : ℕ} → Sees cells i d n → Sees cells i d m → n ≡ m
  one_cell {n = n} {m = m} s t = let q : cell_at n ≡ cell_at m = cc (s.steps, t.steps) in sym (index_of_cell n) ∙ ap index_of q ∙ index_of_cell m

  -- in direction d a goal or a portal is seen
  abbrev pub Takes : CompassDir → Type 0
  Takes d = (n : ℕ) × Sees cells i d n × (is_taken n ≡ true)

  takes_not : {d : CompassDir} (n : ℕ) → Sees cells i d n → is_taken n ≡ false → Takes d → ⊥
  takes_not n s e t = true≢false (sym t.2 ∙ ap is_taken (one_cell t.1 s) ∙ e)

  module _ (h : i < 100) where
    came_cell : (P : Look → Type 0) (d best : CompassDir) (value : ℕ) → Kept P d best value → (c : FieldCell) → stepped (cell_at i) d ≡ Some c
        → P (seen cells i d (index_of c) best value)
    unfolding seen
    came_cell P d best value kept c e =
        test (is_passed_over cells i n) (λ o. kept.left (λ m s. absurd (true≢false (sym o ∙ ap (is_passed_over cells i) (same m s) ∙ sees_open s))))
        (λ o.
        let s = open_sees cells i h d c e o in
        test (is_taken n) (λ t. kept.taken n s t)
        (λ t. test (eqb (the_value_at n) 65535) (λ q. kept.ended n s t (eqb-true (the_value_at n) 65535 q))
        (λ q. test (ltb (the_value_at n) value) (λ v. kept.better n s t (ltb-true (the_value_at n) value v))
        (λ v. kept.left (λ m r. rw (← same m r) (t, ltb-false (the_value_at n) value v))))))
      where
        n : ℕ
        n = index_of c

        same : (m : ℕ) → Sees cells i d m → n ≡ m
        same m s = let q : c ≡ cell_at m = cc (e, s.steps) in ap index_of q ∙ index_of_cell m

        -- one test of the look
        test : {l r : Look} (b : Bool) → (b ≡ true → P l) → (b ≡ false → P r) → P (cond b l r)
        test true f g = f refl
        test false f g = g refl

    pub came : (P : Look → Type 0) (d best : CompassDir) (value : ℕ) → Kept P d best value → P (look_at cells i (Looking best value) d)
    came P d best value kept = at_step (stepped (cell_at i) d) refl
      where
        at_step : (t : Option FieldCell) → stepped (cell_at i) d ≡ t → P (seen_at cells i d t best value)
        at_step (Some c) e = came_cell P d best value kept c e
        at_step None e = kept.left (λ n s. absurd (let z : ◌≡◌ {A = ℕ} 0 1 = cc (e, s.steps) in omega arith))

    -- what was taken or has ended stays
    pub along : (P : Look → Type 0) → ((d best : CompassDir) (value : ℕ) → P (Looking best value) → Kept P d best value)
        → (ds : List CompassDir) (l : Look) → P l → P (look_along cells i ds l)
    along P kept [] l p = p
    along P kept (d ∷ ds) l p = along P kept ds (look_at cells i l d) (once l p)
      where
        once : (l : Look) → P l → P (look_at cells i l d)
        once (Looking best value) p = came P d best value (kept d best value p)
        once (Taken e) p = p
        once (Ended e) p = p

    -- ---- where a look ends

    -- no direction, or that of a cell that the look sees
    abbrev pub Toward : CompassDir → Type 0
    Toward d = (d ≡ Zero) ⊎ ((n : ℕ) × Sees cells i d n)

    abbrev pub Aims : Look → Type 0
    Aims (Looking best value) = Toward best
    Aims (Taken d) = Toward d
    Aims (Ended best) = Toward best

    pub aims : Aims (look_around cells i)
    unfolding look_around
    aims =
        along Aims (λ d best value p. record { left = λ f. p; taken = λ n s t. inr (n, s); ended = λ n s t v. p; better = λ n s t v. inr (n, s) })
        all (Looking Zero 65535) (inl refl)

    -- ---- one direction

    pub is_taking : (d : CompassDir) → Dec (Takes d)
    is_taking d =
        came (λ l. Dec (Takes d)) d Zero 65535 (record {
          left = λ f. no (λ t. takes_not t.0 t.1 (f t.0 t.1).0 t);
          taken = λ n s t. yes (n, s, t);
          ended = λ n s t v. no (takes_not n s t);
          better = λ n s t v. no (takes_not n s t);
        })

    -- where nothing is seen, the look goes on as it was
    pub passes : (d best : CompassDir) (value : ℕ) → ((n : ℕ) → Sees cells i d n → ⊥) → look_at cells i (Looking best value) d ≡ Looking best value
    passes d best value none =
        came (λ l. l ≡ Looking best value) d best value
        (record { left = λ f. refl; taken = λ n s t. absurd (none n s); ended = λ n s t v. absurd (none n s); better = λ n s t v. absurd (none n s) })

    -- what is seen changes some look: the first, of a value above every cost
    abbrev Changed : Look → Type 0
    Changed (Looking best value) = value < 2 ^ 16
    Changed (Taken d) = Unit
    Changed (Ended best) = Unit

    pub sees_on : (d : CompassDir) (n : ℕ) → Sees cells i d n → look_at cells i (Looking Zero (2 ^ 16)) d ≡ Looking Zero (2 ^ 16) → ⊥
    sees_on d n s q = let c = rw q at changed in omega (arith, c)
      where
        changed : Changed (look_at cells i (Looking Zero (2 ^ 16)) d)
        changed =
            came Changed d Zero (2 ^ 16)
            (record { left = λ f. absurd (omega (arith, (f n s).1)); taken = λ n s t. tt; ended = λ n s t v. tt; better = λ n s t v. v })

    -- ---- nothing that is seen is reached

    module _ (unreached : (d : CompassDir) (n : ℕ) → Sees cells i d n → (the_value_at n ≡ 65535) × (is_taken n ≡ false)) where
      abbrev pub Nothing : Look → Type 0
      Nothing (Looking best value) = (best ≡ Zero) × (value ≡ 65535)
      Nothing (Taken d) = ⊥
      Nothing (Ended best) = best ≡ Zero

      pub nothing : Nothing (look_around cells i)
      unfolding look_around
      nothing =
          along Nothing (λ d best value p. record {
            left = λ f. p;
            taken = λ n s t. true≢false (sym t ∙ (unreached d n s).1);
            ended = λ n s t v. p.0;
            better = λ n s t v. absurd (omega (arith, (unreached d n s).0, p.1));
          }) all (Looking Zero 65535) (refl, refl)
