-- Waves come to rest: each wave that changes a cell lowers the sum of the words, so that one changes none. The definition of the
-- built field leans on this, and on nothing else, to be a total function. That the total of the values falls too is `proofs/Rest.antt`,
-- and how soon waves come to rest `proofs/Least.antt`.
-- Assumes nothing.
use Rattle.std.specs.Prelude.{◌≡◌, Bool, true, false, cond, ◌⊎◌, get_or, set, Option, Some, None}
use Rattle.std.proofs.Math.Path.{refl}
use Rattle.std.proofs.Common.{ap, ◌∙◌, inr, arith, ltb-true, eq-eqb}
use Rattle.std.proofs.Math.Bool.{and-eq-true_iff}
use Rattle.std.proofs.Math.Logic.{inl}
use mathlib.Core.List.{List, [], ◌∷◌}
use Rattle.std.proofs.Math.Decide.{dec_lt}
use Prim.Native.Nat.{ℕ, zero, suc, ◌+◌, ◌≤◌, ◌<◌}
use Rattle.utilities.specs.declared.CompassDir.{CompassDir}
use Rattle.utilities.specs.Compass.{orthogonal}
use Rattle.fields.specs.declared.FieldCell.{FieldCell}
use Rattle.fields.specs.Cell.{index_of, cell_at, stepped}
use Rattle.integration_field.specs.Word.{low, is_open}
use Rattle.integration_field.specs.Wave.{is_written, relaxed, offered, offered_around, offered_by, changed_from, Wave, next}

-- the wave after n more waves from w on changes no cell
abbrev pub Rests : List ℕ → ℕ → Wave → Type 0
Rests costs zero w = (next costs w).changed ≡ []
Rests costs (suc n) w = Rests costs n (next costs w)

-- the total of the values
unfoldable pub total : List ℕ → ℕ
total [] = 0
total (w ∷ ws) = low w + total ws

-- the sum of the words, flags and all
abbrev pub sum_of_words : List ℕ → ℕ
sum_of_words [] = 0
sum_of_words (w ∷ ws) = w + sum_of_words ws

-- either no cell has changed, or the sum is lower
abbrev Lowered : List ℕ → List ℕ → Type 0
Lowered a b = (b ≡ a) ⊎ (sum_of_words b < sum_of_words a)

then : {a b c : List ℕ} → Lowered a b → Lowered b c → Lowered a c
then (inl p) (inl q) = inl (q ∙ p)
then (inl p) (inr m) = inr (omega (arith, ap sum_of_words p))
then (inr l) (inl q) = inr (omega (arith, ap sum_of_words q))
then (inr l) (inr m) = inr (omega arith)

set_lower : (cells : List ℕ) (x v : ℕ) → v < get_or cells x 0 → sum_of_words (set cells x v) < sum_of_words cells
set_lower [] x v h = absurd (omega arith)
set_lower (w ∷ ws) zero v h = omega arith
set_lower (w ∷ ws) (suc x) v h = omega (arith, set_lower ws x v h)

set_same : (cells : List ℕ) (x v : ℕ) → v ≡ get_or cells x 0 → set cells x v ≡ cells
set_same [] x v e = refl
set_same (w ∷ ws) zero v e = ap (λ (k : ℕ). k ∷ ws) e
set_same (w ∷ ws) (suc x) v e = ap (λ (l : List ℕ). w ∷ l) (set_same ws x v e)

-- a number that is no more than the word at a place is put there
put_lowered : (cells : List ℕ) (x v : ℕ) → v ≤ get_or cells x 0 → Lowered cells (set cells x v)
put_lowered cells x v h =
    elim (dec_lt v (get_or cells x 0)) [ yes l ↦ inr (set_lower cells x v l) | no l ↦ inl (set_same cells x v (omega arith)) ]

lowered_if : (b : Bool) (cells r : List ℕ) → (b ≡ true → Lowered cells r) → Lowered cells (cond b r cells)
lowered_if true cells r h = h refl
lowered_if false cells r h = inl refl

-- a sum that is written is no more than the cell's value, and this no more than its word
relaxed_lowered : (s x : ℕ) (cells : List ℕ) → Lowered cells (relaxed s x cells)
unfolding relaxed
relaxed_lowered s x cells =
    lowered_if (is_written (get_or cells x 0) s) cells _
    (λ e. put_lowered cells x _ (omega (arith, ltb-true s _ ((and-eq-true_iff (is_open (get_or cells x 0)) _).0 e).1)))

module _ (costs : List ℕ) where
  step_lowered : (v : ℕ) (t : Option FieldCell) (cells : List ℕ) → Lowered cells (offered costs v t cells)
  step_lowered v (Some c) cells = relaxed_lowered _ (index_of c) cells
  step_lowered v None cells = inl refl

  around_lowered : (v : ℕ) (c : FieldCell) (ds : List CompassDir) (cells : List ℕ) → Lowered cells (offered_around costs v c ds cells)
  unfolding offered_around
  around_lowered v c [] cells = inl refl
  around_lowered v c (d ∷ ds) cells = then (step_lowered v (stepped c d) cells) (around_lowered v c ds _)

  wave_lowered : (old is cells : List ℕ) → Lowered cells (offered_by costs old is cells)
  unfolding offered_by
  wave_lowered old [] cells = inl refl
  wave_lowered old (i ∷ is) cells = then (around_lowered _ (cell_at i) orthogonal cells) (wave_lowered old is _)

  pub none_changed : (i : ℕ) (cells : List ℕ) → changed_from i cells cells ≡ []
  unfolding changed_from
  none_changed i [] = refl
  none_changed i (a ∷ as') = rw (eq-eqb a a refl) (none_changed (suc i) as')

  -- a wave that changed no cell is followed by such waves
  pub rests_on : (n : ℕ) (cells : List ℕ) → Rests costs n (record { cells = cells; changed = [] })
  unfolding next offered_by
  rests_on zero cells = none_changed 0 cells
  rests_on (suc n) cells = rw (none_changed 0 cells) (rests_on n cells)

  pub same_next : (w : Wave) → (next costs w).cells ≡ w.cells → next costs w ≡ record { cells = w.cells; changed = [] }
  unfolding next
  same_next w e = rw (e, none_changed 0 w.cells)

  next_lowered : (w : Wave) → Lowered w.cells (next costs w).cells
  unfolding next
  next_lowered w = wave_lowered w.cells w.changed w.cells

  -- waves come to rest
  pub comes_to_rest : (n : ℕ) (w : Wave) → sum_of_words w.cells ≤ n → Rests costs n w
  comes_to_rest zero w h = go (next_lowered w)
    where
      go : Lowered w.cells (next costs w).cells → (next costs w).changed ≡ []
      go (inl e) = ap (λ (u : Wave). u.changed) (same_next w e)
      go (inr l) = absurd (omega arith)
  comes_to_rest (suc n) w h = go (next_lowered w) (λ l. comes_to_rest n (next costs w) l)
    where
      go : Lowered w.cells (next costs w).cells → (sum_of_words (next costs w).cells ≤ n → Rests costs n (next costs w)) → Rests costs n (next costs w)
      go (inl e) ih = rw (same_next w e) (rests_on n w.cells)
      go (inr l) ih = ih (omega arith)
