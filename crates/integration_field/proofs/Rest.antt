-- Waves come to rest: each wave that changes a cell lowers the total of the values, so that one changes none. The definition of the built field leans on
-- the same by the sum of the words (`comes_to_rest`, `specs/Rest.antt`); how soon waves come to rest is `Least`.
-- Assumes nothing.
use Rattle.std.specs.Prelude.{◌≡◌, Bool, true, false, cond, ◌⊎◌, get_or, set, Option, Some, None}
use Rattle.std.proofs.Math.Path.{refl}
use Rattle.std.proofs.Common.{ap, ◌∙◌, inr, arith, ltb-true}
use Rattle.std.proofs.Math.Bool.{and-eq-true_iff}
use Rattle.std.proofs.Math.Logic.{inl}
use mathlib.Core.List.{List, [], ◌∷◌}
use Prim.Native.Nat.{ℕ, zero, suc, ◌≤◌, ◌<◌}
use Rattle.utilities.specs.declared.CompassDir.{CompassDir}
use Rattle.utilities.specs.Compass.{orthogonal}
use Rattle.fields.specs.declared.FieldCell.{FieldCell}
use Rattle.fields.specs.Cell.{index_of, cell_at, stepped}
use Rattle.integration_field.specs.Word.{low, is_open}
use Rattle.integration_field.specs.Wave.{is_written, relaxed, offered, offered_around, offered_by, Wave, next}
use Rattle.integration_field.specs.Rest.{Rests, total, rests_on, same_next}

-- either no cell has changed, or the total is lower
abbrev Lowered : List ℕ → List ℕ → Type 0
Lowered a b = (b ≡ a) ⊎ (total b < total a)

then : {a b c : List ℕ} → Lowered a b → Lowered b c → Lowered a c
then (inl p) (inl q) = inl (q ∙ p)
then (inl p) (inr m) = inr (omega (arith, ap total p))
then (inr l) (inl q) = inr (omega (arith, ap total q))
then (inr l) (inr m) = inr (omega arith)

set_lower : (cells : List ℕ) (x v : ℕ) → low v < low (get_or cells x 0) → total (set cells x v) < total cells
unfolding total
set_lower [] x v h = absurd (omega arith)
set_lower (w ∷ ws) zero v h = omega arith
set_lower (w ∷ ws) (suc x) v h = omega (arith, set_lower ws x v h)

lowered_if : (b : Bool) (cells r : List ℕ) → (b ≡ true → total r < total cells) → Lowered cells (cond b r cells)
lowered_if true cells r h = inr (h refl)
lowered_if false cells r h = inl refl

relaxed_lowered : (s x : ℕ) (cells : List ℕ) → Lowered cells (relaxed s x cells)
unfolding relaxed
relaxed_lowered s x cells =
    lowered_if (is_written (get_or cells x 0) s) cells _
    (λ e. set_lower cells x _ (omega (arith, ltb-true s (low (get_or cells x 0)) ((and-eq-true_iff (is_open (get_or cells x 0)) _).0 e).1)))

module _ (costs : List ℕ) where
  step_lowered : (v : ℕ) (t : Option FieldCell) (cells : List ℕ) → Lowered cells (offered costs v t cells)
  step_lowered v (Some c) cells = relaxed_lowered _ (index_of c) cells
  step_lowered v None cells = inl refl

  around_lowered : (v : ℕ) (c : FieldCell) (ds : List CompassDir) (cells : List ℕ) → Lowered cells (offered_around costs v c ds cells)
  unfolding offered_around
  around_lowered v c [] cells = inl refl
  around_lowered v c (d ∷ ds) cells = then (step_lowered v (stepped c d) cells) (around_lowered v c ds _)

  wave_lowered : (old is cells : List ℕ) → Lowered cells (offered_by costs old is cells)
  unfolding offered_by
  wave_lowered old [] cells = inl refl
  wave_lowered old (i ∷ is) cells = then (around_lowered _ (cell_at i) orthogonal cells) (wave_lowered old is _)

  next_lowered : (w : Wave) → Lowered w.cells (next costs w).cells
  unfolding next
  next_lowered w = wave_lowered w.cells w.changed w.cells

  -- waves come to rest
  pub rest : (n : ℕ) (w : Wave) → total w.cells ≤ n → Rests costs n w
  rest zero w h = go (next_lowered w)
    where
      go : Lowered w.cells (next costs w).cells → (next costs w).changed ≡ []
      go (inl e) = ap (λ (u : Wave). u.changed) (same_next costs w e)
      go (inr l) = absurd (omega arith)
  rest (suc n) w h = go (next_lowered w) (λ l. rest n (next costs w) l)
    where
      go : Lowered w.cells (next costs w).cells → (total (next costs w).cells ≤ n → Rests costs n (next costs w)) → Rests costs n (next costs w)
      go (inl e) ih = rw (same_next costs w e) (rests_on costs n w.cells)
      go (inr l) ih = ih (omega arith)
