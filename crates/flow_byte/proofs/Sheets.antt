-- A sheet that is filled cell by cell, each byte by a rule.
--     made_by                         a list whose every entry is the rule's
--     fill_none, fill_more, fill_all  nothing is written yet; one byte more; all are written
--     still_old                       what is not written yet is as it was
-- Assumes nothing.
use mathlib.Core.Path.{◌≡◌, refl, sym, ap, ap₂, ◌∙◌}
use mathlib.Core.List.{List, [], ◌∷◌, ◌++◌, map, map-append}
use Prim.Native.Nat.{ℕ, ◌+◌, ◌<◌}
use native.Mathlib.Nat.{add-zero}
use native.Mathlib.Numerals.{add-one}
use native.Mathlib.Omega.{arith}
use lib.ListN.{length, take, drop, set, get_or, length-set}
use lib.Seq.{ext_get_or, take_all, take-suc-set, drop-set-lt, get_or-drop, drop-drop}
use Rattle.utilities.specs.Lists.{below}
use Rattle.utilities.proofs.Lists.{table_length, table_at}

pub made_by : {A : Type 0} → (f : ℕ → A) (none : A) (n : ℕ) (l : List A) → length l ≡ n → ((i : ℕ) → i < n → get_or l i none ≡ f i) → l ≡ map f (below n)
made_by {A} f none n l long at = ext_get_or none l (map f (below n)) (long ∙ sym (table_length f n)) (λ i h. at i (omega arith) ∙ sym (table_at f none n i (omega arith)))

-- the first i bytes are the rule's, and the others are the old ones
pub record Filled (g : ℕ → ℕ) (old : List ℕ) (i : ℕ) (l : List ℕ) : Type 0 where
  pub long : length l ≡ length old
  pub written : take i l ≡ map g (below i)
  pub left : drop i l ≡ drop i old

module _ (g : ℕ → ℕ) (old : List ℕ) where
  pub fill_none : Filled g old 0 old
  fill_none = record { long = refl; written = refl; left = refl }

  pub fill_more : (i : ℕ) (l : List ℕ) (v : ℕ) → i < length old → v ≡ g i → Filled g old i l → Filled g old (i + 1) (set l i v)
  fill_more i l v h e f =
      let m : i < length l = omega (arith, f.long) in
      record {
        long = length-set l i v ∙ f.long;
        written =
            ap (λ (k : ℕ). take k (set l i v)) (add-one i)
            ∙ take-suc-set l i v m
            ∙ ap₂ (λ (a : List ℕ) (x : ℕ). a ++ x ∷ []) f.written e
            ∙ sym (map-append g (below i) (i ∷ []))
            ∙ ap (λ (k : ℕ). map g (below k)) (sym (add-one i));
        left =
            drop-set-lt (i + 1) l i v (omega arith)
            ∙ sym (drop-drop 1 i l)
            ∙ ap (drop 1) f.left
            ∙ drop-drop 1 i old;
      }

  pub fill_all : (n : ℕ) (l : List ℕ) → length old ≡ n → Filled g old n l → l ≡ map g (below n)
  fill_all n l h f = sym (take_all n l (omega (arith, f.long))) ∙ f.written

  pub still_old : (i : ℕ) (l : List ℕ) → Filled g old i l → get_or l i 0 ≡ get_or old i 0
  still_old i l f =
      ap (λ (k : ℕ). get_or l k 0) (sym (add-zero i))
      ∙ sym (get_or-drop i l 0 0)
      ∙ ap (λ (m : List ℕ). get_or m 0 0) f.left
      ∙ get_or-drop i old 0 0
      ∙ ap (λ (k : ℕ). get_or old k 0) (add-zero i)
