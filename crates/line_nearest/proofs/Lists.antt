-- Tables, reversed lists, and arrays that hold a list with one value behind it.
-- Assumes nothing.
use mathlib.Core.Path.{◌≡◌, refl, sym, ap, ◌∙◌}
use mathlib.Core.Bool.{Bool, true, false}
use mathlib.Core.List.{List, [], ◌∷◌, ◌++◌, reverse, reverse-cons, append_assoc}
use Prim.Native.Nat.{ℕ, zero, suc, ◌+◌, ◌-◌, ◌<◌}
use native.Mathlib.Nat.{le_of_suc-le-suc, not-suc-le-zero}
use native.Mathlib.Omega.{arith}
use lib.Dec.{ltb}
use lib.ListN.{length, get_or, set, replicate, length-append, length-reverse, get_or-append}
use lib.Seq.{get_or-append-add, set_at}
use borrow.Author.Tests.{ltb-true, ltb-false}
use Rattle.line_nearest.specs.Table.{table}

module _ {A : Type 0} where
  pub length_table : (n : ℕ) (f : ℕ → A) → length (table n f) ≡ n
  unfolding table
  length_table zero f = refl
  length_table (suc n) f = ap suc (length_table n (λ k. f (suc k)))

  pub get_d_table : (n : ℕ) (f : ℕ → A) (k : ℕ) (d : A) → k < n → get_or (table n f) k d ≡ f k
  unfolding table
  get_d_table zero f k d h = absurd (not-suc-le-zero h)
  get_d_table (suc n) f zero d h = refl
  get_d_table (suc n) f (suc k) d h = get_d_table n (λ i. f (suc i)) k d (le_of_suc-le-suc h)

  -- one more value
  pub table_suc : (n : ℕ) (f : ℕ → A) → table (suc n) f ≡ table n f ++ (f n ∷ [])
  unfolding table
  table_suc zero f = refl
  table_suc (suc n) f = ap (λ (l : List A). f 0 ∷ l) (table_suc n (λ k. f (suc k)))

  -- the element from the other end
  at_suc : (x : A) (l : List A) (d : A) (n m : ℕ) → n ≡ suc m → get_or (x ∷ l) n d ≡ get_or l m d
  at_suc x l d n m e = rw e

  reverse_step : (x : A) (l : List A) (k : ℕ) (d : A) → k < suc (length l) → (k < length l → get_or (reverse l) k d ≡ get_or l (length l - 1 - k) d)
      → get_or (reverse l ++ (x ∷ [])) k d ≡ get_or (x ∷ l) (suc (length l) - 1 - k) d
  reverse_step x l k d h i = go (ltb k (length l)) refl
    where
      go : (t : Bool) → ltb k (length l) ≡ t → get_or (reverse l ++ (x ∷ [])) k d ≡ get_or (x ∷ l) (suc (length l) - 1 - k) d
      go true e =
          let p = ltb-true k (length l) e in
          get_or-append (reverse l) (x ∷ []) d k (omega (arith, length-reverse l)) ∙ i p
          ∙ sym (at_suc x l d (suc (length l) - 1 - k) (length l - 1 - k) (omega arith))
      go false e =
          let p = ltb-false k (length l) e in
          let q : k ≡ length (reverse l) + 0 = omega (arith, length-reverse l) in
          let r : suc (length l) - 1 - k ≡ 0 = omega arith in
          rw (r, q) (get_or-append-add (reverse l) (x ∷ []) 0 d)

  pub get_d_reverse : (l : List A) (k : ℕ) (d : A) → k < length l → get_or (reverse l) k d ≡ get_or l (length l - 1 - k) d
  get_d_reverse [] k d h = absurd (not-suc-le-zero h)
  get_d_reverse (x ∷ l) k d h = rw (reverse-cons x l) (reverse_step x l k d h (get_d_reverse l k d))

  -- n places: a list, and z in those behind it
  abbrev pub behind : ℕ → List A → A → List A
  behind n l z = l ++ replicate (n - length l) z

  -- one place more is written
  pub behind_set : (n : ℕ) (l : List A) (x z : A) → length l < n → set (behind n l z) (length l) x ≡ behind n (l ++ (x ∷ [])) z
  behind_set n l x z h =
      let e : n - length l ≡ suc (n - suc (length l)) = omega arith in
      let f : n - length (l ++ (x ∷ [])) ≡ n - suc (length l) = omega (arith, length-append l (x ∷ [])) in
      rw (e, f, append_assoc l (x ∷ [])) (set_at l z (replicate (n - suc (length l)) z) x (length l) refl)

  pub table_set : (n k : ℕ) (f : ℕ → A) (z : A) → k < n → set (behind n (table k f) z) k (f k) ≡ behind n (table (suc k) f) z
  table_set n k f z h =
      let e : length (table k f) ≡ k = length_table k f in
      ap (λ (i : ℕ). set (behind n (table k f) z) i (f k)) (sym e) ∙ behind_set n (table k f) (f k) z (omega arith)
      ∙ ap (λ (l : List A). behind n l z) (sym (table_suc k f))
