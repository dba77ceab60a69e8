-- Tables: a rule's value for each number below n.
--     below_length, below_at    the numbers themselves
--     table_length, table_at    a rule's values
--     table_same, table_of      tables of values that agree, and of a list's own entries
--     filled_more, filled_all   an array that is filled from the first place on
-- Assumes nothing.
use mathlib.Core.Path.{◌≡◌, refl, sym, ap, ◌∙◌}
use mathlib.Core.List.{List, [], ◌∷◌, ◌++◌, map, map-append}
use Prim.Native.Nat.{ℕ, zero, suc, ◌+◌, ◌<◌}
use native.Mathlib.Numerals.{add-one}
use native.Mathlib.Omega.{arith}
use native.Mathlib.Decide.{ℕ_discrete}
use lib.ListN.{length, get_or, set, take, length-set, length-append, length-map, get_or-append}
use lib.Seq.{get_or_at, take-suc-set, ext_get_or}
use Rattle.utilities.specs.Lists.{below}

pub below_length : (n : ℕ) → length (below n) ≡ n
below_length zero = refl
below_length (suc n) = omega (arith, length-append (below n) (n ∷ []), below_length n)

pub below_at : (n i : ℕ) → i < n → get_or (below n) i 0 ≡ i
below_at zero i h = absurd (omega arith)
below_at (suc n) i h = pick (ℕ_discrete i n) (λ m. below_at n i m)
  where
    pick : Dec (i ≡ n) → (i < n → get_or (below n) i 0 ≡ i) → get_or (below n ++ n ∷ []) i 0 ≡ i
    pick (yes e) f = rw e (get_or_at (below n) n [] 0 n (below_length n))
    pick (no e) f = let m : i < n = omega arith in get_or-append (below n) (n ∷ []) 0 i (omega (arith, below_length n)) ∙ f m

module _ {A : Type 0} (f : ℕ → A) where
  pub map_at : (none : A) (l : List ℕ) (i : ℕ) → i < length l → get_or (map f l) i none ≡ f (get_or l i 0)
  map_at none [] i h = absurd (omega arith)
  map_at none (x ∷ l) zero h = refl
  map_at none (x ∷ l) (suc i) h = map_at none l i (omega arith)

  pub table_length : (n : ℕ) → length (map f (below n)) ≡ n
  table_length n = length-map (below n) f ∙ below_length n

  pub table_at : (none : A) (n i : ℕ) → i < n → get_or (map f (below n)) i none ≡ f i
  table_at none n i h = map_at none (below n) i (omega (arith, below_length n)) ∙ ap f (below_at n i h)

  -- two tables of values that agree
  pub table_same : (g : ℕ → A) (n : ℕ) → ((i : ℕ) → i < n → f i ≡ g i) → map f (below n) ≡ map g (below n)
  table_same g zero h = refl
  table_same g (suc n) h =
      map-append f (below n) (n ∷ [])
      ∙ ap (λ (l : List A). l ++ (f n ∷ [])) (table_same g n (λ i k. h i (omega arith)))
      ∙ ap (λ (a : A). map g (below n) ++ (a ∷ [])) (h n (omega arith))
      ∙ sym (map-append g (below n) (n ∷ []))

-- the table of what a function makes of a list's entries
module _ {A B : Type 0} (g : A → B) (none : A) where
  entry_at : (l : List A) (i : ℕ) → i < length l → get_or (map g l) i (g none) ≡ g (get_or l i none)
  entry_at [] i h = absurd (omega arith)
  entry_at (x ∷ l) zero h = refl
  entry_at (x ∷ l) (suc i) h = entry_at l i (omega arith)

  pub table_of : (l : List A) (n : ℕ) → length l ≡ n → map (λ i. g (get_or l i none)) (below n) ≡ map g l
  table_of l n e =
      let f : ℕ → B = λ i. g (get_or l i none) in
      let long = table_length f n in
      ext_get_or (g none) (map f (below n)) (map g l) (long ∙ sym e ∙ sym (length-map l g))
      (λ i h. table_at f (g none) n i (omega arith) ∙ sym (entry_at l i (omega arith)))

-- an array of so many places, of which those below i are filled
pub record FilledTo {A : Type 0} (places : ℕ) (f : ℕ → A) (i : ℕ) (table : List A) : Type 0 where
  pub full : length table ≡ places
  pub first : take i table ≡ map f (below i)

module _ {A : Type 0} (places : ℕ) (f : ℕ → A) where
  pub filled_more : (i : ℕ) (table : List A) (a : A) → i < places → a ≡ f i → FilledTo places f i table → FilledTo places f (i + 1) (set table i a)
  filled_more i table a h e t = record {
    full = length-set table i a ∙ t.full;
    first = rw (add-one i) (take-suc-set table i a (omega (arith, t.full)) ∙ rw (t.first, e) (sym (map-append f (below i) (i ∷ []))));
  }

  pub filled_all : (table : List A) → FilledTo places f places table → table ≡ map f (below places)
  filled_all table t = sym (take_whole table places t.full) ∙ t.first
    where
      take_whole : (l : List A) (n : ℕ) → length l ≡ n → take n l ≡ l
      take_whole [] n e = rw (← e)
      take_whole (x ∷ l) zero e = absurd (omega arith)
      take_whole (x ∷ l) (suc n) e = ap (λ r. x ∷ r) (take_whole l n (omega arith))
