-- Counting: how many entries of a list pass a test, and how long a list without repeats can be.
--     count_set      what setting a place does to the count
--     count_room     a list with an entry that fails the test has fewer that pass than places
--     once_room      distinct places that all pass are no more than the count
--     each_more      what holds of each entry of a list, and of one more
--     each_one       what holds of an entry alone
--     once_more      a list without repeats, and one more entry that it does not have
--     at_set         an entry after a place was set
-- Assumes nothing.
use mathlib.Core.Path.{◌≡◌, sym, ◌∙◌, ap, subst}
use mathlib.Core.Bool.{Bool, true, false}
use mathlib.Core.List.{List, [], ◌∷◌, ◌++◌}
use mathlib.Core.Logic.{◌⊎◌, inl, inr, ⊎_elim}
use Prim.Native.Nat.{ℕ, zero, suc, ◌+◌, ◌<◌, ◌≤◌}
use native.Mathlib.Omega.{arith}
use native.Mathlib.Decide.{ℕ_discrete, dec_lt}
use lib.ListN.{length, get_or, set, length-set, length-append, get_or-append}
use lib.Seq.{get_or-set_same, get_or-set_other, get_or-append_seam}
use Rattle.utilities.specs.Count.{bit, count}

-- each entry of a list
abbrev pub Each : (ℕ → Type 0) → List ℕ → Type 0
Each Q l = (i : ℕ) → i < length l → Q (get_or l i 0)

-- no entry comes twice
abbrev pub Once : List ℕ → Type 0
Once l = (i j : ℕ) → i < j → j < length l → get_or l i 0 ≡ get_or l j 0 → ⊥

pub bit_small : (b : Bool) → bit b ≤ 1
bit_small true = omega arith
bit_small false = omega arith

module _ (f : ℕ → Bool) where
  pub count_set : (l : List ℕ) (n v : ℕ) → n < length l → count f (set l n v) + bit (f (get_or l n 0)) ≡ count f l + bit (f v)
  unfolding count
  count_set [] n v h = absurd (omega arith)
  count_set (x ∷ xs) zero v h = omega arith
  count_set (x ∷ xs) (suc n) v h = omega (arith, count_set xs n v (omega arith))

  pub count_length : (l : List ℕ) → count f l ≤ length l
  unfolding count
  count_length [] = omega arith
  count_length (x ∷ xs) = omega (arith, bit_small (f x), count_length xs)

  pub count_room : (l : List ℕ) (n : ℕ) → n < length l → f (get_or l n 0) ≡ false → count f l < length l
  unfolding count
  count_room [] n h e = absurd (omega arith)
  count_room (x ∷ xs) zero h e =
      let b : bit (f x) ≡ 0 = ap bit e in
      omega (arith, count_length xs)
  count_room (x ∷ xs) (suc n) h e = omega (arith, bit_small (f x), count_room xs n (omega arith) e)

  -- a place whose entry passes
  abbrev pub Passes : List ℕ → ℕ → Type 0
  Passes cells n = (n < length cells) × (f (get_or cells n 0) ≡ true)

  pub once_room : f 0 ≡ false → (l cells : List ℕ) → Each (Passes cells) l → Once l → length l ≤ count f cells
  once_room z [] cells e o = omega arith
  once_room z (x ∷ xs) cells e o =
      let rest : Each (Passes (set cells x 0)) xs = λ i h.
      let n : get_or xs i 0 < length cells = (e (suc i) (omega arith)).0 in (
        omega (arith, length-set cells x 0),
        ap f (get_or-set_other cells x (get_or xs i 0) 0 0 (λ q. o 0 (suc i) (omega arith) (omega arith) (sym q))) ∙ (e (suc i) (omega arith)).1,
      ) in
      let less : length xs ≤ count f (set cells x 0) = once_room z xs (set cells x 0) rest (λ i j h k. o (suc i) (suc j) (omega arith) (omega arith)) in
      let was : bit (f (get_or cells x 0)) ≡ 1 = ap bit (e 0 (omega arith)).1 in
      let now : bit (f 0) ≡ 0 = ap bit z in
      omega (arith, count_set cells x 0 (e 0 (omega arith)).0)

module _ (l : List ℕ) (n : ℕ) where
  pub more_length : length (l ++ n ∷ []) ≡ suc (length l)
  more_length = omega (arith, length-append l (n ∷ []))

  pub more_before : (i : ℕ) → i < length l → get_or (l ++ n ∷ []) i 0 ≡ get_or l i 0
  more_before i h = get_or-append l (n ∷ []) 0 i h

  pub more_last : (i : ℕ) → i ≡ length l → get_or (l ++ n ∷ []) i 0 ≡ n
  more_last i e = ap (λ (k : ℕ). get_or (l ++ n ∷ []) k 0) e ∙ get_or-append_seam l n [] 0

  pub each_more : (Q : ℕ → Type 0) → Each Q l → Q n → Each Q (l ++ n ∷ [])
  each_more Q e q i h =
      ⊎_elim
      (λ (b : i < length l). subst Q (sym (more_before i b)) (e i b))
      (λ (b : i ≡ length l). subst Q (sym (more_last i b)) q)
      (at_most i (length l) (omega (arith, more_length)))
    where
      at_most : (a b : ℕ) → a < suc b → (a < b) ⊎ (a ≡ b)
      at_most a b k = elim (dec_lt a b) [ yes p ↦ inl p | no p ↦ inr (omega arith) ]

  pub once_more : Once l → Each (λ m. m ≡ n → ⊥) l → Once (l ++ n ∷ [])
  once_more o e i j h k q =
      let before : i < length l = omega (arith, more_length) in
      elim (dec_lt j (length l)) [
        | yes p ↦ o i j h p (sym (more_before i before) ∙ q ∙ more_before j p)
        | no p ↦ e i before (sym (more_before i before) ∙ q ∙ more_last j (omega (arith, more_length)))
      ]

pub each_one : (Q : ℕ → Type 0) (n : ℕ) → Q n → Each Q (n ∷ [])
each_one Q n = each_more [] n Q (λ i h. absurd (omega arith))

pub at_set : (Q : ℕ → Type 0) (l : List ℕ) (n v m : ℕ) → n < length l → (m ≡ n → Q v) → ((m ≡ n → ⊥) → Q (get_or l m 0)) → Q (get_or (set l n v) m 0)
at_set Q l n v m h same other =
    elim (ℕ_discrete m n) [
      | yes p ↦ subst Q (sym (ap (λ (k : ℕ). get_or (set l n v) k 0) p ∙ get_or-set_same l n v 0 h)) (same p)
      | no p ↦ subst Q (sym (get_or-set_other l n m v 0 p)) (other p)
    ]
