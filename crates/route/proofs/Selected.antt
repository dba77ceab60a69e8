-- Those of a list that pass a test.
--     place, at, rises             where what is selected stands in the list; in the same order
--     select_in                    cells of the sector, no cell twice, at most 10: so is what is selected of them
--     selected, selected_from      a number is among them exactly if it is in the list and passes
-- Assumes nothing.
use mathlib.Core.Path.{◌≡◌, refl, sym, ap, ◌∙◌}
use mathlib.Core.Bool.{Bool, true, false}
use mathlib.Core.List.Memᴰ
use mathlib.Core.List.{List, [], ◌∷◌, Memᴰ}
use Prim.Native.Nat.{ℕ, zero, suc, ◌<◌, ◌≤◌}
use native.Mathlib.Omega.{arith}
use lib.ListN.{length, get_or}
use Rattle.utilities.specs.Lists.{cons_if}
use Rattle.route.specs.Window.{select}
use Rattle.route.specs.Target.{WindowIn}

place_if : Bool → (ℕ → ℕ) → ℕ → ℕ
place_if true f zero = zero
place_if true f (suc i) = suc (f i)
place_if false f i = suc (f i)

module _ (p : ℕ → Bool) where
  place : List ℕ → ℕ → ℕ
  place [] i = i
  place (x ∷ l) i = place_if (p x) (place l) i

  abbrev At : List ℕ → ℕ → Type 0
  At l i = (place l i < length l) × (get_or l (place l i) 0 ≡ get_or (select p l) i 0)

  at : (l : List ℕ) (i : ℕ) → i < length (select p l) → At l i
  unfolding place place_if
  at [] i h = absurd (omega arith)
  at (x ∷ l) i h = go (p x) i h (at l)
    where
      go : (b : Bool) (i : ℕ) → i < length (cons_if b x (select p l)) → ((i : ℕ) → i < length (select p l) → At l i)
          → (place_if b (place l) i < suc (length l)) × (get_or (x ∷ l) (place_if b (place l) i) 0 ≡ get_or (cons_if b x (select p l)) i 0)
      go true zero h ih = (omega arith, refl)
      go true (suc i) h ih = let r = ih i (omega arith) in (omega (arith, r.0), r.1)
      go false i h ih = let r = ih i h in (omega (arith, r.0), r.1)

  rises : (l : List ℕ) (i j : ℕ) → i < j → j < length (select p l) → place l i < place l j
  unfolding place place_if
  rises [] i j h k = absurd (omega arith)
  rises (x ∷ l) i j h k = go (p x) i j h k (rises l)
    where
      go : (b : Bool) (i j : ℕ) → i < j → j < length (cons_if b x (select p l)) → ((i j : ℕ) → i < j → j < length (select p l) → place l i < place l j)
          → place_if b (place l) i < place_if b (place l) j
      go true i zero h k ih = absurd (omega arith)
      go true zero (suc j) h k ih = omega arith
      go true (suc i) (suc j) h k ih = omega (arith, ih i j (omega arith) (omega arith))
      go false i j h k ih = omega (arith, ih i j h k)

  pub few : (l : List ℕ) → length (select p l) ≤ length l
  few [] = omega arith
  few (x ∷ l) = go (p x) (few l)
    where
      go : (b : Bool) → length (select p l) ≤ length l → length (cons_if b x (select p l)) ≤ suc (length l)
      go true h = omega arith
      go false h = omega arith

  pub select_in : (l : List ℕ) → WindowIn l → WindowIn (select p l)
  select_in l w = record {
    inside = λ i h. (let a = at l i h in omega (arith, a.1, w.inside (place l i) a.0));
    once = λ i j h k e. (let a = at l i (omega arith) in let b = at l j k in w.once (place l i) (place l j) (rises l i j h k) b.0 (a.1 ∙ e ∙ sym b.1));
    few = omega (arith, few l, w.few);
  }

  pub selected : (l : List ℕ) (x : ℕ) → Memᴰ x l → p x ≡ true → Memᴰ x (select p l)
  selected l x m t = along x l m t
    where
      along : (x : ℕ) (l : List ℕ) → Memᴰ x l → p x ≡ true → Memᴰ x (select p l)
      along x l (Memᴰ.head {xs = ys} e) t = rw (sym (ap p e) ∙ t) (Memᴰ.head e)
      along x l (Memᴰ.tail {x = y} {xs = ys} n) t = go (p y) (along x ys n t)
        where
          go : (b : Bool) → Memᴰ x (select p ys) → Memᴰ x (cons_if b y (select p ys))
          go true n = Memᴰ.tail n
          go false n = n

  pub selected_from : (l : List ℕ) (x : ℕ) → Memᴰ x (select p l) → Memᴰ x l × (p x ≡ true)
  selected_from [] x m = absurd (Memᴰ.not-nil m)
  selected_from (y ∷ l) x m = go (p y) refl m (selected_from l x)
    where
      here : p y ≡ true → Memᴰ x (y ∷ select p l) → (Memᴰ x (select p l) → Memᴰ x l × (p x ≡ true)) → Memᴰ x (y ∷ l) × (p x ≡ true)
      here t (Memᴰ.head e) ih = (Memᴰ.head e, ap p e ∙ t)
      here t (Memᴰ.tail n) ih = let r = ih n in (Memᴰ.tail r.0, r.1)

      go : (b : Bool) → p y ≡ b → Memᴰ x (cons_if b y (select p l)) → (Memᴰ x (select p l) → Memᴰ x l × (p x ≡ true))
          → Memᴰ x (y ∷ l) × (p x ≡ true)
      go true t n ih = here t n ih
      go false t n ih = let r = ih n in (Memᴰ.tail r.0, r.1)
