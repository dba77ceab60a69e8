-- Blocks of one size, one behind the other.
--     joined_length   m blocks of s
--     joined_at       block i, place j
--     map_at          a mapped list, at a place
--     within          block i of m, place j of s, lies below m times s
-- Assumes nothing.
use mathlib.Core.Path.{◌≡◌, refl, ◌∙◌}
use mathlib.Core.List.{List, [], ◌∷◌, ◌++◌, map}
use Prim.Native.Nat.{ℕ, zero, suc, ◌+◌, ◌*◌, ◌<◌}
use native.Mathlib.Omega.{arith}
use native.Mathlib.Nat.{mul-le-mul_right, suc-mul}
use native.Mathlib.Decide.{ℕ_discrete}
use lib.ListN.{length, get_or, length-append, get_or-append}
use lib.Seq.{get_or-append-add}
use Rattle.tour_orders.specs.Orders.{joined}

pub within : (m s i j : ℕ) → i < m → j < s → i * s + j < m * s
within m s i j h l = omega (arith, mul-le-mul_right s h, suc-mul i s)

pub map_at : {A B : Type 0} (f : A → B) (l : List A) (i : ℕ) (a : A) (b : B) → i < length l → get_or (map f l) i b ≡ f (get_or l i a)
map_at f [] i a b h = absurd (omega arith)
map_at f (x ∷ l) zero a b h = refl
map_at f (x ∷ l) (suc i) a b h = map_at f l i a b (omega arith)

module _ (f : ℕ → List (List ℕ)) (s : ℕ) where
  pub joined_length : (m : ℕ) → ((i : ℕ) → i < m → length (f i) ≡ s) → length (joined m f) ≡ m * s
  joined_length zero size = omega arith
  joined_length (suc m) size = simp length-append (omega (arith, joined_length m (λ i h. size i (omega arith)), size m (omega arith), suc-mul m s))

  pub joined_at : (m : ℕ) → ((i : ℕ) → i < m → length (f i) ≡ s) → (i j : ℕ) → i < m → j < s → get_or (joined m f) (i * s + j) [] ≡ get_or (f i) j []
  joined_at zero size i j h l = absurd (omega arith)
  joined_at (suc m) size i j h l =
      let known = joined_at m (λ n k. size n (omega arith)) i j in
      elim (ℕ_discrete i m) [ yes same ↦ last same | no not_same ↦ before (omega arith) (known (omega arith) l) ]
    where
      long : length (joined m f) ≡ m * s
      long = joined_length m (λ n k. size n (omega arith))

      before : i < m → get_or (joined m f) (i * s + j) [] ≡ get_or (f i) j [] → get_or (joined m f ++ f m) (i * s + j) [] ≡ get_or (f i) j []
      before k known = get_or-append (joined m f) (f m) [] (i * s + j) (omega (arith, long, within m s i j k l)) ∙ known

      last : i ≡ m → get_or (joined m f ++ f m) (i * s + j) [] ≡ get_or (f i) j []
      last same = rw (same, ← long) (get_or-append-add (joined m f) (f m) j [])
