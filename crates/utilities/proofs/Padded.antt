-- Laws of lists in arrays.
--     padded_push      the next place is written: the list has one more
--     padded_length    an array of n places
--     all_zero         an array of zeros, place by place
--     padded_beyond    the places beyond a list hold the zero
-- Assumes nothing.
use mathlib.Core.Path.{◌≡◌, refl, sym, ◌∙◌}
use mathlib.Core.List.{List, [], ◌∷◌, ◌++◌, append_assoc}
use Prim.Native.Nat.{ℕ, zero, suc, ◌+◌, ◌-◌, ◌<◌, ◌≤◌}
use native.Mathlib.Omega.{arith}
use lib.ListN.{length, get_or, set, replicate, length-append, length-replicate}
use lib.Seq.{set-append_seam}
use Rattle.utilities.specs.Padded.{padded, ZeroBeyond, AllZero}

module _ {A : Type 0} (n : ℕ) (z : A) (l : List A) where
  pub padded_push : (x : A) → length l < n → set (padded n z l) (length l) x ≡ padded n z (l ++ (x ∷ []))
  padded_push x h =
      let m = n - (length l + 1) in
      let e : n - length l ≡ suc m = omega arith in
      rw (e, length-append) (set-append_seam l z (replicate m z) x ∙ sym (append_assoc l (x ∷ []) (replicate m z)))

  pub padded_length : length l ≤ n → length (padded n z l) ≡ n
  padded_length h = simp (length-append, length-replicate) (omega arith)

pub all_zero : {A : Type 0} (n : ℕ) (z : A) → AllZero z (replicate n z)
all_zero zero z i = refl
all_zero (suc n) z zero = refl
all_zero (suc n) z (suc i) = all_zero n z i

module _ {A : Type 0} (z : A) (more : ℕ) where
  beyond : (l : List A) (i : ℕ) → length l ≤ i → get_or (l ++ replicate more z) i z ≡ z
  beyond [] i h = all_zero more z i
  beyond (x ∷ l) zero h = absurd (omega arith)
  beyond (x ∷ l) (suc i) h = beyond l i (omega arith)

pub padded_beyond : {A : Type 0} (n : ℕ) (z : A) (l : List A) → ZeroBeyond z (length l) (padded n z l)
padded_beyond n z l = beyond z (n - length l) l
