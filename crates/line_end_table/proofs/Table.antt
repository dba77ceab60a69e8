-- A table that passes one test, which antt computes entry by entry, holds the line end of each pair.
--     every_end     the table
--     in_row        and what it holds is read by row and place in the row
--     made_at       what a closure answers at each index, in the array made of its answers
-- Assumes nothing.
use mathlib.Core.Path.{◌≡◌, ◌∙◌, subst, sym}
use mathlib.Core.Bool.{Bool, true, false}
use mathlib.Core.List.{List, [], ◌∷◌}
use Prim.Native.Nat.{ℕ, zero, suc, ◌+◌, ◌*◌, ◌/◌, ◌%◌, ◌<◌, ◌≤◌}
use native.Mathlib.Nat.{add-zero, zero-add, add-suc, suc-add, le_of_suc-le-suc, not-suc-le-zero}
use native.Mathlib.Omega.{arith}
use native.Mathlib.Decide.{ℕ_discrete}
use lib.Dec.{T, eqb, eqb→eq}
use lib.ListN.{length, get_or}
use Rattle.std.specs.Array.{IsFromFnResult, IsFromFnResultFrom}
use Rattle.std.specs.Fn.{Called}
use denote.Param.Members.{Mut}
use Rattle.fields.specs.Cell.{cell_at, index_of}
use Rattle.line_end.specs.LineEnd.{line_end}
use Rattle.line_end_table.specs.Ends.{entry_at, HoldsEnds}

-- ---- a test of each entry, for any table
abbrev both : Bool → Bool → Bool
both true b = b
both false b = false

both_left : (a b : Bool) → T (both a b) → T a
both_left true b t = tt
both_left false b t = t

both_right : (a b : Bool) → T (both a b) → T b
both_right true b t = t
both_right false b t = absurd t

-- the test f passes at each entry of the list and its place, counted from i
abbrev every : {A : Type 0} → (ℕ → A → Bool) → ℕ → List A → Bool
every f i [] = true
every f i (x ∷ xs) = both (f i x) (every f (suc i) xs)

from : {A : Type 0} (d : A) (f : ℕ → A → Bool) (xs : List A) (i : ℕ) → T (every f i xs) → (k : ℕ) → k < length xs → T (f (i + k) (get_or xs k d))
from d f [] i t k h = absurd (not-suc-le-zero h)
from d f (x ∷ xs) i t zero h = subst (λ (m : ℕ). T (f m x)) (sym (add-zero i)) (both_left (f i x) (every f (suc i) xs) t)
from d f (x ∷ xs) i t (suc k) h =
    subst (λ (m : ℕ). T (f m (get_or xs k d))) (suc-add i k ∙ sym (add-suc i k))
    (from d f xs (suc i) (both_right (f i x) (every f (suc i) xs) t) k (le_of_suc-le-suc h))

at : {A : Type 0} (d : A) (f : ℕ → A → Bool) (xs : List A) → T (every f 0 xs) → (k : ℕ) → k < length xs → T (f k (get_or xs k d))
at d f xs t k h = subst (λ (m : ℕ). T (f m (get_or xs k d))) (zero-add k) (from d f xs 0 t k h)

-- ---- the test of line ends
-- an entry of a corner's row is the end of its goal
abbrev is_end : ℕ → ℕ → ℕ → Bool
is_end corner goal x = eqb x (index_of (line_end (cell_at corner) (cell_at goal)))

-- a corner's row has 100 entries, and each is
abbrev is_row : ℕ → List ℕ → Bool
is_row corner row = both (eqb (length row) 100) (every (is_end corner) 0 row)

-- there are 100 rows, and each is the row of its place
abbrev pub Passes : List (List ℕ) → Type 0
Passes ends = T (every is_row 0 ends)

-- the entry of a pair, in a table of 100 rows that passes
in_table : (ends : List (List ℕ)) → length ends ≡ 100 → Passes ends
    → (corner goal : ℕ) → corner < 100 → goal < 100 → entry_at ends (corner * 100 + goal) ≡ index_of (line_end (cell_at corner) (cell_at goal))
in_table ends long t corner goal p q =
    let c : (corner * 100 + goal) / 100 ≡ corner = omega arith in
    let g : (corner * 100 + goal) % 100 ≡ goal = omega arith in
    let row = get_or ends corner [] in
    let passed = at [] is_row ends t corner (rw long p) in
    let full = eqb→eq (length row) 100 (both_left (eqb (length row) 100) (every (is_end corner) 0 row) passed) in
    let each = both_right (eqb (length row) 100) (every (is_end corner) 0 row) passed in
    rw (c, g) (eqb→eq _ _ (at 0 (is_end corner) row each goal (rw full q)))

pub every_end : (ends : List (List ℕ)) → length ends ≡ 100 → Passes ends → HoldsEnds ends
every_end ends long t = record { long = long; each = in_table ends long t }

pub in_row : (ends : List (List ℕ)) → HoldsEnds ends
    → (corner goal : ℕ) → corner < 100 → goal < 100 → get_or (get_or ends corner []) goal 0 ≡ index_of (line_end (cell_at corner) (cell_at goal))
in_row ends held corner goal p q =
    let c : (corner * 100 + goal) / 100 ≡ corner = omega arith in
    let g : (corner * 100 + goal) % 100 ≡ goal = omega arith in
    rw (c, g) at (held.each corner goal p q)

-- ---- an array made by calls of a closure that stays the same: what holds of each call's answer holds of each place
module _ {F B : Type 0} (g : Mut F (ℕ × Unit {0}) B) (f : F) (ys : List B) (Holds : ℕ → B → Type 0)
    (answers : (i : ℕ) (y : B) (q : F) → Called g f (i, tt) y q → (q ≡ f) × Holds i y) where
  made_from : (n i : ℕ) → IsFromFnResultFrom g f ys i n → (k : ℕ) → i ≤ k → k < i + n → (d : B) → Holds k (get_or ys k d)
  made_from zero i r k h l d = absurd (omega arith)
  made_from (suc n) i r k h l d =
      let a = answers i r.1 r.0 r.3 in
      elim (ℕ_discrete k i) [
        | yes e ↦ rw (e, r.2.1 d) a.1
        | no o ↦ made_from n (i + 1) (subst (λ (p : F). IsFromFnResultFrom g p ys (i + 1) n) a.0 r.4) k (omega arith) (omega arith) d
      ]

  pub made_at : (n : ℕ) → IsFromFnResult g f ys n → (k : ℕ) → k < n → (d : B) → Holds k (get_or ys k d)
  made_at n m k h d = made_from n 0 m.each k (omega arith) (omega arith) d
