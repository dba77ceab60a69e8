-- The line of the definition is Bresenham's line, for every two cells.
--     nearest_line     it is a NearestLine
-- and what later layers cite of it:
--     line_first       its first cell is s
--     line_some        it has a cell
--     line_room        between two cells of the sector it has ten at most
--     line_spanned     its columns and rows lie between those of its two ends
--     line_inside      between two cells of the sector it stays in the sector
-- Assumes nothing.
use mathlib.Core.Path.{◌≡◌, refl}
use mathlib.Core.Bool.{Bool, true, false, cond}
use mathlib.Core.List.{List}
use Prim.Native.Nat.{ℕ, ◌<◌, ◌≤◌, max}
use native.Mathlib.Nat.{le_of_lt}
use native.Mathlib.Omega.{arith}
use lib.Dec.{leb, ltb}
use lib.ListN.{length, get_or}
use borrow.Author.Tests.{leb-true, leb-false, ltb-true, ltb-false}
use Rattle.fields.specs.declared.FieldCell.{FieldCell}
use Rattle.fields.specs.Cell.{cell, Inside}
use Rattle.line_nearest.specs.Line.{distance, shallow, steep, line}
use Rattle.line_nearest.specs.Nearest.{Between, NearestWalk, Walked, column_of, row_of, NearestLine, Spanned}
use Rattle.line_nearest.proofs.Walks.{walked_back, shallow_walked, steep_walked}

-- one of two, by a test and what it told
by_test : {A : Type 0} (P : A → Type 0) (b : Bool) (x y : A) → (b ≡ true → P x) → (b ≡ false → P y) → P (cond b x y)
by_test P true x y f g = f refl
by_test P false x y f g = g refl

-- a walk as long as the longer span, listed from s to t: it is the line where it is the one that the spans ask for
of_walk : (major minor : FieldCell → ℕ) (a b s t : FieldCell) (l : List FieldCell) → Walked major minor a b s t l
    → distance (major a) (major b) ≡ max (distance s.column t.column) (distance s.row t.row)
    → (distance s.row t.row < distance s.column t.column → s.column ≤ t.column → NearestWalk column_of row_of s t l)
    → (distance s.row t.row < distance s.column t.column → t.column < s.column → NearestWalk column_of row_of t s l)
    → (distance s.column t.column ≤ distance s.row t.row → s.row ≤ t.row → NearestWalk row_of column_of s t l)
    → (distance s.column t.column ≤ distance s.row t.row → t.row < s.row → NearestWalk row_of column_of t s l)
    → NearestLine s t l
of_walk major minor a b s t l w long p q r u =
    let m = w.many in
    record { many = omega arith; first = w.first; last = w.last; moves = w.moves; shallow = p; shallow_back = q; steep = r; steep_back = u }

pub nearest_line : (s t : FieldCell) → NearestLine s t (line s t)
unfolding line
nearest_line s t =
    by_test (NearestLine s t) (ltb (distance s.row t.row) (distance s.column t.column)) _ _
    (λ e.
    let n = ltb-true (distance s.row t.row) (distance s.column t.column) e in
    by_test (NearestLine s t) (leb s.column t.column) _ _
    (λ f.
    let h = leb-true s.column t.column f in
    let w = shallow_walked s t h (omega arith) in
    of_walk column_of row_of s t s t _ w (omega arith)
    (λ p q. w.each) (λ p q. absurd (omega arith)) (λ p q. absurd (omega arith)) (λ p q. absurd (omega arith)))
    (λ f.
    let h = leb-false s.column t.column f in
    let w = walked_back column_of row_of t s t s (shallow t s) (shallow_walked t s (le_of_lt h) (omega arith)) in
    of_walk column_of row_of t s s t _ w (omega arith)
    (λ p q. absurd (omega arith)) (λ p q. w.each) (λ p q. absurd (omega arith)) (λ p q. absurd (omega arith))))
    (λ e.
    let n = ltb-false (distance s.row t.row) (distance s.column t.column) e in
    by_test (NearestLine s t) (leb s.row t.row) _ _
    (λ f.
    let h = leb-true s.row t.row f in
    let w = steep_walked s t h (omega arith) in
    of_walk row_of column_of s t s t _ w (omega arith)
    (λ p q. absurd (omega arith)) (λ p q. absurd (omega arith)) (λ p q. w.each) (λ p q. absurd (omega arith)))
    (λ f.
    let h = leb-false s.row t.row f in
    let w = walked_back row_of column_of t s t s (steep t s) (steep_walked t s (le_of_lt h) (omega arith)) in
    of_walk row_of column_of t s s t _ w (omega arith)
    (λ p q. absurd (omega arith)) (λ p q. absurd (omega arith)) (λ p q. absurd (omega arith)) (λ p q. w.each)))

pub line_first : (s t : FieldCell) → get_or (line s t) 0 (cell 0 0) ≡ s
line_first s t = (nearest_line s t).first

pub line_some : (s t : FieldCell) → 0 < length (line s t)
line_some s t = let m = (nearest_line s t).many in omega arith

pub line_room : (s t : FieldCell) → Inside s → Inside t → length (line s t) ≤ 10
line_room s t i j =
    let m = (nearest_line s t).many in
    let a = i.column_in in
    let b = i.row_in in
    let c = j.column_in in
    let d = j.row_in in
    omega arith

turned : (a b x : ℕ) → Between a b x → Between b a x
turned a b x h = record { from = let p = h.from in omega arith; to = let p = h.to in omega arith }

spanned : (s t : FieldCell) (l : List FieldCell) → NearestLine s t l → (k : ℕ) → k < length l → Spanned s t (get_or l k (cell 0 0))
spanned s t l w k i =
    go (ltb (distance s.row t.row) (distance s.column t.column)) (leb s.column t.column) (leb s.row t.row) refl refl refl
  where
    go : (x y z : Bool) → ltb (distance s.row t.row) (distance s.column t.column) ≡ x → leb s.column t.column ≡ y → leb s.row t.row ≡ z
        → Spanned s t (get_or l k (cell 0 0))
    go true true z e f g =
        let n = w.shallow (ltb-true (distance s.row t.row) (distance s.column t.column) e) (leb-true s.column t.column f) k i in
        record { columns = n.along; rows = n.aside }
    go true false z e f g =
        let n = w.shallow_back (ltb-true (distance s.row t.row) (distance s.column t.column) e) (leb-false s.column t.column f) k i in
        record { columns = turned _ _ _ n.along; rows = turned _ _ _ n.aside }
    go false y true e f g =
        let n = w.steep (ltb-false (distance s.row t.row) (distance s.column t.column) e) (leb-true s.row t.row g) k i in
        record { columns = n.aside; rows = n.along }
    go false y false e f g =
        let n = w.steep_back (ltb-false (distance s.row t.row) (distance s.column t.column) e) (leb-false s.row t.row g) k i in
        record { columns = turned _ _ _ n.aside; rows = turned _ _ _ n.along }

pub line_spanned : (s t : FieldCell) (k : ℕ) → k < length (line s t) → Spanned s t (get_or (line s t) k (cell 0 0))
line_spanned s t k h = spanned s t (line s t) (nearest_line s t) k h

pub line_inside : (s t : FieldCell) → Inside s → Inside t → (k : ℕ) → k < length (line s t) → Inside (get_or (line s t) k (cell 0 0))
line_inside s t i j k h =
    let w = line_spanned s t k h in
    let a = i.column_in in
    let b = i.row_in in
    let c = j.column_in in
    let d = j.row_in in
    let x = w.columns.to in
    let y = w.rows.to in
    record { column_in = omega arith; row_in = omega arith }
