-- What the line calls answer, by the tests that they make; that their answers hold Bresenham's line and walks; and what the places of an answer hold.
-- Assumes nothing.
use mathlib.Core.Path.{◌≡◌, refl, ap, ◌∙◌}
use mathlib.Core.Bool.{Bool, true, false, cond, ◌&&◌}
use mathlib.Core.List.{List, [], reverse}
use Prim.Native.Nat.{ℕ, ◌+◌, ◌-◌, ◌<◌, ◌≤◌}
use native.Mathlib.Omega.{arith}
use lib.Dec.{ltb}
use lib.ListN.{take}
use lib.Seq.{take-append_seam}
use borrow.Author.Tests.{ltb-true, lt-ltb, le-ltb, le-leb, lt-leb}
use Rattle.utilities.proofs.Padded.{all_zero, padded_beyond}
use Rattle.fields.specs.declared.FieldCell.{FieldCell}
use Rattle.fields.specs.Cell.{cell, Inside, inside}
use Rattle.line_nearest.specs.declared.Line.{Line}
use Rattle.line_nearest.specs.Table.{table}
use Rattle.line_nearest.specs.Line.{distance, cell_on_axes, walk_cells, shallow, steep, line, answered, refused, called, line_call}
use Rattle.line_nearest.specs.Nearest.{NearestLine, HoldsNearestLine, Walked, HoldsNearestWalk, column_of, row_of, CellsBeyond, LineRefused}
use Rattle.line_nearest.proofs.Walks.{shallow_walked, steep_walked}
use Rattle.line_nearest.proofs.Theorem.{nearest_line}

and_true : (a b : Bool) → (a && b) ≡ true → (a ≡ true) × (b ≡ true)
and_true true b e = (refl, e)
and_true false b e = let z : ◌≡◌ {A = ℕ} 0 1 = cc in absurd (omega arith)

cell_in : (c : FieldCell) → inside c ≡ true → Inside c
cell_in c e =
    let p = and_true (ltb c.column 10) (ltb c.row 10) e in
    record { column_in = ltb-true c.column 10 p.0; row_in = ltb-true c.row 10 p.1 }

in_cell : (c : FieldCell) → Inside c → inside c ≡ true
in_cell c h = rw (lt-ltb c.column 10 h.column_in, lt-ltb c.row 10 h.row_in)

module _ (s t : FieldCell) where
  pub both_in : (inside s && inside t) ≡ true → Inside s × Inside t
  both_in e = let p = and_true (inside s) (inside t) e in (cell_in s p.0, cell_in t p.1)

  pub in_both : Inside s → Inside t → (inside s && inside t) ≡ true
  in_both i j = rw (in_cell s i, in_cell t j)

  module _ (l : List FieldCell) where
    pub outside : (inside s && inside t) ≡ false → called s t l ≡ refused 13
    outside e = rw e

    pub accepted : (inside s && inside t) ≡ true → called s t l ≡ answered l
    accepted e = rw e

    -- what holds of the cells holds of an accepted answer
    held : (r : Line) (P : List FieldCell → Type 0) → r ≡ called s t l → P l → Inside s → Inside t → P (take r.count r.cells)
    held r P e p i j = let f : r ≡ answered l = e ∙ accepted (in_both i j) in rw (f, take-append_seam l) p

    -- the places of an answer, and a refused one, part by part
    pub places : (r : Line) → r ≡ called s t l → CellsBeyond r × ((r.number ≡ 0 → ⊥) → LineRefused r)
    places r e = go (inside s && inside t) e
      where
        go : (b : Bool) → r ≡ cond b (answered l) (refused 13) → CellsBeyond r × ((r.number ≡ 0 → ⊥) → LineRefused r)
        go true q = (rw q (padded_beyond 10 (cell 0 0) l), λ h. absurd (h (ap (λ (a : Line). a.number) q)))
        go false q = rw q (λ i h. all_zero 10 (cell 0 0) i, λ h. record { count = refl; cells = all_zero 10 (cell 0 0) })

  -- the answer holds Bresenham's line
  pub promised : (r : Line) → r ≡ line_call s t
      → (r ≡ line_call s t) × (HoldsNearestLine s t r × (CellsBeyond r × ((r.number ≡ 0 → ⊥) → LineRefused r)))
  unfolding line_call
  promised r e = (e, (held (line s t) r (NearestLine s t) e (nearest_line s t), places (line s t) r e))

  -- and that of a walk alone the nearest walk, where the pair is one of its kind
  pub shallow_held : (r : Line) → r ≡ called s t (shallow s t) → HoldsNearestWalk column_of row_of s t r
  shallow_held r e i j h n = held (shallow s t) r (Walked column_of row_of s t s t) e (shallow_walked s t h n) i j

  pub steep_held : (r : Line) → r ≡ called s t (steep s t) → HoldsNearestWalk row_of column_of s t r
  steep_held r e i j h n = held (steep s t) r (Walked row_of column_of s t s t) e (steep_walked s t h n) i j

-- the coordinates of a walk alone
pub on_axes_in : (steep : Bool) (a b : ℕ) → Inside (cell_on_axes steep a b) → (a < 10) × (b < 10)
on_axes_in true a b h = (h.row_in, h.column_in)
on_axes_in false a b h = (h.column_in, h.row_in)

-- a walk whose target's major coordinate is lower has no cells
pub none_back : (steep : Bool) (a₀ b₀ a₁ b₁ : ℕ) → a₁ < a₀ → walk_cells steep a₀ b₀ a₁ b₁ ≡ []
unfolding table
none_back steep a₀ b₀ a₁ b₁ h = let e : a₁ + 1 - a₀ ≡ 0 = omega arith in rw e

-- the shallow lines, forth and back
module _ (s t : FieldCell) (n : distance s.row t.row < distance s.column t.column) where
  pub shallow_forth : s.column ≤ t.column → line s t ≡ shallow s t
  unfolding line
  shallow_forth h = rw (lt-ltb (distance s.row t.row) (distance s.column t.column) n, le-leb s.column t.column h)

  pub shallow_back : t.column < s.column → line s t ≡ reverse (shallow t s)
  unfolding line
  shallow_back h = rw (lt-ltb (distance s.row t.row) (distance s.column t.column) n, lt-leb s.column t.column h)

-- the steep lines, forth and back
module _ (s t : FieldCell) (n : distance s.column t.column ≤ distance s.row t.row) where
  pub steep_forth : s.row ≤ t.row → line s t ≡ steep s t
  unfolding line
  steep_forth h = rw (le-ltb (distance s.row t.row) (distance s.column t.column) n, le-leb s.row t.row h)

  pub steep_back : t.row < s.row → line s t ≡ reverse (steep t s)
  unfolding line
  steep_back h = rw (le-ltb (distance s.row t.row) (distance s.column t.column) n, lt-leb s.row t.row h)
