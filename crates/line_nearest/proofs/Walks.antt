-- The walks of the definition are nearest walks, from either end.
-- Assumes nothing.
use mathlib.Core.Path.{◌≡◌, refl, sym, ap, ap₂, ◌∙◌, subst}
use mathlib.Core.Bool.{true, false}
use mathlib.Core.List.{List, reverse}
use Prim.Native.Nat.{ℕ, zero, suc, ◌+◌, ◌-◌, ◌*◌, ◌<◌, ◌≤◌}
use native.Mathlib.Nat.{zero-mul}
use native.Mathlib.Omega.{arith}
use lib.ListN.{length, get_or, length-reverse}
use Rattle.fields.specs.declared.FieldCell.{FieldCell}
use Rattle.fields.specs.Cell.{cell}
use Rattle.line_nearest.specs.Table.{table}
use Rattle.line_nearest.specs.Line.{distance, nearest, minor_at, walk_at, shallow, steep}
use Rattle.line_nearest.specs.Nearest.{Between, Neighbours, NearestTo, NearestCell, Walked, column_of, row_of}
use Rattle.line_nearest.proofs.Lists.{length_table, get_d_table, get_d_reverse}
use Rattle.line_nearest.proofs.Offset.{nearest_is, minor_between, minor_offset, minor_start, minor_end, minor_next}

-- up to the last step the offset is the nearest number, also in a line of one cell
offset_nearest : (d m k : ℕ) → k ≤ m → NearestTo d m k (nearest d m k)
offset_nearest d zero zero h =
    let p : 0 * d ≡ 0 = zero-mul d in
    let q : 0 * nearest d 0 0 ≡ 0 = zero-mul (nearest d 0 0) in
    record { half_at_most = omega arith; half_smaller = λ e. omega arith }
offset_nearest d zero (suc k) h = absurd (omega arith)
offset_nearest d (suc m) k h = nearest_is d (suc m) k (omega arith)

between_up : (x m k : ℕ) → k ≤ m → Between x (x + m) (x + k)
between_up x m k h = record { from = omega arith; to = omega arith }

-- a walk of m steps whose step k is f k: the same for columns and rows, and for rows and columns
module _
    (major minor : FieldCell → ℕ)
    (same : (c d : FieldCell) → major c ≡ major d → minor c ≡ minor d → c ≡ d)
    (neighbours : (c d : FieldCell) → distance (major c) (major d) ≡ 1 → distance (minor c) (minor d) ≤ 1 → Neighbours c d)
    (a b : FieldCell) (m : ℕ) (f : ℕ → FieldCell)
    (ahead : major b ≡ major a + m)
    (narrow : distance (minor a) (minor b) ≤ m)
    (along : (k : ℕ) → major (f k) ≡ major a + k)
    (aside : (k : ℕ) → minor (f k) ≡ minor_at (minor a) (minor b) m k) where
  step_nearest : (k : ℕ) → k ≤ m → NearestCell major minor a b (f k)
  step_nearest k h =
      let d = distance (minor a) (minor b) in
      let g = along k in
      let p : distance (major a) (major (f k)) ≡ k = omega arith in
      let q : distance (major a) (major b) ≡ m = omega arith in
      let r : distance (minor a) (minor (f k)) ≡ nearest d m k = ap (distance (minor a)) (aside k) ∙ minor_offset (minor a) (minor b) m narrow k h in
      record {
        along = rw (ahead, g) (between_up (major a) m k h);
        aside = subst (Between (minor a) (minor b)) (sym (aside k)) (minor_between (minor a) (minor b) m k);
        nearest_aside = rw (p, q, r) (offset_nearest d m k h);
      }

  step_moves : (k : ℕ) → Neighbours (f k) (f (k + 1))
  step_moves k =
      let p = along k in
      let q = along (k + 1) in
      neighbours (f k) (f (k + 1)) (omega arith) (rw (aside k, aside (k + 1)) (minor_next (minor a) (minor b) m narrow k))

  at : (k : ℕ) → k ≤ m → get_or (table (m + 1) f) k (cell 0 0) ≡ f k
  at k h = get_d_table (m + 1) f k (cell 0 0) (omega arith)

  pub walked : Walked major minor a b a b (table (m + 1) f)
  walked =
      let n : length (table (m + 1) f) ≡ m + 1 = length_table (m + 1) f in
      let e : length (table (m + 1) f) - 1 ≡ m = omega arith in
      let p = along 0 in
      let q = along m in
      record {
        many = omega arith;
        first = at 0 (omega arith) ∙ same (f 0) a (omega arith) (aside 0 ∙ minor_start (minor a) (minor b) m);
        last = rw e (at m (omega arith) ∙ same (f m) b (omega arith) (aside m ∙ minor_end (minor a) (minor b) m narrow));
        moves = λ k h. rw (at k (omega arith), at (k + 1) (omega arith)) (step_moves k);
        each = λ k h. rw (at k (omega arith)) (step_nearest k (omega arith));
      }

neighbours_back : (c d : FieldCell) → Neighbours c d → Neighbours d c
neighbours_back c d h = omega arith

-- the same cells from the last
pub walked_back : (major minor : FieldCell → ℕ) (a b s t : FieldCell) (l : List FieldCell) → Walked major minor a b s t l
    → Walked major minor a b t s (reverse l)
walked_back major minor a b s t l w =
    let n = length l in
    let p : length (reverse l) ≡ n = length-reverse l in
    let m = w.many in
    let at : (k : ℕ) → k < n → get_or (reverse l) k (cell 0 0) ≡ get_or l (n - 1 - k) (cell 0 0) = λ k h. get_d_reverse l k (cell 0 0) h in
    record {
      many = p ∙ m;
      first = let e : n - 1 - 0 ≡ n - 1 = omega arith in at 0 (omega arith) ∙ ap (λ (i : ℕ). get_or l i (cell 0 0)) e ∙ w.last;
      last =
          let e : n - 1 - (n - 1) ≡ 0 = omega arith in
          ap (λ (i : ℕ). get_or (reverse l) (i - 1) (cell 0 0)) p ∙ at (n - 1) (omega arith) ∙ ap (λ (i : ℕ). get_or l i (cell 0 0)) e ∙ w.first;
      moves = λ k h.
          let e : n - 1 - k ≡ n - 1 - (k + 1) + 1 = omega arith in
          rw (at k (omega arith), at (k + 1) (omega arith), e)
          (neighbours_back (get_or l (n - 1 - (k + 1)) (cell 0 0)) (get_or l (n - 1 - (k + 1) + 1) (cell 0 0)) (w.moves (n - 1 - (k + 1)) (omega arith)));
      each = λ k h. rw (at k (omega arith)) (w.each (n - 1 - k) (omega arith));
    }

-- the two walks, wherever the pair is one of their kind
pub cells_many : (a b : ℕ) → a ≤ b → b + 1 - a ≡ b - a + 1
cells_many a b h = omega arith

module _ (s t : FieldCell) where
  pub shallow_walked : s.column ≤ t.column → distance s.row t.row ≤ t.column - s.column → Walked column_of row_of s t s t (shallow s t)
  unfolding shallow
  shallow_walked h n =
      let f = walk_at false s.column s.row t.column t.row in
      rw (cells_many s.column t.column h)
      (walked column_of row_of (λ c d p q. ap₂ cell p q) (λ c d p q. omega arith) s t (t.column - s.column) f (omega arith) n (λ k. refl) (λ k. refl))

  pub steep_walked : s.row ≤ t.row → distance s.column t.column ≤ t.row - s.row → Walked row_of column_of s t s t (steep s t)
  unfolding steep
  steep_walked h n =
      let f = walk_at true s.row s.column t.row t.column in
      rw (cells_many s.row t.row h)
      (walked row_of column_of (λ c d p q. ap₂ cell q p) (λ c d p q. omega arith) s t (t.row - s.row) f (omega arith) n (λ k. refl) (λ k. refl))
