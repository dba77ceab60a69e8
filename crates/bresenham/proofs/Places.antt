-- The array of a walk of m steps while its first k cells are written: from the first place, or from the last.
-- Assumes nothing.
use mathlib.Core.Path.{◌≡◌, refl, ap, ◌∙◌}
use mathlib.Core.Bool.{Bool, true, false}
use mathlib.Core.List.{List, [], ◌∷◌, ◌++◌, reverse, reverse-append, append_assoc}
use Prim.Native.Nat.{ℕ, ◌+◌, ◌-◌, ◌<◌, ◌≤◌}
use native.Mathlib.Numerals.{add-one}
use native.Mathlib.Omega.{arith}
use lib.ListN.{length, set, replicate, replicate-append-replicate, length-replicate, length-reverse}
use lib.Seq.{set_at}
use Rattle.utilities.specs.Padded.{padded}
use Rattle.line_nearest.specs.Table.{table}
use Rattle.bresenham.specs.Inner.{listed, list_place}
use Rattle.line_nearest.proofs.Lists.{length_table, table_suc, table_set}

abbrev pub zeros : ℕ → List ℕ
zeros n = replicate n 0

abbrev pub written : Bool → ℕ → ℕ → (ℕ → ℕ) → List ℕ
written true m k f = zeros (m + 1 - k) ++ (reverse (table k f) ++ zeros (9 - m))
written false m k f = padded 10 0 (table k f)

module _ (m : ℕ) (f : ℕ → ℕ) (room : m < 10) where
  pub none_written : (back : Bool) → written back m 0 f ≡ zeros 10
  unfolding table
  none_written true = let e : m + 1 - 0 + (9 - m) ≡ 10 = omega arith in replicate-append-replicate (m + 1 - 0) (9 - m) 0 ∙ ap zeros e
  none_written false = refl

  pub all_written : (back : Bool) → written back m (m + 1) f ≡ padded 10 0 (listed back (table (m + 1) f))
  all_written true =
      let l = table (m + 1) f in
      let e : m + 1 - (m + 1) ≡ 0 = omega arith in
      let h : length (reverse l) ≡ m + 1 = length-reverse l ∙ length_table (m + 1) f in
      let g : 9 - m ≡ 10 - length (reverse l) = omega arith in
      rw (e, g)
  all_written false = refl

  -- the cell before those that are written from the last
  before_last : (k : ℕ) → k ≤ m → set (written true m k f) (m - k) (f k) ≡ written true m (k + 1) f
  before_last k h =
      let e : m + 1 - k ≡ m - k + 1 = omega arith in
      let g : m + 1 - (k + 1) ≡ m - k = omega arith in
      rw (
        e,
        g,
        add-one k,
        table_suc k f,
        reverse-append (table k f) (f k ∷ []),
        ← replicate-append-replicate {A = ℕ} (m - k) 1 0,
        append_assoc (zeros (m - k)) (zeros 1) (reverse (table k f) ++ zeros (9 - m)),
      )
      (set_at (zeros (m - k)) 0 (reverse (table k f) ++ zeros (9 - m)) (f k) (m - k) (length-replicate (m - k) 0))

  pub one_written : (back : Bool) (k : ℕ) → k ≤ m → set (written back m k f) (list_place back m k) (f k) ≡ written back m (k + 1) f
  one_written true k h = before_last k h
  one_written false k h = rw (add-one k) (table_set 10 k f 0 (omega arith))

  -- the same of an array that holds them
  pub one_more_law : (back : Bool) (k : ℕ) (drawn : List ℕ) → drawn ≡ written back m k f → (place x : ℕ) → k ≤ m → place ≡ list_place back m k → x ≡ f k
      → set drawn place x ≡ written back m (k + 1) f
  one_more_law back k drawn held place x h p q = rw (held, p, q) (one_written back k h)
