-- The cells of an accepted window: first, first + stride, .. to the last.
--     window_run        a window's cells are a run from the first cell to the last
--     window_count      how many there are, and that there are some
--     window_at         the k-th: first + k * stride, a cell of the named edge, at most the last
--     window_all        and every cell of the edge from the first to the last is one
-- Assumes nothing.
use mathlib.Core.Path.{◌≡◌, refl, ap, ap₂, ◌∙◌}
use mathlib.Core.Bool.{Bool, true, false, not, ◌&&◌, ◌||◌, false≢true, and-eq-true_iff}
use mathlib.Core.List.{List, [], ◌∷◌}
use Prim.Native.Nat.{ℕ, ◌+◌, ◌-◌, ◌*◌, ◌/◌, ◌%◌, ◌<◌, ◌≤◌}
use native.Mathlib.Omega.{arith}
use lib.Dec.{leb, eqb}
use lib.ListN.{length, get_or}
use borrow.Author.Tests.{eqb-true, eq-eqb, le-leb}
use Rattle.utilities.specs.declared.CompassDir.{CompassDir}
use Rattle.utilities.specs.declared.CompassDir.TheVariants.{North, East, South, West}
use Rattle.route.specs.Window.{on_edge, edge, between, cells_between, select, stride}
use Rattle.route.specs.Step.{first_of, last_of, boundary_of, window_cells}
use Rattle.route.proofs.Below.{holds, holds_at}
use Rattle.route.proofs.Runs.{run, run_length, run_at}
use Rattle.route.proofs.Cells.{edge_run, by_edge}
use Rattle.route.proofs.Accepted.{Window}

same : List ℕ → List ℕ → Bool
same [] [] = true
same [] (y ∷ m) = false
same (x ∷ l) [] = false
same (x ∷ l) (y ∷ m) = eqb x y && same l m

same_true : (l m : List ℕ) → same l m ≡ true → l ≡ m
unfolding same
same_true [] [] e = refl
same_true [] (y ∷ m) e = absurd (false≢true e)
same_true (x ∷ l) [] e = absurd (false≢true e)
same_true (x ∷ l) (y ∷ m) e =
    let p = (and-eq-true_iff (eqb x y) (same l m)).0 e in
    ap₂ (λ (a : ℕ) (b : List ℕ). a ∷ b) (eqb-true x y p.0) (same_true l m p.1)

or_true : (a b : Bool) → a ≡ true → (not a || b) ≡ true → b ≡ true
or_true true b t e = e
or_true false b t e = absurd (false≢true t)

-- on an edge of ten cells from a, d apart: those from the i-th to the j-th are a run, for each i and j, computed once
pair : ℕ → ℕ → ℕ → ℕ → Bool
pair a d i j = not (leb i j) || same (select (between (a + i * d) (a + j * d)) (run 10 a d)) (run (j - i + 1) (a + i * d) d)

pair_at : (a d : ℕ) → holds 10 (λ i. holds 10 (pair a d i)) ≡ true → (i j : ℕ) → i < 10 → j < 10 → i ≤ j
    → select (between (a + i * d) (a + j * d)) (run 10 a d) ≡ run (j - i + 1) (a + i * d) d
unfolding pair
pair_at a d e i j h k o =
    same_true _ _ (or_true (leb i j) _ (le-leb i j o) (holds_at 10 (pair a d i) (holds_at 10 (λ i. holds 10 (pair a d i)) e i h) j k))

module _ (f l : ℕ) (fi : f < 100) (li : l < 100) (o : f ≤ l) where
  from_places : (side : CompassDir) (a d i j n : ℕ) → edge side ≡ run 10 a d → holds 10 (λ i. holds 10 (pair a d i)) ≡ true → i < 10 → j < 10 → i ≤ j
      → f ≡ a + i * d → l ≡ a + j * d → n ≡ j - i + 1 → cells_between side f l ≡ run n f d
  unfolding cells_between
  from_places side a d i j n e t h k m ef el en = rw (e, ef, el, en) (pair_at a d t i j h k m)

  pub window_run : (side : CompassDir) → on_edge side f ≡ true → on_edge side l ≡ true
      → cells_between side f l ≡ run ((l - f) / stride side + 1) f (stride side)
  unfolding on_edge pair same
  window_run side p =
      by_edge (λ s. on_edge s l ≡ true → cells_between s f l ≡ run ((l - f) / stride s + 1) f (stride s)) side f p
      (λ u q.
      let v = eqb-true (l / 10) 0 q in
      from_places North 0 1 f l ((l - f) / 1 + 1) (edge_run North) refl
      (omega arith) (omega arith) (omega arith) (omega arith) (omega arith) (omega arith))
      (λ u q.
      let v = eqb-true (l % 10) 9 q in
      from_places East 9 10 (f / 10) (l / 10) ((l - f) / 10 + 1) (edge_run East) refl
      (omega arith) (omega arith) (omega arith) (omega arith) (omega arith) (omega arith))
      (λ u q.
      let v = eqb-true (l / 10) 9 q in
      from_places South 90 1 (f - 90) (l - 90) ((l - f) / 1 + 1) (edge_run South) refl
      (omega arith) (omega arith) (omega arith) (omega arith) (omega arith) (omega arith))
      (λ u q.
      let v = eqb-true (l % 10) 0 q in
      from_places West 0 10 (f / 10) (l / 10) ((l - f) / 10 + 1) (edge_run West) refl
      (omega arith) (omega arith) (omega arith) (omega arith) (omega arith) (omega arith))

-- a place k of a run along an edge
record Along (side : CompassDir) (f l k : ℕ) : Type 0 where
  on : on_edge side (f + k * stride side) ≡ true
  to : f + k * stride side ≤ l

module _ (f l : ℕ) (fi : f < 100) (li : l < 100) (o : f ≤ l) where
  along : (side : CompassDir) (k : ℕ) → on_edge side f ≡ true → on_edge side l ≡ true → k < (l - f) / stride side + 1 → Along side f l k
  unfolding on_edge
  along side k p =
      by_edge (λ s. on_edge s l ≡ true → k < (l - f) / stride s + 1 → Along s f l k) side f p
      (λ u q h. let v = eqb-true (l / 10) 0 q in record { on = eq-eqb ((f + k * 1) / 10) 0 (omega arith); to = omega arith })
      (λ u q h. let v = eqb-true (l % 10) 9 q in record { on = eq-eqb ((f + k * 10) % 10) 9 (omega arith); to = omega arith })
      (λ u q h. let v = eqb-true (l / 10) 9 q in record { on = eq-eqb ((f + k * 1) / 10) 9 (omega arith); to = omega arith })
      (λ u q h. let v = eqb-true (l % 10) 0 q in record { on = eq-eqb ((f + k * 10) % 10) 0 (omega arith); to = omega arith })

  place_of : (side : CompassDir) (i : ℕ) → on_edge side f ≡ true → on_edge side l ≡ true → on_edge side i ≡ true → i < 100 → f ≤ i → i ≤ l
      → ((i - f) / stride side < (l - f) / stride side + 1) × (f + (i - f) / stride side * stride side ≡ i)
  unfolding on_edge
  place_of side i p =
      by_edge
      (λ s. on_edge s l ≡ true → on_edge s i ≡ true → i < 100 → f ≤ i → i ≤ l
      → ((i - f) / stride s < (l - f) / stride s + 1) × (f + (i - f) / stride s * stride s ≡ i)) side f p
      (λ u q r ii from to. let v = eqb-true (l / 10) 0 q in let w = eqb-true (i / 10) 0 r in (omega arith, omega arith))
      (λ u q r ii from to. let v = eqb-true (l % 10) 9 q in let w = eqb-true (i % 10) 9 r in (omega arith, omega arith))
      (λ u q r ii from to. let v = eqb-true (l / 10) 9 q in let w = eqb-true (i / 10) 9 r in (omega arith, omega arith))
      (λ u q r ii from to. let v = eqb-true (l % 10) 0 q in let w = eqb-true (i % 10) 0 r in (omega arith, omega arith))

-- the cell x at place k of a step's window
pub record At (s : List ℕ) (k x : ℕ) : Type 0 where
  pub is : x ≡ first_of s + k * stride (boundary_of s)
  pub below : x < 100
  pub on : on_edge (boundary_of s) x ≡ true
  pub from : first_of s ≤ x
  pub to : x ≤ last_of s

module _ (s : List ℕ) (w : Window s) where
  pub window_is : window_cells s ≡ run ((last_of s - first_of s) / stride (boundary_of s) + 1) (first_of s) (stride (boundary_of s))
  window_is = window_run (first_of s) (last_of s) w.first_in w.last_in w.in_order (boundary_of s) w.first_on w.last_on

  pub window_count : length (window_cells s) ≡ (last_of s - first_of s) / stride (boundary_of s) + 1
  window_count = ap length window_is ∙ run_length _ (first_of s) (stride (boundary_of s))

  pub window_some : 0 < length (window_cells s)
  window_some = omega (arith, window_count)

  pub window_at : (k : ℕ) → k < length (window_cells s) → At s k (get_or (window_cells s) k 0)
  window_at k h =
      let n = (last_of s - first_of s) / stride (boundary_of s) + 1 in
      let m : k < n = omega (arith, window_count) in
      let a = along (first_of s) (last_of s) w.first_in w.last_in w.in_order (boundary_of s) k w.first_on w.last_on m in
      let e : get_or (window_cells s) k 0 ≡ first_of s + k * stride (boundary_of s) =
      ap (λ (l : List ℕ). get_or l k 0) window_is ∙ run_at n (first_of s) (stride (boundary_of s)) k m in
      record {
        is = e;
        below = omega (arith, e, a.to, w.last_in);
        on = rw e a.on;
        from = omega (arith, e);
        to = omega (arith, e, a.to);
      }

  pub window_all : (i : ℕ) → i < 100 → on_edge (boundary_of s) i ≡ true → first_of s ≤ i → i ≤ last_of s
      → (k : ℕ) × (k < length (window_cells s)) × (get_or (window_cells s) k 0 ≡ i)
  window_all i ii on from to =
      let p = place_of (first_of s) (last_of s) w.first_in w.last_in w.in_order (boundary_of s) i w.first_on w.last_on on ii from to in
      let k = (i - first_of s) / stride (boundary_of s) in
      let m : k < length (window_cells s) = omega (arith, window_count, p.0) in
      (k, m, (window_at k m).is ∙ p.1)
