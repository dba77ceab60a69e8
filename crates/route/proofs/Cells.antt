-- The cells of an edge, and those of them that a loop has collected so far.
--     edge_run                  a side's edge is a run of ten cells; edge_length, edge_at and edge_at_most follow
--     stride_within             a stride is 1 to 10
--     by_edge                   what holds of each of the four sides holds of one on whose edge a cell lies
--     edge_in, cells_in         whatever its side, its first and its last: a window's cells are cells of the sector, no cell twice, at most 10
--     listed_at                 a cell by its place in the array
--     taken, passed             the loop goes on to the next cell
-- Assumes nothing.
use mathlib.Core.Path.{◌≡◌, refl, sym, ap, ap₂, ◌∙◌}
use mathlib.Core.Bool.{Bool, true, false, cond, false≢true}
use mathlib.Core.List.{List, [], ◌∷◌, ◌++◌, append-nil}
use Prim.Native.Nat.{ℕ, ◌+◌, ◌*◌, ◌/◌, ◌%◌, ◌<◌, ◌≤◌}
use native.Mathlib.Nat.{mul-le-mul_left, mul-lt-mul_of_pos_right}
use native.Mathlib.Numerals.{add-one}
use native.Mathlib.Omega.{arith}
use lib.ListN.{length, get_or, take, length-append, get_or-append}
use lib.Seq.{take-suc, length-take-le}
use borrow.Author.Tests.{eqb-true}
use Rattle.utilities.specs.declared.CompassDir.{CompassDir}
use Rattle.utilities.specs.declared.CompassDir.TheVariants.{North, East, South, West, NorthEast, SouthEast, SouthWest, NorthWest, Zero}
use Rattle.utilities.specs.Compass.{differences, still}
use Rattle.utilities.proofs.Padded.{padded_push}
use Rattle.utilities.specs.Lists.{cons_if}
use Rattle.fields.specs.declared.CellList.{CellList}
use Rattle.fields.specs.CellList.{pushed}
use Rattle.route.specs.Window.{select, on_edge, edge, stride, between, cells_between, listed}
use Rattle.route.specs.Target.{WindowIn}
use Rattle.route.proofs.Runs.{run, run_length, run_at}
use Rattle.route.proofs.Selected.{few, select_in}

-- how many cells an edge has, and its first; a direction that is no side has none
abbrev pub edge_count : CompassDir → ℕ
edge_count North = 10
edge_count East = 10
edge_count South = 10
edge_count West = 10
edge_count NorthEast = 0
edge_count SouthEast = 0
edge_count SouthWest = 0
edge_count NorthWest = 0
edge_count Zero = 0

abbrev pub edge_first : CompassDir → ℕ
edge_first North = 0
edge_first East = 9
edge_first South = 90
edge_first West = 0
edge_first NorthEast = 0
edge_first SouthEast = 0
edge_first SouthWest = 0
edge_first NorthWest = 0
edge_first Zero = 0

pub edge_run : (side : CompassDir) → edge side ≡ run (edge_count side) (edge_first side) (stride side)
unfolding edge on_edge
edge_run North = refl
edge_run East = refl
edge_run South = refl
edge_run West = refl
edge_run NorthEast = refl
edge_run SouthEast = refl
edge_run SouthWest = refl
edge_run NorthWest = refl
edge_run Zero = refl

pub edge_length : (side : CompassDir) → length (edge side) ≡ edge_count side
edge_length side = rw (edge_run side) (run_length (edge_count side) (edge_first side) (stride side))

pub edge_at : (side : CompassDir) (k : ℕ) → k < length (edge side) → get_or (edge side) k 0 ≡ edge_first side + k * stride side
edge_at side k h = rw (edge_run side) (run_at (edge_count side) (edge_first side) (stride side) k (rw (← edge_length side) h))

pub edge_at_most : (side : CompassDir) → length (edge side) ≤ 10
edge_at_most side = rw (edge_length side) (at_most side)
  where
    at_most : (side : CompassDir) → edge_count side ≤ 10
    at_most North = omega arith
    at_most East = omega arith
    at_most South = omega arith
    at_most West = omega arith
    at_most NorthEast = omega arith
    at_most SouthEast = omega arith
    at_most SouthWest = omega arith
    at_most NorthWest = omega arith
    at_most Zero = omega arith

-- a direction that is no side has none; and an edge whose first cell is neither 9 nor 90 begins at 0
pub edge_none : (side : CompassDir) → (side ≡ North → ⊥) → (side ≡ East → ⊥) → (side ≡ South → ⊥) → (side ≡ West → ⊥) → edge_count side ≡ 0
edge_none North n e s w = absurd (n refl)
edge_none East n e s w = absurd (e refl)
edge_none South n e s w = absurd (s refl)
edge_none West n e s w = absurd (w refl)
edge_none NorthEast n e s w = refl
edge_none SouthEast n e s w = refl
edge_none SouthWest n e s w = refl
edge_none NorthWest n e s w = refl
edge_none Zero n e s w = refl

pub first_else : (side : CompassDir) → (side ≡ East → ⊥) → (side ≡ South → ⊥) → edge_first side ≡ 0
first_else North e s = refl
first_else East e s = absurd (e refl)
first_else South e s = absurd (s refl)
first_else West e s = refl
first_else NorthEast e s = refl
first_else SouthEast e s = refl
first_else SouthWest e s = refl
first_else NorthWest e s = refl
first_else Zero e s = refl

pub stride_within : (side : CompassDir) → (0 < stride side) × (stride side ≤ 10)
stride_within side = within (still (differences side).column)
  where
    within : (b : Bool) → (0 < cond b 1 10) × (cond b 1 10 ≤ 10)
    within true = (omega arith, omega arith)
    within false = (omega arith, omega arith)

pub along_below : (side : CompassDir) (k : ℕ) → k < length (edge side) → k * stride side < 100
along_below side k h = omega (arith, edge_at_most side, mul-le-mul_left k (stride_within side).1)

pub by_edge : (Q : CompassDir → Type 0) (side : CompassDir) (i : ℕ) → on_edge side i ≡ true
    → (i / 10 ≡ 0 → Q North) → (i % 10 ≡ 9 → Q East) → (i / 10 ≡ 9 → Q South) → (i % 10 ≡ 0 → Q West) → Q side
unfolding on_edge
by_edge Q North i p n e s w = n (eqb-true (i / 10) 0 p)
by_edge Q East i p n e s w = e (eqb-true (i % 10) 9 p)
by_edge Q South i p n e s w = s (eqb-true (i / 10) 9 p)
by_edge Q West i p n e s w = w (eqb-true (i % 10) 0 p)
by_edge Q NorthEast i p n e s w = absurd (false≢true p)
by_edge Q SouthEast i p n e s w = absurd (false≢true p)
by_edge Q SouthWest i p n e s w = absurd (false≢true p)
by_edge Q NorthWest i p n e s w = absurd (false≢true p)
by_edge Q Zero i p n e s w = absurd (false≢true p)

-- ---- cells of the sector

pub below_hundred : (side : CompassDir) (k : ℕ) → k < length (edge side) → edge_first side + k * stride side < 100
below_hundred North k h = omega (arith, edge_length North)
below_hundred East k h = omega (arith, edge_length East)
below_hundred South k h = omega (arith, edge_length South)
below_hundred West k h = omega (arith, edge_length West)
below_hundred NorthEast k h = omega (arith, edge_length NorthEast)
below_hundred SouthEast k h = omega (arith, edge_length SouthEast)
below_hundred SouthWest k h = omega (arith, edge_length SouthWest)
below_hundred NorthWest k h = omega (arith, edge_length NorthWest)
below_hundred Zero k h = omega (arith, edge_length Zero)

pub edge_in : (side : CompassDir) → WindowIn (edge side)
edge_in side = record {
  inside = λ i h. omega (arith, edge_at side i h, below_hundred side i h);
  once = λ i j h k e. omega (arith, edge_at side i (omega arith), edge_at side j k, mul-lt-mul_of_pos_right h (stride_within side).0);
  few = edge_at_most side;
}

pub cells_in : (side : CompassDir) (first last : ℕ) → WindowIn (cells_between side first last)
unfolding cells_between
cells_in side first last = select_in (between first last) (edge side) (edge_in side)

pub listed_at : (l : List ℕ) (k : ℕ) → k < length l → get_or (listed l).cells k 0 ≡ get_or l k 0
listed_at l k h = get_or-append l _ 0 k h

-- ---- collected

module _ (p : ℕ → Bool) where
  pub select_append : (a b : List ℕ) → select p (a ++ b) ≡ select p a ++ select p b
  select_append [] b = refl
  select_append (x ∷ a) b = step (p x) (select_append a b)
    where
      step : (t : Bool) → select p (a ++ b) ≡ select p a ++ select p b
          → cons_if t x (select p (a ++ b)) ≡ cons_if t x (select p a) ++ select p b
      step true e = ap (λ (l : List ℕ). x ∷ l) e
      step false e = e

-- one cell more is listed behind the others
made : List ℕ → ℕ → CellList 10
made cells count = record { cells = cells; count = count }

pub listed_push : (cells : List ℕ) (x : ℕ) → length cells < 10 → pushed x (listed cells) ≡ listed (cells ++ (x ∷ []))
unfolding made
listed_push cells x h = ap₂ made (padded_push 10 0 cells x h) (sym (length-append cells (x ∷ [])))

-- those of a list's first k that pass a test
module _ (p : ℕ → Bool) (l : List ℕ) (k : ℕ) (fits : length l ≤ 10) (more : k < length l) where
  pub room : length (select p (take k l)) < 10
  room = omega (arith, few p (take k l), length-take-le k l (omega arith))

  next : select p (take (k + 1) l) ≡ select p (take k l) ++ select p (get_or l k 0 ∷ [])
  next = rw (add-one, take-suc l k 0 more) (select_append p (take k l) (get_or l k 0 ∷ []))

  pub taken : {w : CellList 10} (x : ℕ) → w ≡ listed (select p (take k l)) → x ≡ get_or l k 0 → p x ≡ true
      → pushed x w ≡ listed (select p (take (k + 1) l))
  taken x is e t =
      let q : p (get_or l k 0) ≡ true = rw (← e) t in
      let n : select p (take (k + 1) l) ≡ select p (take k l) ++ (x ∷ []) = rw (next, q, e) in
      rw (is, n) (listed_push (select p (take k l)) x room)

  pub passed : {w : CellList 10} (x : ℕ) → w ≡ listed (select p (take k l)) → x ≡ get_or l k 0 → p x ≡ false → w ≡ listed (select p (take (k + 1) l))
  passed x is e t =
      let q : p (get_or l k 0) ≡ false = rw (← e) t in
      is ∙ ap listed (sym (rw (next, q) (append-nil (select p (take k l)))))
