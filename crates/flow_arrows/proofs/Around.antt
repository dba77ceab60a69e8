-- The neighbours that a look does not pass over: no walls, and no diagonals that pass one.
--     Near                          a neighbour by rows and columns: beside the cell, or one row and one column away
--     Sees                          a neighbour that a look does not pass over
--     reached_there, reached_back   it is reached if and only if the cell is: a permitted diagonal has a side cell that is no wall
--     sees, open_sees, sees_open    what a step arrives at is seen exactly where the two tests of a look fail
--     sees_beside                   a cell beside that is no wall is seen in some direction
-- Assumes nothing.
use mathlib.Core.Path.{◌≡◌, refl, sym}
use mathlib.Core.Bool.{Bool, true, false, true≢false, not, ◌||◌, and-false}
use mathlib.Core.Logic.{◌⊎◌, inl, inr}
use mathlib.Core.List.Memᴰ
use mathlib.Core.List.{List, [], ◌∷◌, Memᴰ}
use Prim.Native.Nat.{ℕ, ◌+◌, ◌*◌, ◌/◌, ◌%◌, ◌<◌}
use native.Mathlib.Omega.{arith}
use lib.Dec.{eqb}
use borrow.Author.Tests.{eq-eqb, ne_eqb}
use Rattle.utilities.specs.declared.CompassDir.{CompassDir}
use Rattle.utilities.specs.declared.CompassDir.TheVariants.{North, East, South, West, NorthEast, SouthEast, SouthWest, NorthWest, Zero}
use Rattle.utilities.specs.Compass.{points, orthogonal, all}
use Rattle.fields.specs.declared.FieldCell.{FieldCell}
use Rattle.std.specs.Prelude.{Some}
use Rattle.fields.specs.Cell.{index_of, cell_at, stepped}
use Rattle.fields.specs.Neighbours.{ByOne, BesideAt}
use Rattle.fields.specs.Steps.{Arrives}
use Rattle.fields.proofs.Steps.{stepped_cell, steps_to, told, cell_inside, cell_of_index}
use Rattle.fields.proofs.Beside.{step_beside, beside_step, beside_flip, beside_below}
use Rattle.integration_field.specs.Diagonal.{wall_at, diagonal, passes_wall}
use Rattle.flow_byte.specs.Look.{is_passed_over}
use Rattle.flow_arrows.proofs.Fall.{EndSector, value, NoWall, spreads}

-- n is a cell beside i, or one row and one column away
pub data Near (i n : ℕ) : Type 0 where
  beside : BesideAt i n → Near i n
  corner : i < 100 → n < 100 → ByOne (i % 10) (n % 10) → ByOne (i / 10) (n / 10) → Near i n

-- an orthogonal step arrives beside the cell
across : (i : ℕ) → i < 100 → (d : CompassDir) (c : FieldCell) → Memᴰ d orthogonal → Arrives (cell_at i) d c → Near i (index_of c)
across i h d c m a = beside (rw (cell_of_index c a.within) (step_beside (cell_at i) c (cell_inside i h) d m (steps_to (cell_at i) d c a)))

near : (i : ℕ) → i < 100 → (d : CompassDir) (c : FieldCell) → Arrives (cell_at i) d c → Near i (index_of c)
near i h North c a = across i h North c (Memᴰ.head refl) a
near i h East c a = across i h East c (Memᴰ.tail (Memᴰ.head refl)) a
near i h South c a = across i h South c (Memᴰ.tail (Memᴰ.tail (Memᴰ.head refl))) a
near i h West c a = across i h West c (Memᴰ.tail (Memᴰ.tail (Memᴰ.tail (Memᴰ.head refl)))) a
near i h NorthEast c a = let w = a.within in let t = told (cell_at i) NorthEast c a in corner h (omega arith) (inl (omega arith)) (inr (omega arith))
near i h SouthEast c a = let w = a.within in let t = told (cell_at i) SouthEast c a in corner h (omega arith) (inl (omega arith)) (inl (omega arith))
near i h SouthWest c a = let w = a.within in let t = told (cell_at i) SouthWest c a in corner h (omega arith) (inr (omega arith)) (inl (omega arith))
near i h NorthWest c a = let w = a.within in let t = told (cell_at i) NorthWest c a in corner h (omega arith) (inr (omega arith)) (inr (omega arith))
near i h Zero c a = absurd (true≢false (sym a.pointing))

pub near_in : {i n : ℕ} → Near i n → n < 100
near_in {i = i} {n = n} (beside b) = (beside_below i n b).1
near_in (corner h l c r) = l

-- from i the step in direction d arrives at n, and the look does not pass n over
pub record Sees (cells : List ℕ) (i : ℕ) (d : CompassDir) (n : ℕ) : Type 0 where
  pub steps : stepped (cell_at i) d ≡ Some (cell_at n)
  pub to : Near i n
  pub no_wall : wall_at cells n ≡ false
  pub open_way : passes_wall cells i n ≡ false

pub sees_open : {cells : List ℕ} {i n : ℕ} {d : CompassDir} → Sees cells i d n → is_passed_over cells i n ≡ false
sees_open s = rw (s.no_wall, s.open_way)

by_one : {a b : ℕ} → ByOne a b → a ≡ b → ⊥
by_one (inl e) q = omega arith
by_one (inr e) q = omega arith

-- ---- the cells beside a diagonal move

-- the cell in the row of i and the column of n
abbrev aside : ℕ → ℕ → ℕ
aside i n = i / 10 * 10 + n % 10

beside_row : (i n : ℕ) → i < 100 → ByOne (i % 10) (n % 10) → BesideAt i (aside i n)
beside_row i n h c = record {
  this_in = cell_inside i h;
  other_in = cell_inside (aside i n) (omega arith);
  one_apart = inr (omega arith, let e : aside i n % 10 ≡ n % 10 = omega arith in rw e c);
}

beside_column : (i n : ℕ) → i < 100 → n < 100 → ByOne (i / 10) (n / 10) → BesideAt (aside i n) n
beside_column i n h l r = record {
  this_in = cell_inside (aside i n) (omega arith);
  other_in = cell_inside n l;
  one_apart = inl (omega arith, let e : aside i n / 10 ≡ i / 10 = omega arith in rw e r);
}

-- neither of two tests holds
neither : (a b : Bool) → (a || b) ≡ false → (a ≡ false) × (b ≡ false)
neither true b e = absurd (true≢false e)
neither false b e = (refl, e)

pub differ : (a b : ℕ) → (a ≡ b → ⊥) → not (eqb a b) ≡ true
differ a b h = rw (ne_eqb a b h)

module _ (cells : List ℕ) (i n : ℕ) where
  -- a way from i to n past no wall
  data Way : Type 0 where
    direct : BesideAt i n → Way
    around : (m : ℕ) → BesideAt i m → BesideAt m n → wall_at cells m ≡ false → Way

  open_side : ByOne (i % 10) (n % 10) → ByOne (i / 10) (n / 10) → passes_wall cells i n ≡ false → wall_at cells (aside i n) ≡ false
  unfolding passes_wall
  open_side c r e =
      (neither (wall_at cells (aside i n)) (wall_at cells (aside n i))
      (rw (differ (i / 10) (n / 10) (by_one r), differ (i % 10) (n % 10) (by_one c)) at e)).0

  way : Near i n → passes_wall cells i n ≡ false → Way
  way (beside b) e = direct b
  way (corner h l c r) e = around (aside i n) (beside_row i n h c) (beside_column i n h l r) (open_side c r e)

module _ {costs ends : List ℕ} {word : ℕ} {cells corners built : List ℕ} (s : EndSector costs ends word cells corners built) (i : ℕ) where
  -- a neighbour that the look does not pass over is reached where the cell is, and the cell where it is
  pub reached_there : (d : CompassDir) (n : ℕ) → Sees built i d n → value s i < 65535 → value s n < 65535
  reached_there d n e v = go (way built i n e.to e.open_way)
    where
      go : Way built i n → value s n < 65535
      go (direct b) = spreads s i n b v e.no_wall
      go (around m a b w) = spreads s m n b (spreads s i m a v w) e.no_wall

  pub reached_back : (d : CompassDir) (n : ℕ) → Sees built i d n → NoWall s i → value s n < 65535 → value s i < 65535
  reached_back d n e o v = go (way built i n e.to e.open_way)
    where
      go : Way built i n → value s i < 65535
      go (direct b) = spreads s n i (beside_flip (cell_at i) (cell_at n) b) v o
      go (around m a b w) = spreads s m i (beside_flip (cell_at i) (cell_at m) a) (spreads s n m (beside_flip (cell_at m) (cell_at n) b) v w) o

-- ---- what is seen

-- a direction that points somewhere is one of the eight
pub pointing_in : (d : CompassDir) → points d ≡ true → Memᴰ d all
pointing_in North e = Memᴰ.head refl
pointing_in East e = Memᴰ.tail (Memᴰ.head refl)
pointing_in South e = Memᴰ.tail (Memᴰ.tail (Memᴰ.head refl))
pointing_in West e = Memᴰ.tail (Memᴰ.tail (Memᴰ.tail (Memᴰ.head refl)))
pointing_in NorthEast e = Memᴰ.tail (Memᴰ.tail (Memᴰ.tail (Memᴰ.tail (Memᴰ.head refl))))
pointing_in SouthEast e = Memᴰ.tail (Memᴰ.tail (Memᴰ.tail (Memᴰ.tail (Memᴰ.tail (Memᴰ.head refl)))))
pointing_in SouthWest e = Memᴰ.tail (Memᴰ.tail (Memᴰ.tail (Memᴰ.tail (Memᴰ.tail (Memᴰ.tail (Memᴰ.head refl))))))
pointing_in NorthWest e =
    Memᴰ.tail (Memᴰ.tail (Memᴰ.tail (Memᴰ.tail (Memᴰ.tail (Memᴰ.tail (Memᴰ.tail (Memᴰ.head refl)))))))
pointing_in Zero e = absurd (true≢false (sym e))

module _ (cells : List ℕ) (i : ℕ) (h : i < 100) where
  pub sees : (d : CompassDir) (c : FieldCell) → stepped (cell_at i) d ≡ Some c → wall_at cells (index_of c) ≡ false → passes_wall cells i (index_of c) ≡ false
      → Sees cells i d (index_of c)
  sees d c e w b =
      let a = stepped_cell (cell_at i) d c e in
      record { steps = rw (cell_of_index c a.within) e; to = near i h d c a; no_wall = w; open_way = b }

  pub open_sees : (d : CompassDir) (c : FieldCell) → stepped (cell_at i) d ≡ Some c → is_passed_over cells i (index_of c) ≡ false → Sees cells i d (index_of c)
  open_sees d c e o = let n = neither _ _ o in sees d c e n.0 n.1

  in_all : (d : CompassDir) → Memᴰ d orthogonal → Memᴰ d all
  in_all d m = Memᴰ.append_left (NorthEast ∷ SouthEast ∷ SouthWest ∷ NorthWest ∷ []) m

  -- a cell beside i that is no wall is seen in some direction
  pub sees_beside : (n : ℕ) → BesideAt i n → wall_at cells n ≡ false → (d : CompassDir) × Memᴰ d all × Sees cells i d n
  unfolding passes_wall
  sees_beside n b w =
      let r = beside_step (cell_at i) (cell_at n) b in
      (r.0, in_all r.0 r.1, record { steps = r.2; to = beside b; no_wall = w; open_way = rw (no_diagonal b.one_apart) })
    where
      no_diagonal : ((i % 10 ≡ n % 10) × ByOne (i / 10) (n / 10)) ⊎ ((i / 10 ≡ n / 10) × ByOne (i % 10) (n % 10)) → diagonal i n ≡ false
      no_diagonal (inl (c, o)) = rw (eq-eqb (i % 10) (n % 10) c) (and-false (not (eqb (i / 10) (n / 10))))
      no_diagonal (inr (r, o)) = rw (eq-eqb (i / 10) (n / 10) r)
