-- Moves by the bits of an arrow.
--     away         where a step in a direction arrives, by that direction's bits
--     reads_so     the direction that a byte reads as goes where its bits point
--     away_once    an arrow points at one cell
--     away_bits    one arrow points at a cell
-- Assumes nothing.
use mathlib.Core.Path.{◌≡◌, refl, sym, subst, ◌∙◌}
use mathlib.Core.Bool.{Bool, true, false, not, ◌&&◌, ◌||◌}
use Prim.Native.Nat.{ℕ, ◌+◌, ◌*◌, ◌/◌, ◌%◌, ◌<◌, ◌≤◌}
use native.Mathlib.Omega.{arith}
use lib.Dec.{ltb, leb, eqb}
use borrow.Author.Tests.{ltb-true, lt-ltb, le-leb, eqb-true}
use Rattle.utilities.specs.declared.Differences.{Differences}
use Rattle.utilities.specs.declared.CompassDir.{CompassDir}
use Rattle.utilities.specs.declared.CompassDir.TheVariants.{North, East, South, West, NorthEast, SouthEast, SouthWest, NorthWest, Zero}
use Rattle.utilities.specs.Compass.{differences, rises, falls, all}
use Rattle.utilities.proofs.Compass.{Small, small, changes}
use Rattle.std.specs.Prelude.{Some}
use Rattle.fields.specs.Cell.{cell_at, stepped}
use Rattle.fields.specs.Steps.{Arrives}
use Rattle.fields.proofs.Steps.{Told, told, steps_by, cell_inside}
use Rattle.route.proofs.Below.{holds_at, same_at}
use Rattle.flow_bits.specs.Byte.{bits_of, dir_with, dir_of}
use Rattle.flow_arrows.specs.Arrows.{northward, eastward, southward, westward, Away}

-- a direction's bits, one by one
record Bits (d : CompassDir) : Type 0 where
  north_is : northward (bits_of d) ≡ falls (differences d).row
  east_is : eastward (bits_of d) ≡ rises (differences d).column
  south_is : southward (bits_of d) ≡ rises (differences d).row
  west_is : westward (bits_of d) ≡ falls (differences d).column

bits : (d : CompassDir) → Bits d
bits North = record { north_is = refl; east_is = refl; south_is = refl; west_is = refl }
bits East = record { north_is = refl; east_is = refl; south_is = refl; west_is = refl }
bits South = record { north_is = refl; east_is = refl; south_is = refl; west_is = refl }
bits West = record { north_is = refl; east_is = refl; south_is = refl; west_is = refl }
bits NorthEast = record { north_is = refl; east_is = refl; south_is = refl; west_is = refl }
bits SouthEast = record { north_is = refl; east_is = refl; south_is = refl; west_is = refl }
bits SouthWest = record { north_is = refl; east_is = refl; south_is = refl; west_is = refl }
bits NorthWest = record { north_is = refl; east_is = refl; south_is = refl; west_is = refl }
bits Zero = record { north_is = refl; east_is = refl; south_is = refl; west_is = refl }

module _ (d : CompassDir) (x y : ℕ) where
  abbrev δ : Differences
  δ = differences d

  b : Bits d
  b = bits d

  s : Small d δ
  s = small d refl

  pub away : Arrives (cell_at x) d (cell_at y) → Away (bits_of d) x y
  away a = let t = told (cell_at x) d (cell_at y) a in record {
    rows = rw (b.north_is, b.south_is) t.rows;
    columns = rw (b.east_is, b.west_is) t.columns;
    somewhere = omega (arith, s.columns, s.rows, ltb-true 0 (changes δ) (sym s.some ∙ a.pointing));
    not_north_south = rw (b.north_is, b.south_is) (omega (arith, s.rows));
    not_east_west = rw (b.east_is, b.west_is) (omega (arith, s.columns));
  }

  arrives : y < 100 → Away (bits_of d) x y → stepped (cell_at x) d ≡ Some (cell_at y)
  arrives h w =
      let pointing = s.some ∙ lt-ltb 0 (changes δ) (omega (arith, s.columns, s.rows, w.somewhere)) in
      let sums : Told (cell_at x) d (cell_at y) = record {
        columns = rw (b.east_is, b.west_is) at w.columns;
        rows = rw (b.north_is, b.south_is) at w.rows;
      } in
      steps_by (cell_at x) d (cell_at y) pointing sums (cell_inside y h)

-- bits that point somewhere, to no two opposite sides, are those of the direction that they read as: computed once, for all sixteen
abbrev pub is_arrow : ℕ → Bool
is_arrow a = ltb 0 a && leb (northward a + southward a) 1 && leb (eastward a + westward a) 1

unless : (a b : Bool) → a ≡ true → (not a || b) ≡ true → b ≡ true
unless true b t e = e
unless false b t e = let z : ◌≡◌ {A = ℕ} 0 1 = cc in absurd (omega arith)

bits_read : (a : ℕ) → a < 16 → is_arrow a ≡ true → bits_of (dir_with all a) ≡ a
bits_read a h e = eqb-true _ a (unless (is_arrow a) _ e (holds_at 16 (λ a. not (is_arrow a) || eqb (bits_of (dir_with all a)) a) refl a h))

pub reads_so : (byte x y : ℕ) → y < 100 → Away (byte % 16) x y → stepped (cell_at x) (dir_of byte) ≡ Some (cell_at y)
unfolding dir_of
reads_so byte x y h w =
    let a = byte % 16 in
    let e =
    bits_read a (omega arith)
    (rw (lt-ltb 0 a w.somewhere, le-leb (northward a + southward a) 1 w.not_north_south, le-leb (eastward a + westward a) 1 w.not_east_west)) in
    arrives (dir_with all a) x y h (subst (λ (b : ℕ). Away b x y) (sym e) w)

pub away_once : (a x y z : ℕ) → Away a x y → Away a x z → y ≡ z
away_once a x y z v w = omega (arith, v.rows, v.columns, w.rows, w.columns)

-- of two opposite sides, at most one is meant: so where they lead decides which
one_side : (p q n m s t : ℕ) → p + n ≡ q + s → p + m ≡ q + t → n + s ≤ 1 → m + t ≤ 1 → (n ≡ m) × (s ≡ t)
one_side p q n m s t e f g h = (omega arith, omega arith)

-- four bits are their sum
bits_sum : ℕ → ℕ
bits_sum a = northward a + eastward a * 2 + southward a * 4 + westward a * 8

bits_sum_law : (a : ℕ) → a < 16 → a ≡ bits_sum a
unfolding bits_sum
bits_sum_law = same_at 16 (λ a. a) bits_sum refl

pub away_bits : (a e x y : ℕ) → a < 16 → e < 16 → Away a x y → Away e x y → a ≡ e
unfolding bits_sum
away_bits a e x y l m v w =
    let r = one_side (y / 10) (x / 10) (northward a) (northward e) (southward a) (southward e)
    v.rows w.rows v.not_north_south w.not_north_south in
    let c = one_side (y % 10) (x % 10) (westward a) (westward e) (eastward a) (eastward e)
    v.columns w.columns (omega (arith, v.not_east_west)) (omega (arith, w.not_east_west)) in
    let same : bits_sum a ≡ bits_sum e = rw (r.0, r.1, c.0, c.1) in
    bits_sum_law a l ∙ same ∙ sym (bits_sum_law e m)
