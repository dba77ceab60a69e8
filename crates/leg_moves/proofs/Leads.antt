-- Where a byte's direction leads: the two sums, and where the arrow's bits point.
--     sides         the sides of the direction that bits read as are those of the bits
--     no_way        bits that read as no direction point nowhere
--     lands         the place at the two sums, both on the floor, is the one pointed at
--     off           where one of them is not, no place is
-- Assumes nothing.
use mathlib.Core.Path.{◌≡◌, refl, sym, ap, ◌∙◌}
use mathlib.Core.Bool.{Bool, true, false, true≢false, not, ◌||◌}
use mathlib.Core.Logic.{◌⊎◌, inl, inr}
use Prim.Native.Nat.{ℕ, ◌+◌, ◌%◌, ◌≤◌, ◌<◌}
use native.Mathlib.Omega.{arith}
use lib.Dec.{leb, eqb}
use lib.IntN.{ℤ, pos, nat_abs, ◌+ℤ◌}
use borrow.Author.Tests.{leb-true, eqb-true, lt-ltb, le-leb}
use Rattle.utilities.specs.declared.CompassDir.{CompassDir}
use Rattle.utilities.specs.Compass.{all, differences, points, within, rises, falls}
use Rattle.utilities.proofs.Sums.{sum_told, sum_made, within_true, true_within}
use Rattle.route.proofs.Below.{holds_at}
use Rattle.flow_bits.specs.Byte.{dir_with, dir_of}
use Rattle.flow_arrows.specs.Arrows.{northward, eastward, southward, westward}
use Rattle.flow_arrows.proofs.Moves.{is_arrow}
use Rattle.leg_journey.specs.Place.{Place, Points}

unless : (a b : Bool) → a ≡ true → (not a || b) ≡ true → b ≡ true
unless true b t e = e
unless false b t e = absurd (true≢false (sym t))

-- of bits that read as a direction, a test that is computed for all sixteen
by_test : (t : ℕ → Bool) → ((a : ℕ) → a < 16 → (not (points (dir_with all a)) || t a) ≡ true) → (a : ℕ) → a < 16 → points (dir_with all a) ≡ true → t a ≡ true
by_test t all-sixteen a h p = unless (points (dir_with all a)) (t a) p (all-sixteen a h)

record Sides (a : ℕ) (d : CompassDir) : Type 0 where
  north_is : northward a ≡ falls (differences d).row
  south_is : southward a ≡ rises (differences d).row
  east_is : eastward a ≡ rises (differences d).column
  west_is : westward a ≡ falls (differences d).column
  somewhere : 1 ≤ a
  not_north_south : northward a + southward a ≤ 1
  not_east_west : eastward a + westward a ≤ 1

sides : (a : ℕ) → a < 16 → points (dir_with all a) ≡ true → Sides a (dir_with all a)
sides a h p = record {
  north_is = eqb-true _ _ (by_test (λ a. eqb (northward a) (falls (differences (dir_with all a)).row))
      (holds_at 16 (λ a. not (points (dir_with all a)) || eqb (northward a) (falls (differences (dir_with all a)).row)) refl) a h p);
  south_is = eqb-true _ _ (by_test (λ a. eqb (southward a) (rises (differences (dir_with all a)).row))
      (holds_at 16 (λ a. not (points (dir_with all a)) || eqb (southward a) (rises (differences (dir_with all a)).row)) refl) a h p);
  east_is = eqb-true _ _ (by_test (λ a. eqb (eastward a) (rises (differences (dir_with all a)).column))
      (holds_at 16 (λ a. not (points (dir_with all a)) || eqb (eastward a) (rises (differences (dir_with all a)).column)) refl) a h p);
  west_is = eqb-true _ _ (by_test (λ a. eqb (westward a) (falls (differences (dir_with all a)).column))
      (holds_at 16 (λ a. not (points (dir_with all a)) || eqb (westward a) (falls (differences (dir_with all a)).column)) refl) a h p);
  somewhere = leb-true 1 a (by_test (λ a. leb 1 a) (holds_at 16 (λ a. not (points (dir_with all a)) || leb 1 a) refl) a h p);
  not_north_south = leb-true _ 1 (by_test (λ a. leb (northward a + southward a) 1)
      (holds_at 16 (λ a. not (points (dir_with all a)) || leb (northward a + southward a) 1) refl) a h p);
  not_east_west = leb-true _ 1 (by_test (λ a. leb (eastward a + westward a) 1)
      (holds_at 16 (λ a. not (points (dir_with all a)) || leb (eastward a + westward a) 1) refl) a h p);
}

module _ (byte : ℕ) (p : Place) where
  abbrev a : ℕ
  a = byte % 16

  pub no_way : points (dir_of byte) ≡ false → (q : Place) → Points a p q → ⊥
  unfolding dir_of
  no_way e q w =
      let north = le-leb (northward a + southward a) 1 w.not_north_south in
      let east = le-leb (eastward a + westward a) 1 w.not_east_west in
      let is : is_arrow a ≡ true = rw (lt-ltb 0 a w.somewhere, north, east) in
      let each = holds_at 16 (λ a. not (is_arrow a) || points (dir_with all a)) refl a (omega arith) in
      true≢false (sym (unless (is_arrow a) (points (dir_with all a)) is each) ∙ e)

  abbrev pub column_sum : ℤ
  column_sum = pos p.column +ℤ (differences (dir_of byte)).column

  abbrev pub row_sum : ℤ
  row_sum = pos p.row +ℤ (differences (dir_of byte)).row

  module _ (pointing : points (dir_of byte) ≡ true) where
    pub lands : within 79 column_sum ≡ true → within 79 row_sum ≡ true → Points a p (record { column = nat_abs column_sum; row = nat_abs row_sum })
    unfolding dir_of
    lands c r =
        let s = sides a (omega arith) pointing in
        let column = within_true 79 column_sum c in
        let row = within_true 79 row_sum r in
        record {
          rows = rw (s.north_is, s.south_is) (sum_told p.row (nat_abs row_sum) (differences (dir_with all a)).row (sym row.0));
          columns = rw (s.west_is, s.east_is) (sum_told p.column (nat_abs column_sum) (differences (dir_with all a)).column (sym column.0));
          somewhere = s.somewhere;
          not_north_south = s.not_north_south;
          not_east_west = s.not_east_west;
          row_on = omega (arith, row.1);
          column_on = omega (arith, column.1);
        }

    pub off : (within 79 column_sum ≡ false) ⊎ (within 79 row_sum ≡ false) → (q : Place) → Points a p q → ⊥
    unfolding dir_of
    off (inl e) q w =
        let s = sides a (omega arith) pointing in
        let z = sum_made p.column q.column (differences (dir_with all a)).column (rw (s.west_is, s.east_is) at w.columns) in
        true≢false (sym (true_within 79 q.column (omega (arith, w.column_on))) ∙ ap (within 79) z ∙ e)
    off (inr e) q w =
        let s = sides a (omega arith) pointing in
        let z = sum_made p.row q.row (differences (dir_with all a)).row (rw (s.north_is, s.south_is) at w.rows) in
        true≢false (sym (true_within 79 q.row (omega (arith, w.row_on))) ∙ ap (within 79) z ∙ e)
