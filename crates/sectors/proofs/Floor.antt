-- Laws of the sector across a boundary.
--     nowhere                  Zero leads off the floor
--     summed_in, summed_out    a step worked out by its two sums
--     across_sector            where a step arrives: at the two sums, on the floor
-- Assumes nothing.
use mathlib.Core.Path.{◌≡◌, refl, sym}
use mathlib.Core.Bool.{Bool, true, false, ◌&&◌, and-eq-true_iff}
use mathlib.Core.Logic.{◌⊎◌, inl, inr}
use Prim.Native.Nat.{ℕ, ◌+◌, ◌*◌, ◌<◌}
use native.Mathlib.Omega.{arith}
use lib.Dec.{ltb}
use lib.IntN.{ℤ, pos, nat_abs, ◌+ℤ◌}
use borrow.Author.Tests.{lt-ltb, ltb-true}
use Rattle.utilities.specs.declared.CompassDir.{CompassDir}
use Rattle.utilities.specs.declared.CompassDir.TheVariants.{East, South, West}
use Rattle.utilities.specs.Compass.{differences, points, within, rises, falls}
use Rattle.utilities.proofs.Sums.{within_true, sum_told}
use Rattle.std.specs.Prelude.{Some, None}
use Rattle.sectors.specs.Floor.{column_of, row_of, sector_at, sector_if, across}

module _ (s : ℕ) (d : CompassDir) where
  -- the two sums
  abbrev pub column_sum : ℤ
  column_sum = pos (column_of s) +ℤ (differences d).column

  abbrev pub row_sum : ℤ
  row_sum = pos (row_of s) +ℤ (differences d).row

  module _ (h : s < 64) where
    pub nowhere : points d ≡ false → across s d ≡ None
    unfolding across
    nowhere e = rw (e, lt-ltb s 64 h)

    pub summed_in : points d ≡ true → within 7 column_sum ≡ true → within 7 row_sum ≡ true → across s d ≡ Some (sector_at (nat_abs column_sum) (nat_abs row_sum))
    unfolding across
    summed_in e p q = rw (e, lt-ltb s 64 h, p, q)

    pub summed_out : points d ≡ true → (within 7 column_sum ≡ false) ⊎ (within 7 row_sum ≡ false) → across s d ≡ None
    unfolding across
    summed_out e o = rw (e, lt-ltb s 64 h) (none (within 7 column_sum) (within 7 row_sum) o)
      where
        none : (p q : Bool) → (p ≡ false) ⊎ (q ≡ false) → sector_if (p && q) (sector_at (nat_abs column_sum) (nat_abs row_sum)) ≡ None
        none p q (inl e) = rw e
        none true q (inr e) = rw e
        none false q (inr e) = refl

-- what is known of the sector that a step arrives at
pub record Arrives (s : ℕ) (d : CompassDir) (n : ℕ) : Type 0 where
  pub on_floor : s < 64
  pub arrives_on : n < 64
  pub column_at : column_of n + falls (differences d).column ≡ column_of s + rises (differences d).column
  pub row_at : row_of n + falls (differences d).row ≡ row_of s + rises (differences d).row

if_sector : (b : Bool) (x n : ℕ) → sector_if b x ≡ Some n → (b ≡ true) × (x ≡ n)
if_sector true x n e = (refl, cc)
if_sector false x n e = let z : ◌≡◌ {A = ℕ} 0 1 = cc in absurd (omega arith)

pub across_sector : (s : ℕ) (d : CompassDir) (n : ℕ) → across s d ≡ Some n → Arrives s d n
unfolding across
across_sector s d n e =
    let column = column_sum s d in
    let row = row_sum s d in
    let i = if_sector (ltb s 64 && points d && (within 7 column && within 7 row)) (sector_at (nat_abs column) (nat_abs row)) n e in
    let p = (and-eq-true_iff (ltb s 64 && points d) _).0 i.0 in
    let q = (and-eq-true_iff (ltb s 64) (points d)).0 p.0 in
    let t = (and-eq-true_iff (within 7 column) (within 7 row)).0 p.1 in
    let u = within_true 7 column t.0 in
    let v = within_true 7 row t.1 in
    let x : n ≡ nat_abs row * 8 + nat_abs column = sym i.1 in
    record {
      on_floor = ltb-true s 64 q.0;
      arrives_on = omega (arith, u.1, v.1, x);
      column_at = omega (arith, u.1, x, sum_told (column_of s) (nat_abs column) (differences d).column (sym u.0));
      row_at = omega (arith, u.1, x, sum_told (row_of s) (nat_abs row) (differences d).row (sym v.0));
    }

-- rows do not run on: West of sector 8 is off the floor, not sector 7
west_of_8 : across 8 West ≡ None
unfolding across
west_of_8 = refl

east_of_7 : across 7 East ≡ None
unfolding across
east_of_7 = refl

south_of_7 : across 7 South ≡ Some 15
unfolding across
south_of_7 = refl
