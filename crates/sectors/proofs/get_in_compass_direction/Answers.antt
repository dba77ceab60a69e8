-- The sector across a boundary: two sums and one test of both. What the machine reads back from a sum's bits is the sum.
-- Assumes nothing.
use Rattle.std.proofs.Common.{◌≡◌, sym, ◌∙◌, ℕ, ◌<◌, inl, inr, arith, le-ltb, ◌+ℤ◌, w64, to_z, of_z}
use Rattle.utilities.specs.declared.CompassDir.{CompassDir}
use Rattle.utilities.specs.declared.Differences.{Differences}
use Rattle.utilities.specs.Compass.{differences}
use Rattle.utilities.proofs.Compass.{small}
use Rattle.utilities.proofs.Sums.{Made, sum, both_in, low_out, high_out}
use Rattle.sectors.specs.Floor.{column_of, row_of, across}
use Rattle.sectors.proofs.Floor.{column_sum, row_sum, nowhere, summed_in, summed_out}
use Rattle.sectors.proofs.get_in_compass_direction.Goals as goal
use Rattle.sectors.proofs.get_in_compass_direction.Goals.{else-column-ge0-via-then-column-ge0+then-column-le7+then-row-ge0+else-row-le7}
use Rattle.sectors.proofs.get_in_compass_direction.Goals.{else-column-ge0-via-then-column-ge0+then-column-le7+else-row-ge0}
use Rattle.sectors.proofs.get_in_compass_direction.Goals.{else-column-ge0-via-then-column-ge0+else-column-le7, else-column-ge0-via-else-column-ge0}

-- the two sums as the machine makes them
module _ (s : ℕ) (d : CompassDir) (δ : Differences) (h : s < 64) (e : δ ≡ differences d) where
  column_made : Made (to_z w64 (column_of s) +ℤ to_z w64 (of_z w64 δ.column)) (column_sum s d)
  column_made = rw (← e) (sum (column_of s) δ.column (omega arith) (small d e).columns)

  row_made : Made (to_z w64 (row_of s) +ℤ to_z w64 (of_z w64 δ.row)) (row_sum s d)
  row_made = rw (← e) (sum (row_of s) δ.row (omega arith) (small d e).rows)

pub returns-then-sector-gt63 : goal.returns-then-sector-gt63
unfolding across
returns-then-sector-gt63 c = rw (le-ltb c.args.sector 64 c.if-sector-gt63.true)

pub returns-then-not-points : goal.returns-then-not-points
returns-then-not-points c = sym (nowhere c.args.sector c.args.dir (omega arith) (sym c.points.ensures ∙ c.if-not-points.true))

pub returns-then-row-le7 : goal.returns-then-row-le7
returns-then-row-le7 c =
    let s = c.args.sector in
    let d = c.args.dir in
    let δ = c.differences-added.result in
    let h : s < 64 = omega arith in
    let column = column_made s d δ h c.differences-added.ensures in
    let row = row_made s d δ h c.differences-added.ensures in
    let p = both_in 7 column c.if-column-ge0.true c.if-column-le7.true in
    let q = both_in 7 row c.if-row-ge0.true c.if-row-le7.true in
    rw (column.read, row.read) (sym (summed_in s d h (sym c.points.ensures ∙ c.if-not-points.false) p q))

pub returns : goal.returns
returns c =
    let s = c.args.sector in
    let d = c.args.dir in
    let δ = c.differences-added.result in
    let h : s < 64 = omega arith in
    let column = column_made s d δ h c.differences-added.ensures in
    let row = row_made s d δ h c.differences-added.ensures in
    sym (summed_out s d h (sym c.points.ensures ∙ c.if-not-points.false) (elim c.else-column-ge0.branch [
      | else-column-ge0-via-then-column-ge0+then-column-le7+then-row-ge0+else-row-le7 w ↦ inr (high_out 7 row w.if-row-le7.false)
      | else-column-ge0-via-then-column-ge0+then-column-le7+else-row-ge0 w ↦ inr (low_out 7 row w.if-row-ge0.false)
      | else-column-ge0-via-then-column-ge0+else-column-le7 w ↦ inl (high_out 7 column w.if-column-le7.false)
      | else-column-ge0-via-else-column-ge0 w ↦ inl (low_out 7 column w.if-column-ge0.false)
    ]))
