-- `leg_moves::Spot::led_by` meets its contract: two sums and one test of both. What the machine reads back from a sum's bits is the sum.
-- Assumes nothing.
use Rattle.std.proofs.Common.{◌≡◌, ℕ, inl, inr, sym, ap, ◌∙◌, arith}
use lib.IntN.{◌+ℤ◌}
use mir.Syntax.{w64}
use mir.Val.{to_z, of_z}
use Rattle.utilities.specs.declared.Differences.{Differences}
use Rattle.utilities.specs.declared.CompassDir.{CompassDir}
use Rattle.utilities.specs.Compass.{differences, points}
use Rattle.utilities.proofs.Compass.{small}
use Rattle.utilities.proofs.Sums.{Made, sum, both_in, low_out, high_out}
use Rattle.flow_bits.specs.Byte.{dir_of}
use Rattle.leg_journey.specs.Place.{OnFloor}
use Rattle.leg_moves.specs.declared.spot.Spot.{Spot}
use Rattle.leg_moves.specs.Inner.{place_at}
use Rattle.leg_moves.proofs.Leads.{column_sum, row_sum, no_way, lands, off}
use Rattle.leg_moves.proofs.spot.Spot.led_by.Goals as goal
use Rattle.leg_moves.proofs.spot.Spot.led_by.Goals.{
  else-column-ge0-via-then-column-ge0+then-column-le79+then-row-ge0+else-row-le79,
  else-column-ge0-via-then-column-ge0+then-column-le79+else-row-ge0,
  else-column-ge0-via-then-column-ge0+else-column-le79,
  else-column-ge0-via-else-column-ge0,
}

-- where the direction's differences are known: the two sums as the machine makes them
module _ (byte : ℕ) (place : Spot) (on : OnFloor (place_at place)) (dir : CompassDir) (read_is : dir ≡ dir_of byte) (δ : Differences)
    (told : δ ≡ differences dir) where
  δ-is : δ ≡ differences (dir_of byte)
  δ-is = told ∙ ap differences read_is

  column_made : Made (to_z w64 place.column +ℤ to_z w64 (of_z w64 δ.column)) (column_sum byte (place_at place))
  column_made = rw (← δ-is) (sum place.column δ.column (omega (arith, on.column_on)) (small (dir_of byte) δ-is).columns)

  row_made_law : Made (to_z w64 place.row +ℤ to_z w64 (of_z w64 δ.row)) (row_sum byte (place_at place))
  row_made_law = rw (← δ-is) (sum place.row δ.row (omega (arith, on.row_on)) (small (dir_of byte) δ-is).rows)

pub returns-then-not-points : goal.returns-then-not-points
returns-then-not-points c =
    no_way c.args.byte (place_at c.args.self)
    (ap points (sym c.get_compass_dir_from_bits-dir.ensures) ∙ sym c.points.ensures ∙ c.if-not-points.true)

pub returns-then-row-le79 : goal.returns-then-row-le79
returns-then-row-le79 c =
    let a = c.args in
    let d = c.get_compass_dir_from_bits-dir in
    let δ = c.differences-added in
    let column = column_made a.byte a.self (record { row_on = a.self.row_on; column_on = a.self.column_on }) d.result d.ensures δ.result δ.ensures in
    let row = row_made_law a.byte a.self (record { row_on = a.self.row_on; column_on = a.self.column_on }) d.result d.ensures δ.result δ.ensures in
    let pointing = ap points (sym d.ensures) ∙ sym c.points.ensures ∙ c.if-not-points.false in
    rw (column.read, row.read)
    (lands a.byte (place_at a.self) pointing (both_in 79 column c.if-column-ge0.true c.if-column-le79.true)
    (both_in 79 row c.if-row-ge0.true c.if-row-le79.true))

pub returns : goal.returns
returns c =
    let a = c.args in
    let d = c.get_compass_dir_from_bits-dir in
    let δ = c.differences-added in
    let column = column_made a.byte a.self (record { row_on = a.self.row_on; column_on = a.self.column_on }) d.result d.ensures δ.result δ.ensures in
    let row = row_made_law a.byte a.self (record { row_on = a.self.row_on; column_on = a.self.column_on }) d.result d.ensures δ.result δ.ensures in
    let pointing = ap points (sym d.ensures) ∙ sym c.points.ensures ∙ c.if-not-points.false in
    off a.byte (place_at a.self) pointing (elim c.else-column-ge0.branch [
      | else-column-ge0-via-then-column-ge0+then-column-le79+then-row-ge0+else-row-le79 w ↦ inr (high_out 79 row w.if-row-le79.false)
      | else-column-ge0-via-then-column-ge0+then-column-le79+else-row-ge0 w ↦ inr (low_out 79 row w.if-row-ge0.false)
      | else-column-ge0-via-then-column-ge0+else-column-le79 w ↦ inl (high_out 79 column w.if-column-le79.false)
      | else-column-ge0-via-else-column-ge0 w ↦ inl (low_out 79 column w.if-column-ge0.false)
    ])
