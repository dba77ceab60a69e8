-- `get_in_compass_direction` meets its contract: two sums and one test of both. What the machine reads back from a sum's bits is the sum.
-- Assumes nothing.
use Rattle.std.proofs.Common.{◌≡◌, true, sym, ◌∙◌}
use mathlib.Core.Logic.{inl, inr}
use lib.IntN.{ℤ, nat_abs, ◌+ℤ◌}
use mir.Syntax.{w64}
use mir.Val.{to_z, of_z}
use Rattle.utilities.specs.declared.Differences.{Differences}
use Rattle.utilities.specs.declared.CompassDir.{CompassDir}
use Rattle.utilities.specs.Compass.{differences, within}
use Rattle.utilities.proofs.Compass.{small}
use Rattle.utilities.proofs.Sums.{Made, sum, both_in, low_out, high_out}
use Rattle.fields.specs.declared.FieldCell.{FieldCell}
use Rattle.fields.specs.Cell.{cell, stepped}
use Rattle.std.specs.Prelude.{Some}
use Rattle.fields.specs.Inner.{Near}
use Rattle.fields.proofs.Steps.{column_sum, row_sum, pointless, summed_in, summed_out, promised}
use Rattle.fields.proofs.FieldCell.get_in_compass_direction.Goals as goal
use Rattle.fields.proofs.FieldCell.get_in_compass_direction.Goals.{else-column-ge0-via-then-column-ge0+then-column-le9+then-row-ge0+else-row-le9, else-column-ge0-via-then-column-ge0+then-column-le9+else-row-ge0, else-column-ge0-via-then-column-ge0+else-column-le9, else-column-ge0-via-else-column-ge0}

-- where the direction's differences are known: the two sums as the machine makes them
module _ (self : FieldCell) (dir : CompassDir) (near : Near self) (δ : Differences) (is : δ ≡ differences dir) where
  abbrev the_column_made : ℤ
  the_column_made = to_z w64 self.column +ℤ to_z w64 (of_z w64 δ.column)

  abbrev the_row_made : ℤ
  the_row_made = to_z w64 self.row +ℤ to_z w64 (of_z w64 δ.row)

  column_made : Made the_column_made (column_sum self dir)
  column_made = rw (← is) (sum self.column δ.column near.column_near (small dir is).columns)

  row_made : Made the_row_made (row_sum self dir)
  row_made = rw (← is) (sum self.row δ.row near.row_near (small dir is).rows)

pub returns-then-not-points : goal.returns-then-not-points
returns-then-not-points c =
    let p = promised c.args.self c.args.dir (sym (pointless c.args.self c.args.dir (sym c.points.ensures ∙ c.if-not-points.true))) in
    record { answer = p.0; by_sums = p.1.0; undone = p.1.1 }

-- all tests of both sums held
module _ (c : goal.Then-row-le9) where
  columns : Made (the_column_made c.args.self c.args.dir c.requires c.differences-added.result c.differences-added.ensures) (column_sum c.args.self c.args.dir)
  columns = column_made c.args.self c.args.dir c.requires c.differences-added.result c.differences-added.ensures

  rows : Made (the_row_made c.args.self c.args.dir c.requires c.differences-added.result c.differences-added.ensures) (row_sum c.args.self c.args.dir)
  rows = row_made c.args.self c.args.dir c.requires c.differences-added.result c.differences-added.ensures

  column_in : within 9 (column_sum c.args.self c.args.dir) ≡ true
  column_in = both_in 9 columns c.if-column-ge0.true c.if-column-le9.true

  row_in : within 9 (row_sum c.args.self c.args.dir) ≡ true
  row_in = both_in 9 rows c.if-row-ge0.true c.if-row-le9.true

  arrived : stepped c.args.self c.args.dir ≡ Some (cell (nat_abs (column_sum c.args.self c.args.dir)) (nat_abs (row_sum c.args.self c.args.dir)))
  arrived = summed_in c.args.self c.args.dir (sym c.points.ensures ∙ c.if-not-points.false) column_in row_in

pub returns-then-row-le9 : goal.returns-then-row-le9
returns-then-row-le9 c =
    let p = promised c.args.self c.args.dir (rw ((columns c).read, (rows c).read) (sym (arrived c))) in
    record { answer = p.0; by_sums = p.1.0; undone = p.1.1 }

module _ (c : goal.Joined-else-column-ge0) where
  columns_joined : Made (the_column_made c.args.self c.args.dir c.requires c.differences-added.result c.differences-added.ensures) (column_sum c.args.self c.args.dir)
  columns_joined = column_made c.args.self c.args.dir c.requires c.differences-added.result c.differences-added.ensures

  rows_joined : Made (the_row_made c.args.self c.args.dir c.requires c.differences-added.result c.differences-added.ensures) (row_sum c.args.self c.args.dir)
  rows_joined = row_made c.args.self c.args.dir c.requires c.differences-added.result c.differences-added.ensures

pub returns : goal.returns
returns c =
    let p = promised c.args.self c.args.dir (sym (summed_out c.args.self c.args.dir (elim c.else-column-ge0.branch [
      | else-column-ge0-via-then-column-ge0+then-column-le9+then-row-ge0+else-row-le9 w ↦ inr (high_out 9 (rows_joined c) w.if-row-le9.false)
      | else-column-ge0-via-then-column-ge0+then-column-le9+else-row-ge0 w ↦ inr (low_out 9 (rows_joined c) w.if-row-ge0.false)
      | else-column-ge0-via-then-column-ge0+else-column-le9 w ↦ inl (high_out 9 (columns_joined c) w.if-column-le9.false)
      | else-column-ge0-via-else-column-ge0 w ↦ inl (low_out 9 (columns_joined c) w.if-column-ge0.false)
    ]))) in
    record { answer = p.0; by_sums = p.1.0; undone = p.1.1 }
