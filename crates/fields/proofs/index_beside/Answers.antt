-- `fields::index_beside` meets its contract: the sums of a step's column and row make that of the index. The step arrives inside, so the index is small.
-- Assumes nothing.
use Rattle.std.proofs.Common.{◌≡◌, ℕ, arith, sym, ap, ◌∙◌}
use mathlib.Core.Path.{subst}
use lib.IntN.{ℤ, pos, nat_abs, ◌+ℤ◌, ◌*ℤ◌}
use mir.Syntax.{w64}
use mir.Val.{to_z, of_z}
use mir.ValLaws.{to_z_pos}
use Rattle.utilities.specs.declared.Differences.{Differences}
use Rattle.utilities.specs.declared.CompassDir.{CompassDir}
use Rattle.utilities.specs.Compass.{differences}
use Rattle.utilities.proofs.Compass.{Small, small}
use Rattle.utilities.proofs.Sums.{Made, added, tenfold, single_read, cast_back, natural_fits}
use Rattle.fields.specs.declared.FieldCell.{FieldCell}
use Rattle.fields.specs.Cell.{index_of}
use Rattle.fields.specs.Inner.{StaysInside}
use Rattle.fields.proofs.Steps.{Indexed, stepped_cell, index_arrived, arrived_once}
use Rattle.fields.proofs.index_beside.Goals as goal

-- where the direction's differences are known: where its step arrives, and the product and the two sums as the machine makes them
module _ (from : ℕ) (dir : CompassDir) (stays : StaysInside from dir) (δ : Differences) (is : δ ≡ differences dir) where
  abbrev beside : FieldCell
  beside = stays.0

  small_step : Small dir δ
  small_step = small dir is

  told : Indexed from δ beside
  told =
      subst (λ (x : Differences). Indexed from x beside) (sym is)
      (index_arrived from dir beside (stepped_cell _ _ _ stays.1))

  abbrev ten : ℤ
  ten = to_z w64 (of_z w64 δ.row) *ℤ pos 10

  ten_made : Made ten (δ.row *ℤ pos 10)
  ten_made = tenfold δ.row (single_read δ.row small_step.rows) small_step.rows

  abbrev down : ℤ
  down = to_z w64 from +ℤ to_z w64 (of_z w64 ten)

  down_made : Made down (pos from +ℤ δ.row *ℤ pos 10)
  down_made =
      added (to_z_pos w64 from (omega (arith, told.index_few))) ten_made.read
      (natural_fits told.row_sum_law (omega (arith, told.row_few)))

  abbrev across : ℤ
  across = to_z w64 (of_z w64 down) +ℤ to_z w64 (of_z w64 δ.column)

  across_made : Made across (pos from +ℤ δ.row *ℤ pos 10 +ℤ δ.column)
  across_made = added down_made.read (single_read δ.column small_step.columns) (natural_fits told.sum (omega (arith, told.few)))

  across_is : to_z w64 (of_z w64 across) ≡ pos (index_of beside)
  across_is = across_made.read ∙ sym told.sum

pub overflow_cast-result : goal.overflow_cast-result
overflow_cast-result c =
    record { sfits = omega (arith, (told c.args.index c.args.dir c.requires c.differences-added.result c.differences-added.ensures).index_few) }

pub overflow_add-result : goal.overflow_add-result
overflow_add-result c = (down_made c.args.index c.args.dir c.requires c.differences-added.result c.differences-added.ensures).fits

pub overflow_add-result-2 : goal.overflow_add-result-2
overflow_add-result-2 c = (across_made c.args.index c.args.dir c.requires c.differences-added.result c.differences-added.ensures).fits

pub overflow_cast-result-2 : goal.overflow_cast-result-2
overflow_cast-result-2 c =
    let t = told c.args.index c.args.dir c.requires c.differences-added.result c.differences-added.ensures in
    cast_back (index_of (beside c.args.index c.args.dir c.requires c.differences-added.result c.differences-added.ensures))
    (across_is c.args.index c.args.dir c.requires c.differences-added.result c.differences-added.ensures) (omega (arith, t.few))

pub returns : goal.returns
returns c n e =
    let t = told c.args.index c.args.dir c.requires c.differences-added.result c.differences-added.ensures in
    let r = ap nat_abs (across_is c.args.index c.args.dir c.requires c.differences-added.result c.differences-added.ensures) in
    (r ∙ ap index_of (arrived_once c.requires.1 e), omega (arith, r, t.few))
