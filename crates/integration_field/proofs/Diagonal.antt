-- The diagonal rule, by the columns and rows of two cells.
--     passes_at    the rule: in other rows and other columns, and one of the two cells beside the move is a wall
-- Assumes nothing.
use mathlib.Core.Path.{◌≡◌}
use mathlib.Core.Bool.{not, ◌&&◌, ◌||◌}
use mathlib.Core.List.{List}
use Prim.Native.Nat.{ℕ, ◌+◌, ◌*◌, ◌/◌, ◌%◌}
use native.Mathlib.Omega.{arith}
use lib.Dec.{eqb}
use Rattle.fields.specs.declared.FieldCell.{FieldCell}
use Rattle.fields.specs.Cell.{Inside, index_of}
use Rattle.integration_field.specs.Diagonal.{wall_at, passes_wall}

module _ (cells : List ℕ) (a b : FieldCell) (ia : Inside a) (ib : Inside b) where
  pub passes_at :
      passes_wall cells (index_of a) (index_of b)
      ≡ ((not (eqb a.row b.row) && not (eqb a.column b.column))
      && (wall_at cells (a.row * 10 + b.column) || wall_at cells (b.row * 10 + a.column)))
  unfolding passes_wall
  passes_at =
      let p : index_of a / 10 ≡ a.row = omega (arith, ia.column_in) in
      let q : index_of b / 10 ≡ b.row = omega (arith, ib.column_in) in
      let u : index_of a % 10 ≡ a.column = omega (arith, ia.column_in) in
      let v : index_of b % 10 ≡ b.column = omega (arith, ib.column_in) in
      rw (p, q, u, v)
