-- The neighbours that a line moves between are the cells that the eight directions lead to.
-- Assumes nothing.
use mathlib.Core.Path.{◌≡◌, refl, sym, ◌∙◌}
use mathlib.Core.Bool.{Bool, true, false}
use Prim.Native.Nat.{ℕ, ◌+◌, ◌≤◌, max}
use native.Mathlib.Omega.{arith}
use lib.Dec.{ltb}
use borrow.Author.Tests.{ltb-true, ltb-false}
use Rattle.utilities.specs.declared.CompassDir.{CompassDir}
use Rattle.utilities.specs.declared.CompassDir.TheVariants.{North, East, South, West, NorthEast, SouthEast, SouthWest, NorthWest}
use Rattle.utilities.specs.Compass.{differences, rises, falls}
use Rattle.utilities.proofs.Compass.{small, changes}
use Rattle.fields.specs.declared.FieldCell.{FieldCell}
use Rattle.std.specs.Prelude.{Some}
use Rattle.fields.specs.Cell.{Inside, stepped}
use Rattle.fields.proofs.Steps.{stepped_cell, told, steps_by}
use Rattle.line_nearest.specs.Line.{distance}
use Rattle.line_nearest.specs.Nearest.{Neighbours}

-- two coordinates of which one differs by 1 and the other by 1 at most
record Close (a b x y : ℕ) : Type 0 where
  up : b ≤ a + 1
  down : a ≤ b + 1
  right : y ≤ x + 1
  left : x ≤ y + 1
  other : a ≡ b → x ≡ y → ⊥

close : (a b x y : ℕ) → max (distance a b) (distance x y) ≡ 1 → Close a b x y
close a b x y h = record { up = omega arith; down = omega arith; right = omega arith; left = omega arith; other = λ p q. omega arith }

-- which of the eight: by the sides that the one lies to of the other
led : (c n : FieldCell) → Inside n → (w e u d : Bool) → ltb n.column c.column ≡ w → ltb c.column n.column ≡ e → ltb n.row c.row ≡ u
    → ltb c.row n.row ≡ d → Close c.column n.column c.row n.row → (d : CompassDir) × (stepped c d ≡ Some n)
led c n i true e true d p q r s k =
    let x = ltb-true n.column c.column p in
    let y = ltb-true n.row c.row r in (
      NorthWest,
      steps_by c NorthWest n refl (omega arith) i,
    )
led c n i true e false true p q r s k =
    let x = ltb-true n.column c.column p in
    let y = ltb-true c.row n.row s in (
      SouthWest,
      steps_by c SouthWest n refl (omega arith) i,
    )
led c n i true e false false p q r s k =
    let x = ltb-true n.column c.column p in
    let y = ltb-false n.row c.row r in
    let y' = ltb-false c.row n.row s in (
      West,
      steps_by c West n refl (omega arith) i,
    )
led c n i false true true d p q r s k =
    let x = ltb-true c.column n.column q in
    let y = ltb-true n.row c.row r in (
      NorthEast,
      steps_by c NorthEast n refl (omega arith) i,
    )
led c n i false true false true p q r s k =
    let x = ltb-true c.column n.column q in
    let y = ltb-true c.row n.row s in (
      SouthEast,
      steps_by c SouthEast n refl (omega arith) i,
    )
led c n i false true false false p q r s k =
    let x = ltb-true c.column n.column q in
    let y = ltb-false n.row c.row r in
    let y' = ltb-false c.row n.row s in (
      East,
      steps_by c East n refl (omega arith) i,
    )
led c n i false false true d p q r s k =
    let x = ltb-false n.column c.column p in
    let x' = ltb-false c.column n.column q in
    let y = ltb-true n.row c.row r in (
      North,
      steps_by c North n refl (omega arith) i,
    )
led c n i false false false true p q r s k =
    let x = ltb-false n.column c.column p in
    let x' = ltb-false c.column n.column q in
    let y = ltb-true c.row n.row s in (
      South,
      steps_by c South n refl (omega arith) i,
    )
led c n i false false false false p q r s k =
    let x = ltb-false n.column c.column p in
    let x' = ltb-false c.column n.column q in
    let y = ltb-false n.row c.row r in
    let y' = ltb-false c.row n.row s in
    absurd (k.other (omega arith) (omega arith))

pub neighbours_stepped : (c n : FieldCell) → Inside n → Neighbours c n → (d : CompassDir) × (stepped c d ≡ Some n)
neighbours_stepped c n i h =
    led c n i (ltb n.column c.column) (ltb c.column n.column) (ltb n.row c.row) (ltb c.row n.row) refl refl refl refl
    (close c.column n.column c.row n.row h)

largest : (x y : ℕ) → x ≤ 1 → y ≤ 1 → 1 ≤ x + y → max x y ≡ 1
largest x y p q r = omega arith

by_one : (a b r f : ℕ) → b + f ≡ a + r → r + f ≤ 1 → distance a b ≡ r + f
by_one a b r f p h = omega arith

-- and each of them is a neighbour: a direction moves by one at most in each coordinate, and by one in some
pub stepped_neighbours : (c n : FieldCell) (d : CompassDir) → stepped c d ≡ Some n → Neighbours c n
stepped_neighbours c n d e =
    let δ = differences d in
    let a = stepped_cell c d n e in
    let s = small d refl in
    let some = ltb-true 0 (changes δ) (sym s.some ∙ a.pointing) in
    let columns = rises δ.column + falls δ.column in
    let rows = rises δ.row + falls δ.row in
    let t = told c d n a in
    rw (
      by_one c.column n.column (rises δ.column) (falls δ.column) t.columns s.columns.one,
      by_one c.row n.row (rises δ.row) (falls δ.row) t.rows s.rows.one,
    )
    (largest columns rows s.columns.one s.rows.one some)
