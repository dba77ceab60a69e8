-- Laws of the cell across a boundary.
--     facing_in       it is a cell
--     facing_north .. the four sides in 01's words: North, same column, row 9; East, column 0, same row; and so on
--     facing_on       it lies on the opposite edge
--     facing_back     and faces back
--     facing_along    along an edge it goes by the same stride
-- Assumes nothing.
use mathlib.Core.Path.{◌≡◌, refl, ◌∙◌}
use mathlib.Core.Bool.{true}
use Prim.Native.Nat.{ℕ, ◌+◌, ◌-◌, ◌*◌, ◌/◌, ◌%◌, ◌<◌}
use native.Mathlib.Omega.{arith}
use borrow.Author.Tests.{eqb-true, eq-eqb}
use lib.IntN.{ℤ, pos, ◌+ℤ◌}
use Rattle.utilities.specs.declared.CompassDir.{CompassDir}
use Rattle.utilities.specs.declared.CompassDir.TheVariants.{North, East, South, West}
use Rattle.utilities.specs.Compass.{differences, rises, falls, opposite}
use Rattle.utilities.proofs.Compass.{small}
use Rattle.utilities.proofs.Sums.{Single, sum_made}
use Rattle.route.specs.Window.{on_edge, stride, facing}
use Rattle.route.proofs.Cells.{by_edge}

-- the sum is never below 0, so it is told without one in ℤ
pub ten_more : (x : ℕ) (δ : ℤ) → Single δ → pos (x + 10 + rises δ - falls δ) ≡ pos (x + 10) +ℤ δ
ten_more x δ s = sum_made (x + 10) (x + 10 + rises δ - falls δ) δ (omega (arith, s.one))

told : (side : CompassDir) (i : ℕ) → facing side i ≡ (let δ = differences side in
    (i / 10 + 10 + rises δ.row - falls δ.row) % 10 * 10 + (i % 10 + 10 + rises δ.column - falls δ.column) % 10)
told side i = let δ = differences side in let s = small side refl in rw (← ten_more (i / 10) δ.row s.rows, ← ten_more (i % 10) δ.column s.columns)

pub facing_in : (side : CompassDir) (i : ℕ) → facing side i < 100
facing_in side i = omega arith

module _ (i : ℕ) (h : i < 100) where
  pub facing_north : on_edge North i ≡ true → facing North i ≡ 90 + i % 10
  unfolding on_edge
  facing_north p = told North i ∙ omega (arith, eqb-true (i / 10) 0 p)

  pub facing_east : on_edge East i ≡ true → facing East i ≡ i / 10 * 10
  unfolding on_edge
  facing_east p = told East i ∙ omega (arith, eqb-true (i % 10) 9 p)

  pub facing_south : on_edge South i ≡ true → facing South i ≡ i % 10
  unfolding on_edge
  facing_south p = told South i ∙ omega (arith, eqb-true (i / 10) 9 p)

  pub facing_west : on_edge West i ≡ true → facing West i ≡ i / 10 * 10 + 9
  unfolding on_edge
  facing_west p = told West i ∙ omega (arith, eqb-true (i % 10) 0 p)

module _ (i : ℕ) (h : i < 100) where
  pub facing_on : (side : CompassDir) → on_edge side i ≡ true → on_edge (opposite side) (facing side i) ≡ true
  unfolding on_edge
  facing_on side p =
      by_edge (λ s. on_edge (opposite s) (facing s i) ≡ true) side i p
      (λ u. eq-eqb (facing North i / 10) 9 (rw (told North i) (omega arith)))
      (λ u. eq-eqb (facing East i % 10) 0 (rw (told East i) (omega arith)))
      (λ u. eq-eqb (facing South i / 10) 0 (rw (told South i) (omega arith)))
      (λ u. eq-eqb (facing West i % 10) 9 (rw (told West i) (omega arith)))

  pub facing_back : (side : CompassDir) → on_edge side i ≡ true → facing (opposite side) (facing side i) ≡ i
  facing_back side p =
      by_edge (λ s. on_edge s i ≡ true → facing (opposite s) (facing s i) ≡ i) side i p
      (λ u p. facing_south (facing North i) (facing_in North i) (facing_on North p) ∙ rw (facing_north i h p) (omega arith))
      (λ u p. facing_west (facing East i) (facing_in East i) (facing_on East p) ∙ rw (facing_east i h p) (omega arith))
      (λ u p. facing_north (facing South i) (facing_in South i) (facing_on South p) ∙ rw (facing_south i h p) (omega arith))
      (λ u p. facing_east (facing West i) (facing_in West i) (facing_on West p) ∙ rw (facing_west i h p) (omega arith))
      p

  pub facing_along : (side : CompassDir) (k : ℕ) → i + k * stride side < 100 → on_edge side i ≡ true → on_edge side (i + k * stride side) ≡ true
      → facing side (i + k * stride side) ≡ facing side i + k * stride side
  unfolding on_edge
  facing_along side k m p =
      by_edge (λ s. i + k * stride s < 100 → on_edge s i ≡ true → on_edge s (i + k * stride s) ≡ true → facing s (i + k * stride s) ≡ facing s i + k * stride s)
      side i p
      (λ u m p q. let v = eqb-true ((i + k * 1) / 10) 0 q in rw (facing_north (i + k * 1) m q, facing_north i h p) (omega arith))
      (λ u m p q. let v = eqb-true ((i + k * 10) % 10) 9 q in rw (facing_east (i + k * 10) m q, facing_east i h p) (omega arith))
      (λ u m p q. let v = eqb-true ((i + k * 1) / 10) 9 q in rw (facing_south (i + k * 1) m q, facing_south i h p) (omega arith))
      (λ u m p q. let v = eqb-true ((i + k * 10) % 10) 0 q in rw (facing_west (i + k * 10) m q, facing_west i h p) (omega arith))
      m p
