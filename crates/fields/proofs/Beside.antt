-- Adjacency by rows and columns is what the four orthogonal steps give.
--     step_beside    an orthogonal step from a cell of the sector arrives beside it
--     beside_step    and at a cell beside it an orthogonal step arrives
--     beside_flip    adjacency goes both ways
--     beside_below   indexes beside each other are indexes of cells
-- Assumes nothing.
use mathlib.Core.Path.{◌≡◌, refl, sym}
use mathlib.Core.Logic.{◌⊎◌, inl, inr}
use mathlib.Core.List.Memᴰ
use mathlib.Core.List.{[], ◌∷◌, Memᴰ}
use Prim.Native.Nat.{ℕ, ◌<◌}
use native.Mathlib.Omega.{arith}
use Rattle.utilities.specs.declared.CompassDir.{CompassDir}
use Rattle.utilities.specs.declared.CompassDir.TheVariants.{North, East, South, West}
use Rattle.utilities.specs.Compass.{orthogonal}
use Rattle.fields.specs.declared.FieldCell.{FieldCell}
use Rattle.std.specs.Prelude.{Some}
use Rattle.fields.specs.Cell.{Inside, stepped}
use Rattle.fields.specs.Neighbours.{ByOne, Beside, BesideAt}
use Rattle.fields.specs.Steps.{Arrives}
use Rattle.fields.proofs.Steps.{stepped_cell, told, steps_by}

module _ (a b : FieldCell) (i : Inside a) where
  north_beside : Arrives a North b → Beside a b
  north_beside r = let t = told a North b r in record { this_in = i; other_in = r.within; one_apart = inl (omega arith, inr (omega arith)) }

  east_beside : Arrives a East b → Beside a b
  east_beside r = let t = told a East b r in record { this_in = i; other_in = r.within; one_apart = inr (omega arith, inl (omega arith)) }

  south_beside : Arrives a South b → Beside a b
  south_beside r = let t = told a South b r in record { this_in = i; other_in = r.within; one_apart = inl (omega arith, inl (omega arith)) }

  west_beside : Arrives a West b → Beside a b
  west_beside r = let t = told a West b r in record { this_in = i; other_in = r.within; one_apart = inr (omega arith, inr (omega arith)) }

  pub step_beside : (d : CompassDir) → Memᴰ d orthogonal → stepped a d ≡ Some b → Beside a b
  step_beside d m e = first (Memᴰ.cases_cons m)
    where
      at : (d' : CompassDir) → d ≡ d' → Arrives a d' b
      at d' q = stepped_cell a d' b (rw (← q) e)

      fourth : (d ≡ West) ⊎ Memᴰ d [] → Beside a b
      fourth (inl q) = west_beside (at West q)
      fourth (inr n) = absurd (Memᴰ.not-nil n)

      third : (d ≡ South) ⊎ Memᴰ d (West ∷ []) → Beside a b
      third (inl q) = south_beside (at South q)
      third (inr n) = fourth (Memᴰ.cases_cons n)

      second : (d ≡ East) ⊎ Memᴰ d (South ∷ West ∷ []) → Beside a b
      second (inl q) = east_beside (at East q)
      second (inr n) = third (Memᴰ.cases_cons n)

      first : (d ≡ North) ⊎ Memᴰ d (East ∷ South ∷ West ∷ []) → Beside a b
      first (inl q) = north_beside (at North q)
      first (inr n) = second (Memᴰ.cases_cons n)

pub beside_step : (a b : FieldCell) → Beside a b → (d : CompassDir) × Memᴰ d orthogonal × (stepped a d ≡ Some b)
beside_step a b r = pick r.one_apart
  where
    ii : Inside a
    ii = r.this_in

    oo : Inside b
    oo = r.other_in

    pick : ((a.column ≡ b.column) × ByOne a.row b.row) ⊎ ((a.row ≡ b.row) × ByOne a.column b.column)
        → (d : CompassDir) × Memᴰ d orthogonal × (stepped a d ≡ Some b)
    pick (inl (p, inl q)) = (
      South,
      Memᴰ.tail (Memᴰ.tail (Memᴰ.head refl)),
      steps_by a South b refl (omega arith) oo,
    )
    pick (inl (p, inr q)) =
        (North, Memᴰ.head refl, steps_by a North b refl (omega arith) oo)
    pick (inr (p, inl q)) =
        (East, Memᴰ.tail (Memᴰ.head refl), steps_by a East b refl (omega arith) oo)
    pick (inr (p, inr q)) = (
      West,
      Memᴰ.tail (Memᴰ.tail (Memᴰ.tail (Memᴰ.head refl))),
      steps_by a West b refl (omega arith) oo,
    )

pub beside_flip : (a b : FieldCell) → Beside a b → Beside b a
beside_flip a b r = record { this_in = r.other_in; other_in = r.this_in; one_apart = flip r.one_apart }
  where
    turn : (x y : ℕ) → ByOne x y → ByOne y x
    turn x y (inl e) = inr e
    turn x y (inr e) = inl e

    flip : ((a.column ≡ b.column) × ByOne a.row b.row) ⊎ ((a.row ≡ b.row) × ByOne a.column b.column)
        → ((b.column ≡ a.column) × ByOne b.row a.row) ⊎ ((b.row ≡ a.row) × ByOne b.column a.column)
    flip (inl (p, q)) = inl (sym p, turn a.row b.row q)
    flip (inr (p, q)) = inr (sym p, turn a.column b.column q)

pub beside_below : (i j : ℕ) → BesideAt i j → (i < 100) × (j < 100)
beside_below i j r = (omega (arith, r.this_in.row_in), omega (arith, r.other_in.row_in))
