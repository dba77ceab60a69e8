-- Laws of directions.
--     small                   a direction moves by one at most in each coordinate, and by one in some unless it is Zero
--     opposite_differences    the opposite direction's differences are as far, the other way
--     opposite_points         and it is a direction where the other is one
--     numbers_in_order        the numbers of the directions, by computation
-- Assumes nothing.
use mathlib.Core.Path.{◌≡◌, refl}
use mathlib.Core.List.{[], ◌∷◌, ◌++◌, map}
use Prim.Native.Nat.{ℕ, ◌+◌}
use native.Mathlib.Omega.{arith}
use lib.Dec.{ltb}
use lib.IntN.{neg_ℤ}
use Rattle.utilities.specs.declared.CompassDir.{CompassDir}
use Rattle.utilities.specs.declared.CompassDir.TheVariants.{North, East, South, West, NorthEast, SouthEast, SouthWest, NorthWest, Zero}
use Rattle.utilities.specs.declared.Differences.{Differences}
use Rattle.utilities.specs.Compass.{differences, points, rises, falls, all, opposite, number_of}
use Rattle.utilities.specs.Lists.{below}
use Rattle.utilities.proofs.Sums.{Single}

-- how many coordinates a pair of differences changes
abbrev pub changes : Differences → ℕ
changes δ = rises δ.column + falls δ.column + (rises δ.row + falls δ.row)

pub record Small (d : CompassDir) (δ : Differences) : Type 0 where
  pub columns : Single δ.column
  pub rows : Single δ.row
  pub some : points d ≡ ltb 0 (changes δ)

of_each : (d : CompassDir) → Small d (differences d)
of_each North = record { columns = omega arith; rows = omega arith; some = refl }
of_each East = record { columns = omega arith; rows = omega arith; some = refl }
of_each South = record { columns = omega arith; rows = omega arith; some = refl }
of_each West = record { columns = omega arith; rows = omega arith; some = refl }
of_each NorthEast = record { columns = omega arith; rows = omega arith; some = refl }
of_each SouthEast = record { columns = omega arith; rows = omega arith; some = refl }
of_each SouthWest = record { columns = omega arith; rows = omega arith; some = refl }
of_each NorthWest = record { columns = omega arith; rows = omega arith; some = refl }
of_each Zero = record { columns = omega arith; rows = omega arith; some = refl }

pub small : (d : CompassDir) {δ : Differences} → δ ≡ differences d → Small d δ
small d e = rw e (of_each d)

pub opposite_differences : (d : CompassDir) → differences (opposite d) ≡ record { column = neg_ℤ (differences d).column; row = neg_ℤ (differences d).row }
opposite_differences North = refl
opposite_differences East = refl
opposite_differences South = refl
opposite_differences West = refl
opposite_differences NorthEast = refl
opposite_differences SouthEast = refl
opposite_differences SouthWest = refl
opposite_differences NorthWest = refl
opposite_differences Zero = refl

pub opposite_points : (d : CompassDir) → points (opposite d) ≡ points d
opposite_points North = refl
opposite_points East = refl
opposite_points South = refl
opposite_points West = refl
opposite_points NorthEast = refl
opposite_points SouthEast = refl
opposite_points SouthWest = refl
opposite_points NorthWest = refl
opposite_points Zero = refl

-- a direction's number is its place in the order of a look, and Zero's comes behind them
pub numbers_in_order : map number_of (all ++ (Zero ∷ [])) ≡ below 9
numbers_in_order = refl
