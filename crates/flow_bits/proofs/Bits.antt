-- What a direction's bits say.
--     points_none, points_some    they are 0 where the direction points nowhere, and nowhere else
--     bits_small                  they are the low four
-- Assumes nothing.
use mathlib.Core.Path.{◌≡◌, refl, ◌∙◌}
use mathlib.Core.Bool.{true, false}
use Prim.Native.Nat.{◌<◌}
use native.Mathlib.Omega.{arith}
use borrow.Author.Tests.{lt-ltb, le-ltb}
use Rattle.utilities.specs.declared.CompassDir.{CompassDir}
use Rattle.utilities.specs.Compass.{differences, points}
use Rattle.utilities.proofs.Compass.{small, changes}
use Rattle.flow_bits.specs.Byte.{bits_of}

module _ (d : CompassDir) where
  pub points_none : bits_of d ≡ 0 → points d ≡ false
  points_none h = let s = small d refl in s.some ∙ le-ltb 0 (changes (differences d)) (omega (arith, s.columns, s.rows))

  pub points_some : (bits_of d ≡ 0 → ⊥) → points d ≡ true
  points_some h = let s = small d refl in s.some ∙ lt-ltb 0 (changes (differences d)) (omega (arith, s.columns, s.rows))

  pub bits_small : bits_of d < 16
  bits_small = let s = small d refl in omega arith
