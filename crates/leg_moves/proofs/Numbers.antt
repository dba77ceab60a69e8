-- Which calls of a cart are accepted, and the number of each that is not.
--     good, taken      a call is accepted where the sheet is a floor's and the place lies on it, and nowhere else
--     numbered         each number, exactly on its condition
-- Assumes nothing.
use mathlib.Core.Path.{◌≡◌, refl}
use mathlib.Core.Bool.{Bool, true, false, not, cond}
use mathlib.Core.List.{List}
use Prim.Native.Nat.{ℕ, ◌≤◌}
use native.Mathlib.Omega.{arith}
use lib.Dec.{ltb, eqb}
use lib.ListN.{length}
use borrow.Author.Tests.{eqb-true, eqb-false, ltb-true, ltb-false, eq-eqb, le-ltb}
use Rattle.leg_moves.specs.Answers.{cart_number}
use Rattle.leg_moves.specs.Promise.{CartAccepted, CartNumbered}

module _ (sheet : List ℕ) (sector cell : ℕ) where
  pub good : CartAccepted sheet sector cell → cart_number sheet sector cell ≡ 0
  unfolding cart_number
  good t = rw (eq-eqb (length sheet) 6400 t.full, le-ltb 63 sector (omega (arith, t.sector_in)), le-ltb 99 cell (omega (arith, t.cell_in)))

  pub numbered : CartNumbered sheet sector cell (cart_number sheet sector cell)
  unfolding cart_number
  numbered = go (eqb (length sheet) 6400) (ltb 63 sector) (ltb 99 cell) refl refl refl
    where
      go : (a b c : Bool) → eqb (length sheet) 6400 ≡ a → ltb 63 sector ≡ b → ltb 99 cell ≡ c
          → CartNumbered sheet sector cell (cond (not a) 2 (cond b 4 (cond c 5 0)))
      go false b c p q r =
          let other = eqb-false (length sheet) 6400 p in
          record {
            accepted = (λ z. absurd (omega arith), λ t. absurd (other t.full));
            two = (λ z. other, λ z. refl);
            four = (λ z. absurd (omega arith), λ t. absurd (other t.0));
            five = (λ z. absurd (omega arith), λ t. absurd (other t.0));
          }
      go true true c p q r =
          let full = eqb-true (length sheet) 6400 p in
          let over : 64 ≤ sector = omega (arith, ltb-true 63 sector q) in
          record {
            accepted = (λ z. absurd (omega arith), λ t. absurd (omega (arith, t.sector_in)));
            two = (λ z. absurd (omega arith), λ z. absurd (z full));
            four = (λ z. (full, over), λ t. refl);
            five = (λ z. absurd (omega arith), λ (whole, (sector_in, beyond)). absurd (omega (arith, sector_in)));
          }
      go true false true p q r =
          let full = eqb-true (length sheet) 6400 p in
          let under = ltb-false 63 sector q in
          let over : 100 ≤ cell = omega (arith, ltb-true 99 cell r) in
          record {
            accepted = (λ z. absurd (omega arith), λ t. absurd (omega (arith, t.cell_in)));
            two = (λ z. absurd (omega arith), λ z. absurd (z full));
            four = (λ z. absurd (omega arith), λ t. absurd (omega (arith, t.1)));
            five = (λ z. (full, (omega arith, over)), λ t. refl);
          }
      go true false false p q r =
          let full = eqb-true (length sheet) 6400 p in
          let under = ltb-false 63 sector q in
          let inside = ltb-false 99 cell r in
          record {
            accepted = (λ z. record { full = full; sector_in = omega arith; cell_in = omega arith }, λ t. refl);
            two = (λ z. absurd (omega arith), λ z. absurd (z full));
            four = (λ z. absurd (omega arith), λ t. absurd (omega (arith, t.1)));
            five = (λ z. absurd (omega arith), λ (whole, (sector_in, beyond)). absurd (omega (arith, beyond)));
          }

  pub taken : cart_number sheet sector cell ≡ 0 → CartAccepted sheet sector cell
  taken z = numbered.accepted.0 z
