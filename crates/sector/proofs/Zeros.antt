-- A previous field of zeros gives the bytes that no previous field gives: each window cell points straight across (02, "Job 8").
--     straight           the bits of a window cell
--     zeros_straight     the bytes of a sector
-- Assumes nothing.
use mathlib.Core.Path.{◌≡◌, refl}
use mathlib.Core.Bool.{Bool, true, false, cond}
use mathlib.Core.List.{List, []}
use Prim.Native.Nat.{ℕ, ◌<◌, ◌≤◌}
use native.Mathlib.Omega.{arith}
use native.Mathlib.Decide.{dec_lt}
use lib.Dec.{eqb}
use lib.ListN.{length, get_or, replicate, get_or-replicate, get_or-eq_default}
use borrow.Author.Tests.{le-leb}
use Rattle.route.specs.declared.PortalWindow.{PortalWindow}
use Rattle.route.specs.Window.{facing}
use Rattle.route.specs.Target.{Target}
use Rattle.flow_byte.specs.New.{facing_bits, seen_values, facing_choice, window_bits, new_byte, new_bytes}
use Rattle.sector.specs.Sector.{sector_bytes}

module _ (previous : List ℕ) (all_zero : (i : ℕ) → get_or previous i 0 ≡ 0) where
  straight : (portal : PortalWindow) (i : ℕ) → window_bits portal true previous i ≡ window_bits portal false [] i
  unfolding window_bits facing_choice facing_bits
  straight portal i = go (eqb portal.start portal.end)
    where
      choice : facing_choice portal previous i ≡ window_bits portal false [] i
      choice =
          let seen = seen_values portal previous i in
          rw (all_zero (facing portal.boundary i), le-leb 0 seen.lower (omega arith), le-leb 0 seen.higher (omega arith))

      go : (b : Bool) → cond b (window_bits portal false [] i) (facing_choice portal previous i) ≡ window_bits portal false [] i
      go true = refl
      go false = choice

  bytes_straight : (costs : List ℕ) (target : Target) (portal : PortalWindow)
      → sector_bytes costs target portal true previous ≡ sector_bytes costs target portal false []
  unfolding sector_bytes new_bytes new_byte
  bytes_straight costs target portal = simp straight

abbrev zeros : List ℕ
zeros = replicate 100 0

zero_at : (i : ℕ) → get_or zeros i 0 ≡ 0
zero_at i = go (dec_lt i 100)
  where
    go : Dec (i < 100) → get_or zeros i 0 ≡ 0
    go (yes h) = get_or-replicate 100 i 0 0 h
    go (no h) = let beyond : length zeros ≤ i = omega arith in get_or-eq_default zeros 0 beyond

pub zeros_straight : (costs : List ℕ) (target : Target) (portal : PortalWindow)
    → sector_bytes costs target portal true zeros ≡ sector_bytes costs target portal false []
zeros_straight = bytes_straight zeros zero_at
