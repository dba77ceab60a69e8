-- The walks of a field (01, "Integration: build"), told by rows and columns, flags and sums, and by no function that makes waves.
-- Assumes nothing.
use Rattle.std.specs.Prelude.{◌≡◌, false, ℕ, ◌<◌, get_or}
use mathlib.Core.List.{List, Memᴰ}
use Rattle.fields.specs.Neighbours.{BesideAt}
use Rattle.integration_waves.specs.Walks.{Grid, Walk}
use Rattle.integration_field.specs.Word.{low, is_los, is_impassable}

module _ (costs cells corners : List ℕ) where
  -- walks begin in the listed corners, at their values, move to cells beside, and pay the cost of each cell they enter
  abbrev pub grid : Grid
  grid = record {
    Beside = BesideAt;
    Corner = λ x. Memᴰ x corners;
    cost = λ x. get_or costs x 0;
    before = λ x. low (get_or cells x 0);
  }

  -- what a walk by hand may enter: no wall, nothing in sight, and only where it arrives below the value before building
  pub record MayEnter (x s : ℕ) : Type 0 where
    pub no_wall : is_impassable (get_or cells x 0) ≡ false
    pub not_in_sight : is_los (get_or cells x 0) ≡ false
    pub below : s < low (get_or cells x 0)

  -- a permitted walk (01, "Integration: build") of a field given by hand: of so many moves, into a cell, and the sum that it comes to
  abbrev pub Permitted : ℕ → ℕ → ℕ → Type 0
  Permitted = Walk grid MayEnter
