-- Small computed cases of how positions are handed on (02, "Job 10").
-- Assumes nothing.
use mathlib.Core.Path.{◌≡◌, refl}
use mathlib.Core.List.{[], ◌∷◌}
use Rattle.integration_positions.specs.Inner.{entered_from, placing, placed_at, kept_of}

-- a cell of cost 3 that was lowered from 9 to 5 is entered from 2; one that was left at 9 from no cell
pub entered_from_two : entered_from 3 9 5 ≡ 2
unfolding entered_from
entered_from_two = refl

pub entered_from_none : entered_from 3 9 9 ≡ 65536
unfolding entered_from
entered_from_none = refl

-- the second cell takes position 4 from a cell of value 2; the first has a position already
pub takes : placed_at (2 ∷ 2 ∷ []) 2 4 1 (placing (1 ∷ 255 ∷ []) (0 ∷ 0 ∷ []) 1) ≡ placing (1 ∷ 4 ∷ []) (0 ∷ 1 ∷ []) 2
unfolding placed_at
takes = refl

pub has_one : placed_at (2 ∷ 2 ∷ []) 2 4 0 (placing (1 ∷ 255 ∷ []) (1 ∷ 9 ∷ []) 1) ≡ placing (1 ∷ 255 ∷ []) (1 ∷ 0 ∷ []) 1
unfolding placed_at
has_one = refl

-- a neighbour of value 2 is the cheapest of a cell that is entered from 5, and hands on nothing: its walk would come to less
pub not_from_the_cheapest : placed_at (2 ∷ 5 ∷ []) 2 4 1 (placing (1 ∷ 255 ∷ []) (0 ∷ 9 ∷ []) 1) ≡ placing (1 ∷ 255 ∷ []) (0 ∷ 1 ∷ []) 1
unfolding placed_at
not_from_the_cheapest = refl

-- a wall, a cell in sight and one flagged GOAL keep none, another keeps its own
pub wall_keeps_none : kept_of 0x200FFFF 7 ≡ 255
wall_keeps_none = refl

pub other_keeps : kept_of 0x4000000 7 ≡ 7
other_keeps = refl
