-- Moves and ways worked out, on sheets of zeros but for a cell or two of sector 0.
-- Assumes nothing.
use mathlib.Core.Path.{◌≡◌, refl}
use mathlib.Core.List.{[], ◌∷◌}
use Prim.Native.Nat.{ℕ}
use lib.ListN.{set, replicate}
use Rattle.leg_moves.specs.declared.CartMove.{CartMove}
use Rattle.leg_moves.specs.declared.CartWay.{CartWay}
use Rattle.leg_moves.specs.Decided.{next_if, next, stands_here, stands_further, searched_on, searched_from, searched, decided, way}
use Rattle.leg_moves.specs.Answers.{cart_number, move_from, move_answer, way_from, way_answer}

abbrev moved_by : ℕ → ℕ → CartMove
moved_by byte cell = move_answer (set (replicate 6400 0) cell byte) 0 cell

abbrev accepted : ℕ → ℕ → ℕ → CartMove
accepted outcome sector cell = record { number = 0; outcome = outcome; sector = sector; cell = cell }

-- east from cell 9 is cell 0 of the next sector, and south-east from cell 99 is cell 0 of the sector below that
pub across_windows : moved_by 0x12 9 ∷ moved_by 0x16 99 ∷ [] ≡ accepted 1 1 0 ∷ accepted 1 9 0 ∷ []
unfolding move_answer move_from cart_number next next_if
across_windows = refl

-- a byte that reads as goal and has a direction too: it is driven on, and where it leads off the floor it is arrived
pub goal_with_direction : moved_by 0x72 0 ∷ moved_by 0x71 0 ∷ [] ≡ accepted 1 0 1 ∷ accepted 2 0 0 ∷ []
unfolding move_answer move_from cart_number next next_if
goal_with_direction = refl

-- in sight, with no direction; a wall; and bits that are no direction, north and south at once
pub standing : moved_by 0x30 5 ∷ moved_by 0xE0 5 ∷ moved_by 0x15 50 ∷ [] ≡ accepted 3 0 5 ∷ accepted 0 0 5 ∷ accepted 0 0 50 ∷ []
unfolding move_answer move_from cart_number next next_if
standing = refl

-- ---- ways

abbrev way_by : ℕ → ℕ → CartWay
way_by first second = way_answer (set (set (replicate 6400 0) 0 first) 1 second) 0 0

abbrev stood : ℕ → ℕ → ℕ → CartWay
stood outcome cell moves = record { number = 0; outcome = outcome; sector = 0; cell = cell; moves = moves }

-- a cart beside the goal, and one that leaves an arrow for a byte of 0
pub ends : way_by 0x12 0x70 ∷ way_by 0x12 0x12 ∷ [] ≡ stood 2 1 1 ∷ stood 0 2 2 ∷ []
unfolding way_answer way_from cart_number next next_if stands_here stands_further searched_on searched_from searched decided way
ends = refl

-- two arrows that point at each other
pub never : way_by 0x12 0x18 ≡ stood 4 0 0
unfolding way_answer way_from cart_number next next_if searched_on searched_from searched decided way
never = refl
