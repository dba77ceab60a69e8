-- A cart that drives by the sheet of a floor: from its place it moves to the place that its arrow points at (`FloorMove`), and stands still where the arrow
-- leads nowhere on the floor. The sheet's 6,400 bytes may be any.
-- Assumes nothing.
use Rattle.std.specs.Prelude.{◌≡◌, true, false, cond, List, ℕ, suc, ◌+◌, ◌*◌, get_or}
use Rattle.flow_bits.specs.Byte.{is_goal, has_line_of_sight}
use Rattle.leg_journey.specs.Place.{Place, the_sector_in, the_cell_in, FloorMove, FloorWalk}

-- ---- the outcomes
-- 0 stopped, which a refusal answers too; 1 moved; 2 arrived; 3 in sight; 4 never

-- what the byte of a place reads as (01, "Flow byte"): as goal, else as in sight, else as neither
abbrev pub ReadsGoal : ℕ → Type 0
ReadsGoal byte = is_goal byte ≡ true

abbrev pub ReadsSight : ℕ → Type 0
ReadsSight byte = (is_goal byte ≡ false) × (has_line_of_sight byte ≡ true)

abbrev pub ReadsNeither : ℕ → Type 0
ReadsNeither byte = (is_goal byte ≡ false) × (has_line_of_sight byte ≡ false)

-- the outcome of a cart that stands still, by the byte of its place
abbrev pub still_outcome : ℕ → ℕ
still_outcome byte = cond (is_goal byte) 2 (cond (has_line_of_sight byte) 3 0)

module _ (sheet : List ℕ) where
  -- the byte of a place
  abbrev pub byte_at : Place → ℕ
  byte_at p = get_or sheet (the_sector_in p * 100 + the_cell_in p) 0

  -- no move leads on from a place
  abbrev pub Still : Place → Type 0
  Still p = (q : Place) → FloorMove sheet p q → ⊥

  -- what a move comes to
  pub data Next (p : Place) : Type 0 where
    moves_to : (q : Place) → FloorMove sheet p q → Next p
    stands : Still p → Next p

  -- after so many moves the cart stands still
  pub record StandsAfter (n : ℕ) (p : Place) : Type 0 where
    pub at : Place
    pub walk : FloorWalk sheet n p at
    pub still : Still at

  -- it comes to stand still where the byte is of some kind
  pub record StandsWhere (Kind : ℕ → Type 0) (p : Place) : Type 0 where
    pub moves : ℕ
    pub stands_there : StandsAfter moves p
    pub reads : Kind (byte_at stands_there.at)

  -- it comes to a place, and after some moves more to that place again
  pub record ComesAgain (p : Place) : Type 0 where
    pub first : ℕ
    pub more : ℕ
    pub at : Place
    pub there : FloorWalk sheet first p at
    pub round : FloorWalk sheet (suc more) at at

  -- what a way comes to: it stands still after n moves, or never, whatever the number of moves
  pub data Way (p : Place) : Type 0 where
    stands_after : (n : ℕ) → StandsAfter n p → Way p
    stands_never : ((n : ℕ) → StandsAfter n p → ⊥) → Way p
