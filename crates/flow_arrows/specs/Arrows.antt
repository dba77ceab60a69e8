-- Followed arrows (01, "Flow byte", last paragraph; 02, "Job 7"), in the documents' words: reached, arrow, move, cut, pass. Walls, window
-- cells and the goal are those of permitted walks. Nothing here is told by the helpers of a look, nor by those that read a byte or step from a cell.
-- Assumes nothing.
use Rattle.std.specs.Prelude.{◌≡◌, true, ◌⊎◌, ◌↔◌, List, ℕ, zero, suc, ◌+◌, ◌/◌, ◌%◌, ◌≤◌, ◌<◌, get_or}
use Rattle.fields.specs.Cell.{cell, index_of}
use Rattle.route.specs.Target.{Target, EndCell}
use Rattle.integration_field.specs.Word.{low}
use Rattle.integration_walks.specs.Walks.{Wall}
use Rattle.flow_bits.specs.Byte.{is_impassable}

-- a cell's built cost: its low 16 bits
abbrev pub built_cost : List ℕ → ℕ → ℕ
built_cost built x = low (get_or built x 0)

-- A reached cell (01) is one whose built low 16 bits are below 65535.
abbrev pub Reached : List ℕ → ℕ → Type 0
Reached built x = built_cost built x < 65535

-- An arrow (01) is the low half of a flow byte.
abbrev pub arrow : List ℕ → ℕ → ℕ
arrow bytes x = get_or bytes x 0 % 16

-- its bits, each 0 or 1: N 1, E 2, S 4, W 8, diagonals by sum
abbrev pub northward : ℕ → ℕ
northward a = a % 2

abbrev pub eastward : ℕ → ℕ
eastward a = a / 2 % 2

abbrev pub southward : ℕ → ℕ
southward a = a / 4 % 2

abbrev pub westward : ℕ → ℕ
westward a = a / 8 % 2

-- A move (01) goes to the neighbour it points at: a row up for N, a column right for E, a row down for S, a column left for W. An arrow points to
-- some side, and never to two that are opposite.
pub record Away (a x y : ℕ) : Type 0 where
  pub rows : y / 10 + northward a ≡ x / 10 + southward a
  pub columns : y % 10 + westward a ≡ x % 10 + eastward a
  pub somewhere : 1 ≤ a
  pub not_north_south : northward a + southward a ≤ 1
  pub not_east_west : eastward a + westward a ≤ 1

module _ (costs : List ℕ) (target : Target) where
  -- A move from a to b cuts between two walls (01) when it is diagonal and both cells beside it, one in the row of the cell it leaves and one
  -- in its column, are walls.
  pub record Cuts (a b : ℕ) : Type 0 where
    pub other_row : a / 10 ≡ b / 10 → ⊥
    pub other_column : a % 10 ≡ b % 10 → ⊥
    pub wall_in_row : Wall costs target (index_of (cell (b % 10) (a / 10)))
    pub wall_in_column : Wall costs target (index_of (cell (a % 10) (b / 10)))

  -- A move from a to b passes a wall diagonally when it is diagonal and either of the two cells beside it is a wall (02, Job 7: a diagonal is
  -- now barred if either of the two cells beside it is a wall, no longer only both).
  pub record PassesWall (a b : ℕ) : Type 0 where
    pub other_row : a / 10 ≡ b / 10 → ⊥
    pub other_column : a % 10 ≡ b % 10 → ⊥
    pub wall_beside : Wall costs target (index_of (cell (b % 10) (a / 10))) ⊎ Wall costs target (index_of (cell (a % 10) (b / 10)))

  -- From no cell of the sector, whatever it is, does an arrow that leads to a cell of the sector pass a wall diagonally (02, Job 7: arrows
  -- inside a sector never pass one diagonally), and none leads onto a wall.
  pub record ClearArrows (bytes : List ℕ) : Type 0 where
    pub past_no_wall : (x y : ℕ) → x < 100 → y < 100 → Away (arrow bytes x) x y → PassesWall x y → ⊥
    pub onto_no_wall : (x y : ℕ) → x < 100 → y < 100 → Away (arrow bytes x) x y → Wall costs target y → ⊥

  module _ (built bytes : List ℕ) where
    -- the move from x goes to y, a cell inside the sector of strictly lower built cost, and does not cut between two walls
    pub record Move (x y : ℕ) : Type 0 where
      pub away : Away (arrow bytes x) x y
      pub inside : y < 100
      pub lower : built_cost built y < built_cost built x
      pub uncut : Cuts x y → ⊥

    -- Followed from a cell, the arrows end in a cell that they lead to, a window's or without sight the goal, after so many moves, each of them
    -- such a move. From such a cell no move is made.
    pub data Leads : ℕ → ℕ → Type 0 where
      ends : {x : ℕ} → EndCell target x → Leads zero x
      moves : {n x y : ℕ} → (EndCell target x → ⊥) → Move x y → Leads n y → Leads (suc n) x

    -- a byte has all of 0xE0 exactly on walls and unreached cells
    abbrev pub CellsMarked : Type 0
    CellsMarked = (x : ℕ) → x < 100 → (is_impassable (get_or bytes x 0) ≡ true) ↔ (Wall costs target x ⊎ (Reached built x → ⊥))

    pub record ArrowsLead : Type 0 where
      -- from every reached cell the arrows, followed, end in the window, or without sight in the goal, after at most 99 moves
      pub leads : (x : ℕ) → x < 100 → Reached built x → (n : ℕ) × (n ≤ 99) × Leads n x
      -- a byte has all of 0xE0 exactly on walls and unreached cells
      pub marked : CellsMarked
