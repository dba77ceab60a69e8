-- What is promised of a built field (demand 3 and 02, "Job 10", for every field, started or given by hand).
-- Assumes nothing.
use Rattle.std.specs.Prelude.{◌≡◌, true, false, ◌⊎◌, ◌↔◌, List, [], ◌∷◌, ℕ, zero, suc, ◌≤◌, ◌<◌, length, get_or}
use Rattle.utilities.specs.Padded.{ZeroBeyond, AllZero}
use Rattle.integration_waves.specs.Waves.{Waves}
use Rattle.integration_field.specs.declared.IntegrationField.{IntegrationField}
use Rattle.integration_field.specs.declared.BuildAnswer.{BuildAnswer}
use Rattle.integration_field.specs.Word.{low, is_open, is_goal, is_los, is_impassable}
use Rattle.integration_field.specs.Wave.{wave_at}
use Rattle.integration_field.specs.Walks.{grid, Permitted}

module _ (costs cells corners : List ℕ) where
  -- cell x now holds, without flags, the sum of a permitted walk into it, of at most 99 moves, that is below its value before
  pub record Walked (x now : ℕ) : Type 0 where
    pub moves : ℕ
    pub few : moves ≤ 99
    pub walk : Permitted costs cells corners moves x now
    pub lower : now < low (get_or cells x 0)

  -- least walks: `built` are the cells after building
  pub record LeastWalks (built : List ℕ) : Type 0 where
    -- no permitted walk comes to less than the cell it ends in then holds
    pub none_below : (k x s : ℕ) → Permitted costs cells corners k x s → low (get_or built x 0) ≤ s
    -- each cell is as it was, or holds the sum of a walk
    pub attained : (x : ℕ) → (get_or built x 0 ≡ get_or cells x 0) ⊎ Walked x (get_or built x 0)
    -- walls and cells in sight keep their word
    pub walls_stay : (x : ℕ) → is_impassable (get_or cells x 0) ≡ true → get_or built x 0 ≡ get_or cells x 0
    pub sight_stays : (x : ℕ) → is_los (get_or cells x 0) ≡ true → get_or built x 0 ≡ get_or cells x 0

  -- what wave k leaves in cell x, and the cells that take offers
  abbrev pub value_at : ℕ → ℕ → ℕ
  value_at k x = low (get_or (wave_at costs cells corners k).cells x 0)

  abbrev pub OpenAt : ℕ → Type 0
  OpenAt x = is_open (get_or cells x 0) ≡ true

  -- wave k changes a cell; wave 0 changes none
  abbrev pub Changes : ℕ → Type 0
  Changes zero = ⊥
  Changes (suc k) = (x : ℕ) × (get_or (wave_at costs cells corners (suc k)).cells x 0 ≡ get_or (wave_at costs cells corners k).cells x 0 → ⊥)

  -- the waves, counted: `waves` is the count, `built` the cells after building
  pub record Counted (built : List ℕ) (waves : ℕ) : Type 0 where
    -- they are waves: each cell that the wave before changed offers what that wave left it, and nothing else changes a cell
    pub are_waves : Waves (grid costs cells corners) OpenAt value_at
    -- a wave changes a cell's word exactly where it lowers its value
    pub by_value : (k x : ℕ) → (get_or (wave_at costs cells corners (suc k)).cells x 0 ≡ get_or (wave_at costs cells corners k).cells x 0 → ⊥)
        ↔ (value_at (suc k) x < value_at k x)
    -- wave k changes a cell if and only if k is at least 1 and at most the count
    pub exact : (k : ℕ) → Changes k ↔ ((1 ≤ k) × (k ≤ waves))
    -- no 100th wave changes a cell
    pub at_most : waves ≤ 99
    -- running on changes nothing
    pub settled : (k : ℕ) → waves ≤ k → (wave_at costs cells corners k).cells ≡ built

  -- a walk from the corner listed at position i into cell x, at the sum s; one of no moves stays put
  abbrev pub WalkFrom : ℕ → ℕ → ℕ → Type 0
  WalkFrom i x s = (k : ℕ) × Permitted costs cells (get_or corners i 0 ∷ []) k x s

  -- cell x was neither wall nor in sight nor flagged GOAL before building
  pub record Placed (x : ℕ) : Type 0 where
    pub no_wall : is_impassable (get_or cells x 0) ≡ false
    pub not_in_sight : is_los (get_or cells x 0) ≡ false
    pub no_goal : is_goal (get_or cells x 0) ≡ false

  -- the position p that cell x holds, where `built` are the cells after building (02, "Job 10")
  pub data Position (built : List ℕ) (x p : ℕ) : Type 0 where
    -- the earliest corner with a walk arriving at the cell's built cost
    earliest : Placed x → p < length corners → WalkFrom p x (low (get_or built x 0)) → ((i : ℕ) → i < p → WalkFrom i x (low (get_or built x 0)) → ⊥)
        → Position built x p
    -- 255: no corner's walk gives the cell's cost
    none : Placed x → p ≡ 255 → ((i : ℕ) → i < length corners → WalkFrom i x (low (get_or built x 0)) → ⊥) → Position built x p
    -- 255: the cell was wall, in sight or flagged GOAL
    unplaced : (Placed x → ⊥) → p ≡ 255 → Position built x p

  -- each cell of the sector holds its position
  abbrev pub EarliestCorners : List ℕ → List ℕ → Type 0
  EarliestCorners built positions = (x : ℕ) → x < 100 → Position built x (get_or positions x 0)

-- ---- lists and refused answers, place by place (01, under the table)

-- the list of a built field: 0 in the places beyond its count, and before them the corners of the field that was given
pub record ListKept (given built : IntegrationField) : Type 0 where
  pub beyond : ZeroBeyond 0 given.count built.los_corners
  pub count : built.count ≡ given.count
  pub corners : (i : ℕ) → i < given.count → get_or built.los_corners i 0 ≡ get_or given.los_corners i 0

-- a field that is zero in every part
pub record ZeroField (f : IntegrationField) : Type 0 where
  pub cells : AllZero 0 f.field
  pub corners : AllZero 0 f.los_corners
  pub count : f.count ≡ 0
  pub positions : AllZero 0 f.positions

-- A refused call answers its number, with every other part of the answer zero.
pub record BuildRefused (r : BuildAnswer) : Type 0 where
  pub field : ZeroField r.field
  pub waves : r.waves ≡ 0
