-- What a started cell is (01, "Integration: init"; "Integration: build": a wall is a cell of cost 255 that is neither goal nor window cell).
-- Later proofs lean on this instead of on the definition of sight.
-- Assumes nothing.
use Rattle.std.specs.Prelude.{◌≡◌, true, false, List, [], ◌∷◌, ℕ, ◌+◌, ◌<◌, ◌≤◌, length, get_or}
use Rattle.integration_field.specs.Word.{is_los, is_goal, is_blocked, is_impassable}

-- a list has an entry
abbrev pub Among : ℕ → List ℕ → Type 0
Among x l = (i : ℕ) × (i < length l) × (get_or l i 0 ≡ x)

-- In a goal step a cell that is neither goal nor wall is in sight, or a corner, or as it was.
pub data SightCell (x : ℕ) : Type 0 where
  in_sight : (v : ℕ) → 1 ≤ v → v ≤ 99 → x ≡ v + 0x10000 → SightCell x
  corner : (v : ℕ) → v ≤ 110 → x ≡ v + 0x4040000 → SightCell x
  unseen : x ≡ 65535 → SightCell x

-- The goal stays: 0x20000 at the goal, and GOAL nowhere else.
pub record GoalStays (goal : ℕ) (cells : List ℕ) : Type 0 where
  pub goal_cell : get_or cells goal 0 ≡ 0x20000
  pub goal_only : (i : ℕ) → i < 100 → is_goal (get_or cells i 0) ≡ true → i ≡ goal

-- a field started with a goal
pub record GoalStarted (costs : List ℕ) (goal : ℕ) (cells corners : List ℕ) : Type 0 where
  pub full : length cells ≡ 100
  pub goal_stays : GoalStays goal cells
  -- walls: exactly the cells of cost 255 but the goal
  pub wall_cell : (i : ℕ) → i < 100 → get_or costs i 0 ≡ 255 → (i ≡ goal → ⊥) → get_or cells i 0 ≡ 0x200FFFF
  pub wall_only : (i : ℕ) → i < 100 → is_impassable (get_or cells i 0) ≡ true → (get_or costs i 0 ≡ 255) × (i ≡ goal → ⊥)
  pub other_cell : (i : ℕ) → i < 100 → (get_or costs i 0 ≡ 255 → ⊥) → (i ≡ goal → ⊥) → SightCell (get_or cells i 0)
  -- the list: below 100, no cell twice, and exactly the BLOCKED cells
  pub corner_in : (i : ℕ) → i < length corners → get_or corners i 0 < 100
  pub corner_once : (i j : ℕ) → i < j → j < length corners → get_or corners i 0 ≡ get_or corners j 0 → ⊥
  pub corner_blocked : (i : ℕ) → i < length corners → is_blocked (get_or cells (get_or corners i 0) 0) ≡ true
  pub blocked_listed : (i : ℕ) → i < 100 → is_blocked (get_or cells i 0) ≡ true → Among i corners

-- a field started with a window of these cells
pub record WindowStarted (costs window : List ℕ) (cells corners : List ℕ) : Type 0 where
  pub full : length cells ≡ 100
  -- the list: exactly the window cells in order, below 100, no cell twice
  pub list : corners ≡ window
  pub corner_in : (i : ℕ) → i < length corners → get_or corners i 0 < 100
  pub corner_once : (i j : ℕ) → i < j → j < length corners → get_or corners i 0 ≡ get_or corners j 0 → ⊥
  pub portal_cell : (i : ℕ) → Among i window → get_or cells i 0 ≡ 0x80000
  -- walls: exactly the cells of cost 255 but the window cells
  pub wall_cell : (i : ℕ) → i < 100 → get_or costs i 0 ≡ 255 → (Among i window → ⊥) → get_or cells i 0 ≡ 0x200FFFF
  pub wall_only : (i : ℕ) → i < 100 → is_impassable (get_or cells i 0) ≡ true → (get_or costs i 0 ≡ 255) × (Among i window → ⊥)
  pub other_cell : (i : ℕ) → i < 100 → (get_or costs i 0 ≡ 255 → ⊥) → (Among i window → ⊥) → get_or cells i 0 ≡ 65535
  -- no cell is in sight, and none is a goal
  pub no_sight : (i : ℕ) → i < 100 → is_los (get_or cells i 0) ≡ false
  pub no_goal : (i : ℕ) → i < 100 → is_goal (get_or cells i 0) ≡ false

-- a field started with a goal and without sight
pub record CornerStarted (costs : List ℕ) (goal : ℕ) (cells corners : List ℕ) : Type 0 where
  pub full : length cells ≡ 100
  -- the list: the goal alone, below 100
  pub list : corners ≡ goal ∷ []
  pub corner_in : (i : ℕ) → i < length corners → get_or corners i 0 < 100
  pub goal_stays : GoalStays goal cells
  -- walls: exactly the cells of cost 255 but the goal
  pub wall_cell : (i : ℕ) → i < 100 → get_or costs i 0 ≡ 255 → (i ≡ goal → ⊥) → get_or cells i 0 ≡ 0x200FFFF
  pub wall_only : (i : ℕ) → i < 100 → is_impassable (get_or cells i 0) ≡ true → (get_or costs i 0 ≡ 255) × (i ≡ goal → ⊥)
  pub other_cell : (i : ℕ) → i < 100 → (get_or costs i 0 ≡ 255 → ⊥) → (i ≡ goal → ⊥) → get_or cells i 0 ≡ 65535
  -- no cell is in sight
  pub no_sight : (i : ℕ) → i < 100 → is_los (get_or cells i 0) ≡ false
