-- Which corner is mine (02, "Job 10"): for each cell the position, from 0, in the corner list of the earliest corner with a walk arriving
-- at the cell's built cost, staying put included.
-- Assumes nothing.
use Rattle.std.specs.Prelude.{Bool, cond, ◌||◌, List, [], ◌∷◌, map, ℕ, suc, ltb, eqb, get_or}
use Rattle.utilities.specs.Lists.{below}
use Rattle.integration_field.specs.Word.{low, is_goal, is_los, is_impassable}
use Rattle.integration_field.specs.Build.{build}

-- a cell that holds no position, whatever it costs: it was wall, in sight or flagged GOAL before building
abbrev pub is_unplaced : ℕ → Bool
is_unplaced w = is_impassable w || (is_los w || is_goal w)

-- the position of the first that passes the test, where the list begins at position i; 255 where none does
unfoldable pub first_position : (ℕ → Bool) → ℕ → List ℕ → ℕ
first_position test i [] = 255
first_position test i (c ∷ cs) = cond (test c) i (first_position test (suc i) cs)

module _ (costs cells : List ℕ) where
  -- the value that building from these corners leaves in cell x
  abbrev pub built_from : List ℕ → ℕ → ℕ
  built_from corners x = low (get_or (build costs cells corners).cells x 0)

  -- A walk from corner c arrives at the built cost of cell x. Where building lowered the cell, building from c alone comes to the same; where
  -- building left it as it was, nothing enters it, and the walk stays put.
  unfoldable pub arrives_from : List ℕ → ℕ → ℕ → Bool
  arrives_from corners c x =
      cond (ltb (built_from corners x) (low (get_or cells x 0))) (eqb (built_from (c ∷ []) x) (built_from corners x)) (eqb c x)

  -- the position that cell x holds
  abbrev pub position_at : List ℕ → ℕ → ℕ
  position_at corners x = cond (is_unplaced (get_or cells x 0)) 255 (first_position (λ c. arrives_from corners c x) 0 corners)

  -- the positions of all cells
  abbrev pub positions : List ℕ → List ℕ
  positions corners = map (position_at corners) (below 100)
