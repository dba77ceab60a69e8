-- Costs from a goal that is planned without sight, and whose positions they are: our own addition, in neither document. Walks are told here by
-- cells and costs alone, and by no field.
-- Assumes nothing.
use Rattle.std.specs.Prelude.{◌≡◌, ◌⊎◌, List, ℕ, ◌+◌, ◌<◌, ◌≤◌, get_or}
use Rattle.fields.specs.Neighbours.{BesideAt}
use Rattle.integration_field.specs.Word.{low}

module _ (costs : List ℕ) (goal : ℕ) where
  -- a cell that a walk may enter: in the sector, no wall, and not the goal again
  pub record Open (x : ℕ) : Type 0 where
    pub inside : x < 100
    pub no_wall : get_or costs x 0 ≡ 255 → ⊥
    pub not_goal : x ≡ goal → ⊥

  -- A walk from the goal into a cell, and what it comes to. Each move goes to an orthogonal neighbour and pays the cell that it enters; so the goal's
  -- own cost is never paid.
  pub data GoalWalk : ℕ → ℕ → Type 0 where
    begins : GoalWalk goal 0
    enters : {y x s : ℕ} → GoalWalk y s → BesideAt y x → Open x → GoalWalk x (s + get_or costs x 0)

  -- `built` are the cells after building; what a cell costs is its low 16 bits
  pub record GoalCosts (built : List ℕ) : Type 0 where
    pub goal_free : low (get_or built goal 0) ≡ 0
    -- no walk into a cell comes to less than it costs
    pub none_below : (x s : ℕ) → GoalWalk x s → low (get_or built x 0) ≤ s
    -- a cell into which a walk leads costs what some walk into it comes to, and is reached
    pub attained : (x s : ℕ) → GoalWalk x s → GoalWalk x (low (get_or built x 0)) × (low (get_or built x 0) < 65535)
    -- a cell into which none leads holds 65535: a wall, or what walls shut off
    pub unwalked : (x : ℕ) → x < 100 → ((s : ℕ) → GoalWalk x s → ⊥) → low (get_or built x 0) ≡ 65535

  -- The positions (02, "Job 10"): the goal is the one corner, at position 0, and every reached cell is the goal's but the goal itself, which is flagged.
  pub record GoalPositions (built positions : List ℕ) : Type 0 where
    pub reached : (x : ℕ) → x < 100 → low (get_or built x 0) < 65535 → (x ≡ goal → ⊥) → get_or positions x 0 ≡ 0
    pub others : (x : ℕ) → x < 100 → (x ≡ goal) ⊎ (65535 ≤ low (get_or built x 0)) → get_or positions x 0 ≡ 255
