-- Sizes: 100 places, and any falling number of at least 100, give the sight that is defined without either (01, "From Rust's form to Rattle's").
-- Assumes nothing.
use Rattle.std.specs.Prelude.{◌≡◌, List, [], ℕ, ◌<◌, ◌≤◌, length, get_or}
use Rattle.integration_started.specs.Sight.{Sight, sight_after}

module _ (corner_line : ℕ → List ℕ) (cells : List ℕ) (goal : ℕ) where
  -- what wave k leaves
  abbrev pub after : ℕ → Sight
  after k = sight_after corner_line cells goal k

  pub record Sizes : Type 0 where
    -- the corner list never repeats a cell, and never needs a 101st place; nor does the queue of a wave
    pub corner_once : (k i j : ℕ) → i < j → j < length (after k).corners → get_or (after k).corners i 0 ≡ get_or (after k).corners j 0 → ⊥
    pub corners_fit : (k : ℕ) → length (after k).corners ≤ 100
    pub queue_fits : (k : ℕ) → length (after k).queue ≤ 100
    -- sight ends before its 100th wave: wave 99 leaves none to spread from
    pub ends : (k : ℕ) → 99 ≤ k → (after k).queue ≡ []
    pub same : (k : ℕ) → 100 ≤ k → after k ≡ after 100
