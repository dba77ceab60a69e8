-- Waves over a grid of cells (01, "Integration: build": wave 0 is the listed corners; wave k offers from each cell that wave k - 1 changed),
-- stated of any values: `value k x` is what wave k leaves in cell x.
-- Assumes nothing.
use Rattle.std.specs.Prelude.{◌≡◌, ℕ, zero, suc, ◌+◌, ◌≤◌, ◌<◌}
use Rattle.integration_waves.specs.Walks.{Grid}

module _ (g : Grid) (Open : ℕ → Type 0) (value : ℕ → ℕ → ℕ) where
  -- what wave k changed; wave 0 is the corners
  abbrev pub Changed : ℕ → ℕ → Type 0
  Changed zero x = g.Corner x
  Changed (suc k) x = value (suc k) x < value k x

  -- what a cell offers to one beside it: the value that the wave before left, and the cost of the cell entered
  abbrev pub offer : ℕ → ℕ → ℕ → ℕ
  offer k y x = value k y + g.cost x

  -- The cells begin as they were; no value rises; an open cell ends at or below each offer that a cell which the wave before changed
  -- makes it; and what a wave changes becomes such an offer.
  pub record Waves : Type 0 where
    pub begins : (x : ℕ) → value zero x ≡ g.before x
    pub falls : (k x : ℕ) → value (suc k) x ≤ value k x
    pub relaxes : (k y x : ℕ) → Changed k y → g.Beside y x → Open x → value (suc k) x ≤ offer k y x
    pub offered : (k x : ℕ) → Changed (suc k) x → (y : ℕ) × Changed k y × g.Beside y x × Open x × (value (suc k) x ≡ offer k y x)

  -- wave n is the last that changes a cell
  pub record Ends (n : ℕ) : Type 0 where
    pub each : (i : ℕ) → i < n → (x : ℕ) × Changed (suc i) x
    pub still : (x : ℕ) → Changed (suc n) x → ⊥
