-- What the waves of the code are to those of the definition (01, "Code places and their forms": one wave a call, with a number falling from 100).
-- Assumes nothing.
use Rattle.std.specs.Prelude.{◌≡◌, List, ℕ, ◌+◌, ◌≤◌}
use Rattle.integration_field.specs.Rest.{Rests}
use Rattle.integration_field.specs.Build.{settle}

-- at most `falling` waves; and where that many are enough, the cells and the count that the definition settles on
pub record Settles (costs cells wave : List ℕ) (falling : ℕ) (left : List ℕ) (waves : ℕ) : Type 0 where
  pub within : waves ≤ falling
  pub settled : (h : Rests costs falling (record { cells = cells; changed = wave }))
      → record { cells = left; waves = waves } ≡ settle costs falling (record { cells = cells; changed = wave }) h

-- what the definition settles on, where the count goes on from the waves that were counted before
pub record SettlesFrom (costs cells wave : List ℕ) (counted falling : ℕ) (left : List ℕ) (waves : ℕ) : Type 0 where
  pub more : ℕ
  pub counted_on : waves ≡ counted + more
  pub settles : Settles costs cells wave falling left more
