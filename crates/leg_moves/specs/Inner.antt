-- Contracts of functions beneath the calls.
-- Assumes nothing.
use Rattle.std.specs.Prelude.{ℕ, Option, Some, None}
use Rattle.leg_journey.specs.Place.{Place, Points}
use Rattle.leg_moves.specs.declared.Outcome.{Outcome}
use Rattle.leg_moves.specs.declared.Outcome.TheVariants.{Stopped, Moved, Arrived, InSight, Never}
use Rattle.leg_moves.specs.declared.spot.Spot.{Spot}

-- the number of an outcome
abbrev pub outcome_number : Outcome → ℕ
outcome_number Stopped = 0
outcome_number Moved = 1
outcome_number Arrived = 2
outcome_number InSight = 3
outcome_number Never = 4

-- the program's place
abbrev pub place_at : Spot → Place
place_at s = record { column = s.column; row = s.row }

-- where an arrow leads from a place
abbrev pub LeadsOn : ℕ → Spot → Option Spot → Type 0
LeadsOn arrow s (Some t) = Points arrow (place_at s) (place_at t)
LeadsOn arrow s None = (q : Place) → Points arrow (place_at s) q → ⊥
