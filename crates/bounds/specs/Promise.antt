-- The flow bytes that the arrows of sure cells are read from (02, "Job 9").
-- Assumes nothing.
use Rattle.std.specs.Prelude.{Bool, List, ℕ}
use Rattle.route.specs.Step.{portal_of}
use Rattle.route.specs.Target.{target_of}
use Rattle.sector.specs.Sector.{sector_bytes}

-- the bytes that the sector call's definition gives for a step on a floor's costs, with a previous field or none
abbrev pub floor_bytes : List ℕ → List ℕ → Bool → List ℕ → List ℕ
floor_bytes step costs has previous = sector_bytes costs (target_of step) (portal_of step) has previous
