-- What is promised of a planned leg: of each sector's part of the sheet, and, for every sector that it writes, demand 3 and arrows clear of walls.
-- Assumes nothing.
use Rattle.std.specs.Prelude.{◌≡◌, Bool, true, false, ◌↔◌, List, [], ℕ, zero, suc, ◌<◌, length}
use Rattle.route.specs.declared.PortalWindow.{PortalWindow}
use Rattle.route.specs.Step.{sector_of, portal_of}
use Rattle.route.specs.Target.{Target, WindowCell}
use Rattle.step_list.specs.Steps.{step_of}
use Rattle.integration_field.specs.Built.{wave_count}
use Rattle.integration_started.specs.Started.{started}
use Rattle.sector.specs.Sector.{sector_field, sector_bytes}
use Rattle.sector.specs.Promise.{Planned}
use Rattle.leg_counting.specs.Counting.{leg_target, CountingCell}
use Rattle.leg_plan.specs.Leg.{part, names}

-- ---- step k of a leg

-- the sector that it names
abbrev pub sector_at : List (List ℕ) → ℕ → ℕ
sector_at steps k = sector_of (step_of steps k)

-- its window, whole
abbrev pub portal_at : List (List ℕ) → ℕ → PortalWindow
portal_at steps k = portal_of (step_of steps k)

-- whether there is a step before it
abbrev pub has_before : ℕ → Bool
has_before zero = false
has_before (suc k) = true

module _ (floor : List ℕ) (steps : List (List ℕ)) where
  -- its sector's costs
  abbrev pub costs_at : ℕ → List ℕ
  costs_at k = part floor (sector_at steps k)

module _ (sight : Bool) (floor : List ℕ) (steps : List (List ℕ)) where
  -- its sector's built costs: those that the sector call's definition gives, the counting cells alone being its window cells
  unfoldable pub built_at : ℕ → List ℕ
  built_at zero = (sector_field (costs_at floor steps zero) (leg_target sight false [] (step_of steps zero))).field
  built_at (suc k) = (sector_field (costs_at floor steps (suc k)) (leg_target sight true (built_at k) (step_of steps (suc k)))).field

  -- the built field of the step before; none for the first
  abbrev pub built_before : ℕ → List ℕ
  built_before zero = []
  built_before (suc k) = built_at k

  -- its target: the goal, or the window cells that count
  abbrev pub target_at : ℕ → Target
  target_at k = leg_target sight (has_before k) (built_before k) (step_of steps k)

  -- `before` and `after` are the sheet at entry and at exit
  pub record LegPlannedBy (before after : List ℕ) : Type 0 where
    -- each named sector's 100 bytes are what the sector call's definition gives for that sector's costs, that step's target and window, and as
    -- previous field the built field that the definition gives for the step before (none for the first)
    pub written : (k : ℕ) → k < length steps
        → part after (sector_at steps k) ≡ sector_bytes (costs_at floor steps k) (target_at k) (portal_at steps k) (has_before k) (built_before k)
    -- every other byte is as it was
    pub kept : (sector : ℕ) → names sector steps ≡ false → part after sector ≡ part before sector
    pub same_length : length after ≡ length before
    -- a later step starts from the cells of its window that count (02, Job 2), as its bytes, rows and columns tell them
    pub counting : (k : ℕ) → suc k < length steps → (x : ℕ) → WindowCell (target_at (suc k)) x ↔ CountingCell (step_of steps (suc k)) (built_at k) x
    -- demand 3, and arrows clear of walls (02, Job 7), for every sector that is written
    pub demand3 : (k : ℕ) → k < length steps
        → Planned (costs_at floor steps k) (target_at k) (built_at k)
        (wave_count (costs_at floor steps k) (started (costs_at floor steps k) (target_at k))) (part after (sector_at steps k))

-- of the leg of the documents, with the sight of its goal
abbrev pub LegPlanned : List ℕ → List (List ℕ) → List ℕ → List ℕ → Type 0
LegPlanned floor steps before after = LegPlannedBy true floor steps before after
