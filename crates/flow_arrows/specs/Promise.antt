-- What is promised of arrows: that they lead, in every sector left by a window, with no cost 0, with any previous field or none (demand 3); and
-- that they are clear of walls, in every sector (02, "Job 7").
-- Assumes nothing.
use Rattle.std.specs.Prelude.{◌≡◌, Bool, true, List, ℕ, ◌≤◌, ◌<◌, length, get_or}
use Rattle.route.specs.Target.{Target, by_window, is_sightless, TargetIn, target_of}
use Rattle.integration_field.specs.declared.IntegrationField.{IntegrationField}
use Rattle.integration_field.specs.Built.{built_field}
use Rattle.integration_started.specs.Started.{started, init_number}
use Rattle.integration_walks.specs.Promise.{SameStart}
use Rattle.flow_byte.specs.New.{flow_new}
use Rattle.flow_byte.specs.Look.{flow_build}
use Rattle.flow_arrows.specs.Arrows.{ClearArrows, ArrowsLead}

-- no cost 0 is drawn
abbrev pub NoCostZero : List ℕ → Type 0
NoCostZero costs = (x : ℕ) → x < 100 → 1 ≤ get_or costs x 0

-- a sector left by a window, with no cost 0: 100 cost bytes from 1 on, and window cells inside the sector
pub record WindowSector (costs : List ℕ) (target : Target) : Type 0 where
  pub full : length costs ≡ 100
  pub no_zero : NoCostZero costs
  pub byte : (x : ℕ) → x < 100 → get_or costs x 0 ≤ 255
  pub target_in : TargetIn target
  pub is_by_window : by_window target ≡ true

-- a sector planned without sight, left by a window or with the goal in it, with no cost 0
pub record SightlessSector (costs : List ℕ) (target : Target) : Type 0 where
  pub full : length costs ≡ 100
  pub no_zero : NoCostZero costs
  pub byte : (cell : ℕ) → cell < 100 → get_or costs cell 0 ≤ 255
  pub target_in : TargetIn target
  pub sightless : is_sightless target ≡ true

-- the cells of the built started field
abbrev pub built_cells : List ℕ → Target → List ℕ
built_cells costs target = (built_field costs (started costs target)).field

-- `FlowField::build`, of the cells given, and the sheet at entry and at exit: where the cells are those of the built started field of a
-- step's target, and the sheet at entry is what `new` leaves for that step, the arrows of the sheet at exit lead; and they are clear of walls, with
-- a goal or a window, any 100 costs and any target inside the sector, as that of every accepted step is
pub record BuildArrows (cells entry exit : List ℕ) : Type 0 where
  pub arrows : (costs step : List ℕ) (has : Bool) (previous : List ℕ) → WindowSector costs (target_of step) → cells ≡ built_cells costs (target_of step)
      → entry ≡ flow_new step cells has previous → ArrowsLead costs (target_of step) cells exit
  pub clear : (costs step : List ℕ) (has : Bool) (previous : List ℕ) → length costs ≡ 100 → TargetIn (target_of step) → cells ≡ built_cells costs (target_of step)
      → entry ≡ flow_new step cells has previous → ClearArrows costs (target_of step) exit

-- what the flow field's `new` and `build`, one after the other, make of built cells for a step, with a previous field or none
abbrev pub flow_made : List ℕ → List ℕ → Bool → List ℕ → List ℕ
flow_made step cells has previous = flow_build cells (flow_new step cells has previous)

-- Demand 3's arrows, owed of `init` and of building a field (01, "Agreed between us"): those that are made of the built cells, with any previous field or
-- none. Left by a window, with no cost 0, they lead; and in every sector they are clear of walls (02, "Job 7").
pub record MadeArrows (costs step cells : List ℕ) : Type 0 where
  pub lead : by_window (target_of step) ≡ true → NoCostZero costs → (has : Bool) (previous : List ℕ)
      → ArrowsLead costs (target_of step) cells (flow_made step cells has previous)
  pub clear : (has : Bool) (previous : List ℕ) → ClearArrows costs (target_of step) (flow_made step cells has previous)

-- of `init`: a field that it answers, once built
abbrev pub OnceBuiltArrows : List ℕ → List ℕ → IntegrationField → Type 0
OnceBuiltArrows costs step f = MadeArrows costs step (built_field costs f).field

-- of `build`: where the field given is a started one, its positions aside, the cells that are answered
abbrev pub StartedArrows : List ℕ → IntegrationField → List ℕ → Type 0
StartedArrows costs f cells = (step : List ℕ) → init_number costs step ≡ 0 → SameStart f (started costs (target_of step)) → MadeArrows costs step cells
