-- All that is promised of a leg's number and sheet: what `leg_plan` proves of them, that the arrows of a planned leg lead into the goal's sector, and by
-- what 15 and 16 are told.
-- Assumes nothing.
use mathlib.Core.Path.{◌≡◌, sym, subst}
use mathlib.Core.Bool.{Bool, true, false}
use mathlib.Core.Logic.{◌↔◌}
use mathlib.Core.List.{List}
use Prim.Native.Nat.{ℕ, ◌≤◌}
use lib.ListN.{get_or}
use Rattle.step_list.specs.Steps.{steps_of}
use Rattle.leg_plan.specs.Leg.{leg_number_by, planned, leg_sheet_by}
use Rattle.leg_plan.specs.Promise.{LegPlannedBy}
use Rattle.leg_plan.specs.Closed.{LegClosed}
use Rattle.leg_plan.specs.Walls.{LegOnWall}
use Rattle.leg_plan.proofs.Walls.{leg_told}
use Rattle.leg_plan.proofs.Closed.{fifteen_told}
use Rattle.leg_plan.proofs.Numbers.{Judged, accepted}
use Rattle.leg_plan.proofs.Planned as plan
use Rattle.leg_journey.specs.Journey.{Arrives}
use Rattle.leg_journey.proofs.Arrives.{leg_arrives, goal_arrives}

arrives : (sight : Bool) (floor steps sheet : List ℕ) → Judged floor steps sheet → ((i : ℕ) → get_or floor i 0 ≤ 255)
    → Arrives sight floor (steps_of steps) (planned sight floor (steps_of steps) sheet)
arrives true floor steps sheet j bytes = leg_arrives floor steps sheet j bytes
arrives false floor steps sheet j bytes = goal_arrives floor steps sheet j bytes

module _ (sight : Bool) (floor steps sheet : List ℕ) where
  abbrev Promised : ℕ → List ℕ → Type 0
  Promised n after =
      (n ≡ leg_number_by sight floor steps sheet)
      × ((after ≡ leg_sheet_by sight floor steps sheet)
      × ((n ≡ 0 → LegPlannedBy sight floor (steps_of steps) sheet after)
      × ((n ≡ 0 → Arrives sight floor (steps_of steps) after)
      × (((n ≡ 15) ↔ LegClosed sight floor steps sheet) × ((n ≡ 16) ↔ LegOnWall floor steps sheet)))))

  -- 15 and 16, by what they are told by
  told : (n : ℕ) → n ≡ leg_number_by sight floor steps sheet → ((n ≡ 15) ↔ LegClosed sight floor steps sheet) × ((n ≡ 16) ↔ LegOnWall floor steps sheet)
  told n e = rw e (fifteen_told sight floor steps sheet, leg_told sight floor steps sheet)

  pub refuses : (n : ℕ) → n ≡ leg_number_by sight floor steps sheet → (n ≡ 0 → ⊥) → Promised n sheet
  refuses n e h =
      let p = plan.refuses sight floor steps sheet n e h in
      (p.number_is, (p.sheet_is, (p.planned_so, (λ z. absurd (h z), told n e))))

  -- the costs of a floor are bytes
  pub plans : ((i : ℕ) → get_or floor i 0 ≤ 255) → leg_number_by sight floor steps sheet ≡ 0
      → (after : List ℕ) → after ≡ planned sight floor (steps_of steps) sheet → Promised 0 after
  plans bytes z after e =
      let p = plan.plans sight floor steps sheet bytes z after e in
      let j = (accepted sight floor steps sheet z).0 in
      let along = subst (Arrives sight floor (steps_of steps)) (sym e) (arrives sight floor steps sheet j bytes) in
      (p.number_is, (p.sheet_is, (p.planned_so, (λ q. along, told 0 (sym z)))))
