-- What is promised of a sector's run, and of the sector call.
--     bytes_hundred      100 bytes are written
--     none_read          without a previous field, what is lent in its place plays no part
--     run_bytes          the bytes that the run of a parsed step leaves
--     sector_planned     demand 3, and arrows clear of walls, of the definitions
--     refuses, ran       all that is promised of a refused call, and of an accepted one by its run
--     planned_without    what is promised besides of a sector planned without sight, of the definitions
--     told_without       and of the call
--     window_same        which plans a step with a window as it is with sight
-- Assumes nothing.
use mathlib.Core.Path.{◌≡◌, refl, sym, ap, ◌∙◌}
use mathlib.Core.Bool.{Bool, true, false}
use mathlib.Core.Logic.{◌↔◌}
use Rattle.std.specs.Prelude.{Option}
use mathlib.Core.List.{List}
use Prim.Native.Nat.{ℕ, zero, suc, ◌<◌, ◌≤◌}
use lib.ListN.{length, get_or}
use borrow.Author.Tests.{ne_eqb}
use Rattle.utilities.proofs.Lists.{table_length}
use Rattle.route.specs.declared.PortalWindow.{PortalWindow}
use Rattle.route.specs.Step.{goal_of, is_window, portal_of, route_step, step_number}
use Rattle.route.specs.Target.{Target, to_corner, window_of, is_sightless, without_sight, by_sight, TargetIn, target_of, TargetTold}
use Rattle.route.proofs.Targets.{target_goal, target_window, target_in, sight_in, sight_window, without_sightless, goal_end, window_told}
use Rattle.route.proofs.Targets as targets
use Rattle.integration_field.specs.declared.IntegrationField.{IntegrationField}
use Rattle.integration_field.specs.declared.BuildAnswer.{BuildAnswer}
use Rattle.integration_field.specs.Built.{wave_count}
use Rattle.integration_field.specs.Answer.{refusal, answer_of}
use Rattle.integration_field.specs.Promise.{BuildRefused}
use Rattle.integration_field.proofs.Answers.{build_refused}
use Rattle.integration_started.specs.Started.{started}
use Rattle.integration_walks.specs.Promise.{StartedPositions}
use Rattle.integration_walks.specs.Goal.{GoalCosts, GoalPositions}
use Rattle.integration_walks.proofs.Promise.{demand3, started_positions, goal_told}
use Rattle.flow_arrows.specs.Arrows.{CellsMarked, ArrowsLead}
use Rattle.flow_arrows.specs.Promise.{NoCostZero}
use Rattle.flow_byte.specs.New.{window_bits, new_byte, new_bytes}
use Rattle.flow_byte.specs.Look.{built_byte, flow_build}
use Rattle.flow_new.proofs.Starts.{step_bytes}
use Rattle.flow_arrows.proofs.Clear.{OnEdge, arrows_clear, target_on}
use Rattle.flow_arrows.proofs.Lead.{arrows_led, marked_told, arrows_lead}
use Rattle.sector.specs.Sector.{sector_number, sector_field, sector_bytes, sector_answer, sector_sheet, sector_answer_by, sector_sheet_by}
use Rattle.sector.specs.Inner.{flow_bytes}
use Rattle.sector.specs.Previous.{WithoutPrevious, TargetOnWall}
use Rattle.sector.specs.Promise.{Planned, PlannedWithout}
use Rattle.sector.proofs.Numbers.{accepted, seventeen_told, sixteen_due}

module _ (costs : List ℕ) (target : Target) (portal : PortalWindow) where
  pub bytes_hundred : (has : Bool) (previous : List ℕ) → length (sector_bytes costs target portal has previous) ≡ 100
  unfolding sector_bytes flow_build
  bytes_hundred has previous =
      let cells = (sector_field costs target).field in
      table_length (λ i. built_byte cells i (get_or (new_bytes portal (window_of target) cells has previous) i 0)) 100

  -- without a previous field, what is lent in its place is not read
  pub none_read : (previous other : List ℕ) → sector_bytes costs target portal false previous ≡ sector_bytes costs target portal false other
  unfolding sector_bytes new_bytes new_byte window_bits
  none_read previous other = refl

  module _ (full : length costs ≡ 100) (inside : TargetIn target) (has : Bool) (previous : List ℕ) where
    -- costs are bytes
    pub sector_planned : ((x : ℕ) → x < 100 → get_or costs x 0 ≤ 255) → OnEdge portal target
        → Planned costs target (sector_field costs target).field (wave_count costs (started costs target)) (sector_bytes costs target portal has previous)
    unfolding sector_bytes
    sector_planned byte on = record {
      walks = demand3 costs target full inside;
      arrows = λ w z. arrows_lead costs target (record { full = full; no_zero = z; byte = byte; target_in = inside; is_by_window = w }) portal has previous;
      clear = arrows_clear costs target full inside portal on has previous;
    }

    -- without sight; costs are bytes
    module _ (sightless : is_sightless target ≡ true) (byte : (x : ℕ) → x < 100 → get_or costs x 0 ≤ 255) where
      pub sector_leads : NoCostZero costs → ArrowsLead costs target (sector_field costs target).field (sector_bytes costs target portal has previous)
      unfolding sector_bytes
      sector_leads no_zero =
          arrows_led costs target (record { full = full; no_zero = no_zero; byte = byte; target_in = inside; sightless = sightless }) portal has previous

      pub sector_marked : CellsMarked costs target (sector_field costs target).field (sector_bytes costs target portal has previous)
      unfolding sector_bytes
      sector_marked = marked_told costs target full inside sightless byte portal has previous

-- the bytes of a parsed step's run: those of its window, or of no window where it has none
pub run_bytes : (sight : Bool) (costs step : List ℕ) (has : Bool) (previous : List ℕ)
    → let target = by_sight sight (target_of step) in
    flow_bytes (route_step step).portal (window_of target) (sector_field costs target).field has previous
    ≡ sector_bytes costs target (portal_of step) has previous
unfolding sector_bytes
run_bytes sight costs step has previous =
    let cells = (sector_field costs (by_sight sight (target_of step))).field in
    rw (sight_window sight (target_of step)) (ap (flow_build cells) (step_bytes step cells has previous))

-- a step's window cells lie on its boundary's edge, with sight or without
sight_on : (sight : Bool) (step : List ℕ) → OnEdge (portal_of step) (by_sight sight (target_of step))
sight_on sight step x m = target_on step x (rw (sight_window sight (target_of step)) at m)

-- what is promised of a sector planned without sight, of the definitions; costs are bytes
module _ (costs step : List ℕ) (full : length costs ≡ 100) (good : step_number step ≡ 0) (byte : (x : ℕ) → x < 100 → get_or costs x 0 ≤ 255)
    (has : Bool) (previous : List ℕ) where
  abbrev aim : Target
  aim = without_sight (target_of step)

  aim_in : TargetIn aim
  aim_in = sight_in false (target_of step) (target_in step good)

  by_goal : is_window step ≡ false
      → GoalCosts costs (goal_of step) (sector_field costs aim).field
      × GoalPositions costs (goal_of step) (sector_field costs aim).field (sector_field costs aim).positions
  by_goal e =
      let t : aim ≡ to_corner (goal_of step) = ap without_sight (target_goal step e) in
      rw t (goal_told costs (goal_of step) full (rw t at aim_in) byte)

  pub planned_without : PlannedWithout costs step (sector_field costs aim) (sector_bytes costs aim (portal_of step) has previous)
  planned_without =
      let sightless = without_sightless (target_of step) in
      record {
        leads = sector_leads costs aim (portal_of step) full aim_in has previous sightless byte;
        marked = sector_marked costs aim (portal_of step) full aim_in has previous sightless byte;
        goal_ends = goal_end step;
        goal_costs = λ e. (by_goal e).0;
        goal_positions = λ e. (by_goal e).1;
      }

module _ (sight : Bool) (costs step : List ℕ) (has : Bool) (previous before : List ℕ) where
  abbrev target : Target
  target = by_sight sight (target_of step)

  abbrev number : ℕ
  number = sector_number costs step has previous before

  -- an answer, and the sheet that is left with it: its target, and 16 and 17, by what they are told by
  abbrev Promised : BuildAnswer → List ℕ → Type 0
  Promised r bytes = record {
    answer : r ≡ sector_answer_by sight costs step has previous before;
    sheet : bytes ≡ sector_sheet_by sight costs step has previous before;
    planned : r.number ≡ 0 → Planned costs target r.field.field r.waves bytes;
    positions : r.number ≡ 0 → StartedPositions costs target r.field.field r.field.positions;
    refused : (r.number ≡ 0 → ⊥) → BuildRefused r;
    target : r.number ≡ 0 → TargetTold step;
    sixteen : (r.number ≡ 16) ↔ TargetOnWall costs step before;
    seventeen : (r.number ≡ 17) ↔ WithoutPrevious costs step has before;
  }

  pub refuses : (n : ℕ) → n ≡ number → (n ≡ 0 → ⊥) → (r : BuildAnswer) → r ≡ refusal n → (bytes : List ℕ) → bytes ≡ before → Promised r bytes
  refuses zero e h r q bytes w = absurd (h refl)
  refuses (suc n) e h r q bytes w =
      let told : r.number ≡ number = ap (λ (b : BuildAnswer). b.number) q ∙ e in
      let not-zero : r.number ≡ 0 → ⊥ = λ z. h (e ∙ sym told ∙ z) in
      record {
        answer = q ∙ rw (← e);
        sheet = w ∙ rw (← e, ne_eqb (suc n) 0 h);
        planned = λ z. absurd (not-zero z);
        positions = λ z. absurd (not-zero z);
        refused = build_refused (suc n) costs (started costs target) r q;
        target = λ z. absurd (not-zero z);
        sixteen = rw told (sixteen_due costs step has previous before);
        seventeen = rw told (seventeen_told costs step has previous before);
      }

  -- costs are bytes
  module _ (byte : (x : ℕ) → x < 100 → get_or costs x 0 ≤ 255) (zero-number : 0 ≡ number) where
    accepts : (b : BuildAnswer) (bytes : List ℕ) → b ≡ answer_of 0 costs (started costs target)
        → bytes ≡ sector_bytes costs target (portal_of step) has previous → Promised b bytes
    accepts b bytes e w =
        let ok = accepted costs step has previous before (sym zero-number) in
        let inside = sight_in sight (target_of step) (target_in step ok.step_good) in
        let told : b.number ≡ number = ap (λ (a : BuildAnswer). a.number) e ∙ zero-number in
        record {
          answer = e ∙ rw (← zero-number);
          sheet = w ∙ rw (← zero-number);
          planned = λ _. rw (e, w) (sector_planned costs target (portal_of step) ok.costs_hundred inside has previous byte (sight_on sight step));
          positions = λ _. rw e (started_positions costs target ok.costs_hundred inside);
          refused = build_refused 0 costs (started costs target) b e;
          target = λ _. record { goal = targets.goal_told step ok.step_good; window = window_told step ok.step_good };
          sixteen = rw told (sixteen_due costs step has previous before);
          seventeen = rw told (seventeen_told costs step has previous before);
        }

    -- what the run leaves of the step, as it is parsed, and of the costs and the previous field, as they are taken
    pub ran : (own : List ℕ) (t : Target) (portal : Option PortalWindow) (lent : Bool) (numbers : List ℕ) → own ≡ costs → t ≡ target
        → portal ≡ (route_step step).portal → lent ≡ has → numbers ≡ previous → (b : BuildAnswer) (bytes : List ℕ)
        → b ≡ answer_of 0 own (started own t) → bytes ≡ flow_bytes portal (window_of t) (sector_field own t).field lent numbers → Promised b bytes
    ran own t portal lent numbers c u p h n b bytes e w =
        accepts b bytes (rw (c, u) at e) ((rw (c, u, p, h, n) at w) ∙ run_bytes sight costs step has previous)

-- what the call without sight adds, by its answer and the sheet that is left; costs are bytes
module _ (costs step : List ℕ) (byte : (x : ℕ) → x < 100 → get_or costs x 0 ≤ 255) (has : Bool) (previous sheet : List ℕ)
    (r : BuildAnswer) (bytes : List ℕ)
    (answer : r ≡ sector_answer_by false costs step has previous sheet) (left : bytes ≡ sector_sheet_by false costs step has previous sheet) where
  answered_number : (n : ℕ) (f : IntegrationField) → (answer_of n costs f).number ≡ n
  answered_number zero f = refl
  answered_number (suc n) f = refl

  pub told_without : r.number ≡ 0 → PlannedWithout costs step r.field bytes
  told_without z =
      let n : sector_number costs step has previous sheet ≡ 0 = sym (answered_number _ _) ∙ sym (ap (λ (b : BuildAnswer). b.number) answer) ∙ z in
      let ok = accepted costs step has previous sheet n in
      let answer_is : r ≡ answer_of 0 costs (started costs (without_sight (target_of step))) = answer ∙ rw n in
      let left_is : bytes ≡ sector_bytes costs (without_sight (target_of step)) (portal_of step) has previous = left ∙ rw n in
      rw (answer_is, left_is) (planned_without costs step ok.costs_hundred ok.step_good byte has previous)

  -- a step with a window is planned as it is with sight
  pub window_same : is_window step ≡ true
      → (r ≡ sector_answer costs step has previous sheet) × (bytes ≡ sector_sheet costs step has previous sheet)
  window_same e =
      let same : without_sight (target_of step) ≡ target_of step = ap without_sight (target_window step e) ∙ sym (target_window step e) in
      (answer ∙ rw same, left ∙ rw same)
