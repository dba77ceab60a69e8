-- What is promised of a leg, of whatever equals the definitions.
--     fits             its steps and its sheet fit each other
--     part_hundred     a sector's part of a floor has 100 bytes
--     part_bytes       and they are bytes
--     counting_at      a later step starts from the cells that count
--     leg_planned      each part of the sheet, and demand 3 and arrows clear of walls for every sector that is written
--     refuses, plans   all that is promised of a number and a sheet
-- Assumes nothing.
use mathlib.Core.Path.{◌≡◌, sym, ap, subst, ◌∙◌}
use mathlib.Core.Bool.{Bool, false}
use mathlib.Core.Logic.{◌↔◌}
use mathlib.Core.List.{List, []}
use Prim.Native.Nat.{ℕ, suc, ◌+◌, ◌*◌, ◌/◌, ◌<◌, ◌≤◌}
use native.Mathlib.Omega.{arith}
use lib.ListN.{length, get_or, drop, length-take, length-drop}
use lib.Seq.{get_or-take, get_or-drop}
use borrow.Author.Tests.{ne_eqb}
use Rattle.route.specs.Step.{step_number}
use Rattle.route.specs.Target.{TargetIn, WindowCell}
use Rattle.route.proofs.Accepted.{accepted_step}
use Rattle.integration_field.specs.Built.{wave_count}
use Rattle.integration_started.specs.Started.{started}
use Rattle.sector.specs.Sector.{sector_field}
use Rattle.sector.specs.Promise as sector
use Rattle.sector.proofs.Planned.{sector_planned}
use Rattle.step_list.specs.Steps.{steps_of}
use Rattle.leg_plan.specs.Leg.{part, out_of_order, leg_number_by, planned_from, planned, leg_sheet_by}
use Rattle.leg_plan.specs.Inner.{LegReady}
use Rattle.step_list.specs.Steps.{step_of}
use Rattle.leg_plan.specs.Promise.{sector_at, target_at, portal_at, has_before, costs_at, built_at, built_before, LegPlannedBy}
use Rattle.step_list.proofs.Steps.{steps_count, step_of_law}
use Rattle.leg_plan.proofs.Numbers.{accepted, ready}
use Rattle.leg_counting.specs.Counting.{CountingCell}
use Rattle.leg_counting.proofs.Counting.{leg_target_in, leg_target_on}
use Rattle.leg_counting.proofs.Told.{counting_told}
use Rattle.leg_plan.proofs.Before.{later_window}
use Rattle.leg_plan.proofs.Sheet.{Fits, full_after, kept, written, built_is}

pub part_hundred : (l : List ℕ) (sector : ℕ) → length l ≡ 6400 → sector < 64 → length (part l sector) ≡ 100
part_hundred l sector e h = simp (length-take, length-drop) (omega arith)

-- the costs of a floor are bytes, and so are a sector's
pub part_bytes : (l : List ℕ) (sector : ℕ) → ((i : ℕ) → get_or l i 0 ≤ 255) → (x : ℕ) → x < 100 → get_or (part l sector) x 0 ≤ 255
part_bytes l sector bytes x h = rw (get_or-take 100 (drop (sector * 100) l) x 0 h, get_or-drop (sector * 100) l x 0) (bytes (sector * 100 + x))

module _ (sight : Bool) (floor steps sheet : List ℕ) (ready : LegReady floor steps) (sheet_full : length sheet ≡ 6400) where
  pub good : (k : ℕ) → k < length (steps_of steps) → step_number (step_of (steps_of steps) k) ≡ 0
  good k h =
      let g : k < length steps / 8 = omega (arith, steps_count steps) in
      ap step_number (step_of_law steps k g) ∙ ready.accepted k g

  pub fits : Fits (steps_of steps) sheet
  fits = record { in_floor = λ k h. (accepted_step (step_of (steps_of steps) k) (good k h)).sector_in; full = sheet_full }

  pub target_at_law : (k : ℕ) → k < length (steps_of steps) → TargetIn (target_at sight floor (steps_of steps) k)
  target_at_law k h = leg_target_in sight (has_before k) (built_before sight floor (steps_of steps) k) (step_of (steps_of steps) k) (good k h)

  -- the window cells that a later step starts from are those that count
  pub counting_at : out_of_order (steps_of steps) ≡ false → (k : ℕ) → suc k < length (steps_of steps) → (x : ℕ)
      → WindowCell (target_at sight floor (steps_of steps) (suc k)) x
      ↔ CountingCell (step_of (steps_of steps) (suc k)) (built_at sight floor (steps_of steps) k) x
  counting_at ordered k h =
      counting_told (step_of (steps_of steps) (suc k)) (built_at sight floor (steps_of steps) k) (good (suc k) h) (later_window (steps_of steps) ordered k h)

  pub leg_planned : out_of_order (steps_of steps) ≡ false → ((i : ℕ) → get_or floor i 0 ≤ 255)
      → LegPlannedBy sight floor (steps_of steps) sheet (planned sight floor (steps_of steps) sheet)
  unfolding planned
  leg_planned ordered small =
      let wrote = written sight floor (steps_of steps) fits ready.named_once in
      record {
        written = wrote;
        kept = kept sight floor (steps_of steps) false [] fits;
        same_length = full_after sight floor (steps_of steps) false [] fits ∙ sym sheet_full;
        counting = counting_at ordered;
        demand3 =
            λ k h.
            let costs = costs_at floor (steps_of steps) k in
            let target = target_at sight floor (steps_of steps) k in
            let bytes = part (planned_from sight floor (steps_of steps) false [] sheet) (sector_at (steps_of steps) k) in
            subst (λ (b : List ℕ). sector.Planned costs target b (wave_count costs (started costs target)) bytes)
            (sym (built_is sight floor (steps_of steps) k))
            (subst (sector.Planned costs target (sector_field costs target).field (wave_count costs (started costs target))) (sym (wrote k h))
            (sector_planned costs target (portal_at (steps_of steps) k)
            (part_hundred floor (sector_at (steps_of steps) k) ready.floor_full (fits.in_floor k h)) (target_at_law k h)
            (has_before k) (built_before sight floor (steps_of steps) k) (part_bytes floor (sector_at (steps_of steps) k) small)
            (leg_target_on sight (has_before k) (built_before sight floor (steps_of steps) k) (step_of (steps_of steps) k))));
      }

module _ (sight : Bool) (floor steps sheet : List ℕ) where
  -- a number, and the sheet that is left with it
  pub record Promised (n : ℕ) (after : List ℕ) : Type 0 where
    pub number_is : n ≡ leg_number_by sight floor steps sheet
    pub sheet_is : after ≡ leg_sheet_by sight floor steps sheet
    pub planned_so : n ≡ 0 → LegPlannedBy sight floor (steps_of steps) sheet after

  pub refuses : (n : ℕ) → n ≡ leg_number_by sight floor steps sheet → (n ≡ 0 → ⊥) → Promised n sheet
  refuses n e h = record { number_is = e; sheet_is = rw (← e, ne_eqb n 0 h); planned_so = λ z. absurd (h z) }

  pub plans : ((i : ℕ) → get_or floor i 0 ≤ 255) → leg_number_by sight floor steps sheet ≡ 0
      → (after : List ℕ) → after ≡ planned sight floor (steps_of steps) sheet → Promised 0 after
  plans bytes z after e =
      let j = (accepted sight floor steps sheet z).0 in
      let whole = leg_planned sight floor steps sheet (ready j) j.sheet_full j.ordered bytes in
      record { number_is = sym z; sheet_is = rw z e; planned_so = λ q. subst (LegPlannedBy sight floor (steps_of steps) sheet) (sym e) whole }
