-- `leg::floor_number` meets its contract: 4 for a sector that is off the floor, else the number on the part of the floor that is cut for it.
-- Assumes nothing.
use Rattle.std.proofs.Common.{◌≡◌, ℕ, ◌+◌, ◌-◌, ◌*◌, List, length, take, drop, arith, ap, ◌∙◌}
use Rattle.route.specs.Step.{sector_of, each_step_on, step_number_on}
use Rattle.route.proofs.Rows.{tests}
use Rattle.route.proofs.Walls.{each_step_on_law}
use Rattle.leg_plan.specs.Leg.{floor_number}
use Rattle.leg.proofs.floor_number.Goals as goal

-- the part as it is lent
cut : (floor step : List ℕ) (at : ℕ) → at ≡ sector_of step * 100 → length step ≡ 8
    → step_number_on (take (at + 100 - at) (drop at floor)) step ≡ floor_number floor step
cut floor step at e h = let n : at + 100 - at ≡ 100 = omega arith in rw (n, e) (each_step_on_law _ step h)

pub returns-then-sector-gt63 : goal.returns-then-sector-gt63
unfolding each_step_on
returns-then-sector-gt63 c = search tests

pub returns : goal.returns
returns c =
    c.step_number_on.ensures ∙ cut c.args.floor.now c.args.step.now _ (ap (λ (n : ℕ). n * 100) c.from-at.ensures) (omega arith)
