-- `leg::write_step` meets its contract: the sector's own part of the sheet is lent, and takes the step's bytes.
-- Assumes nothing.
use Rattle.std.proofs.Common.{ℕ, ◌+◌, ◌-◌, ◌*◌, is_some, arith, ap, length-drop}
use lib.ListN.{length-take}
use Rattle.flow_byte.specs.Previous.{given}
use Rattle.route.specs.declared.RouteStep.{RouteStep}
use Rattle.route.proofs.Targets.{window_held}
use Rattle.leg.proofs.Step.{made_target, built_step, wrote_step}
use Rattle.leg.proofs.write_step.Goals as goal

pub build_step-built-requires : goal.build_step-built-requires
build_step-built-requires c =
    let p = c.args.previous in
    let made = made_target c.args.sight c.args.step.now c.requires.accepted (is_some p) (given p) c.leg_target-target.ensures in
    let own = ap (λ (s : RouteStep). s.sector) c.new-sector.ensures in
    record { floor_full = c.requires.floor_full; sector_in = rw own made.sector_in; target_held = made.held }

pub write_part-requires : goal.write_part-requires
write_part-requires c =
    let p = c.args.previous in
    let made = made_target c.args.sight c.args.step.now c.requires.accepted (is_some p) (given p) c.leg_target-target.ensures in
    let own = ap (λ (s : RouteStep). s.sector) c.new-sector.ensures in
    record {
      held = rw c.window.ensures (window_held _ made.held);
      full = simp (length-take, length-drop) (omega (arith, made.sector_in, own, c.requires.sheet_full));
    }

pub returns-clause-cells : goal.returns-clause-cells
returns-clause-cells c =
    let p = c.args.previous in
    let made = made_target c.args.sight c.args.step.now c.requires.accepted (is_some p) (given p) c.leg_target-target.ensures in
    let own = ap (λ (s : RouteStep). s.sector) c.new-sector.ensures in
    built_step c.args.sight c.args.floor.now c.args.step.now (is_some p) (given p) made own c.build_step-built.ensures

pub slice_bounds-write_part-end : goal.slice_bounds-write_part-end
slice_bounds-write_part-end c =
    let p = c.args.previous in
    let made = made_target c.args.sight c.args.step.now c.requires.accepted (is_some p) (given p) c.leg_target-target.ensures in
    let own = ap (λ (s : RouteStep). s.sector) c.new-sector.ensures in
    omega (arith, made.sector_in, own, c.requires.sheet_full)

pub returns-clause-wrote : goal.returns-clause-wrote
returns-clause-wrote c =
    let p = c.args.previous in
    let made = made_target c.args.sight c.args.step.now c.requires.accepted (is_some p) (given p) c.leg_target-target.ensures in
    let own = ap (λ (s : RouteStep). s.sector) c.new-sector.ensures in
    let at : ℕ = c.new-sector.result.sector * 100 in
    let written = rw (c.new.ensures, c.window.ensures) at c.write_part.ensures in
    wrote_step c.args.sight c.args.floor.now c.args.step.now (is_some p) (given p) made own c.build_step-built.ensures c.args.sheet.now written
    (at + 100 - at) (omega arith)
