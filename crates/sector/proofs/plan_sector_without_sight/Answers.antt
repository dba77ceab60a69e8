-- `sector::plan_sector_without_sight` meets its contract: what `plan_by_sight` leaves without sight, and what that says of the definitions.
-- Costs are bytes.
-- Assumes nothing.
use Rattle.std.proofs.Common.{arith, is_some}
use Rattle.flow_byte.specs.Previous.{given}
use Rattle.sector.proofs.Planned.{told_without, window_same}
use Rattle.sector.proofs.plan_sector_without_sight.Goals as goal

pub returns-clause-without : goal.returns-clause-without
returns-clause-without c =
    let a = c.args in
    let e = c.plan_by_sight.ensures in
    told_without a.costs.now a.step.now (λ x h. omega (arith, c.type_inv.costs x)) (is_some a.previous) (given a.previous) a.sheet.now _ _ e.answer e.sheet

pub returns-clause-window : goal.returns-clause-window
returns-clause-window c =
    let a = c.args in
    let e = c.plan_by_sight.ensures in
    window_same a.costs.now a.step.now (λ x h. omega (arith, c.type_inv.costs x)) (is_some a.previous) (given a.previous) a.sheet.now _ _ e.answer e.sheet
