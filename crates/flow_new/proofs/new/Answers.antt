-- `flow_new::new` meets its contract: the numbers in the table's order, and the sheet beside each.
-- Assumes nothing.
use Rattle.std.proofs.Common.{is_some, sym, ◌∙◌, arith}
use Rattle.std.proofs.lemmas.Result.{err_from_is_err_and}
use Rattle.refusals.proofs.Numbers.{above_zero}
use Rattle.route.proofs.Targets.{made_window, made_held, window_held}
use Rattle.flow_byte.specs.Previous.{given}
use Rattle.flow_new.proofs.Starts.{step_bytes}
use Rattle.flow_new.proofs.Numbers.{refused_2, refused_step, refused_12, accepted}
use Rattle.flow_new.proofs.new.Goals as goal

pub returns-in_default : goal.returns-in_default
returns-in_default c =
    let a = c.args in
    let r = refused_2 a.step.now a.field.field (is_some a.previous) (given a.previous) a.sheet.now c.in_default.ensures.cases in
    record { number = r.number; sheet = r.sheet }

pub returns-in_err-step_number : goal.returns-in_err-step_number
returns-in_err-step_number c =
    let a = c.args in
    let p = err_from_is_err_and c.from_residual.result c.from_residual.ensures.1 in
    let whole = c.in-Some.ensures.cases in
    let r = refused_step a.step.now a.field.field (is_some a.previous) (given a.previous) a.sheet.now whole.long _ c.in_err-step_number.ensures (above_zero _) in
    record { number = rw (p.1, p.2) r.number; sheet = whole.same ∙ r.sheet }

pub returns-in_err-previous : goal.returns-in_err-previous
returns-in_err-previous c =
    let a = c.args in
    let p = err_from_is_err_and c.from_residual-in_err-previous.result c.from_residual-in_err-previous.ensures.1 in
    let whole = c.in-Some.ensures.cases in
    let good = c.in_ok-step_number.ensures in
    let r = refused_12 a.step.now a.field.field (is_some a.previous) (given a.previous) a.sheet.now whole.long 0 good (omega arith)
    _ c.in_err-previous.ensures.refused (above_zero _) in
    record { number = rw (p.1, p.2) r.number; sheet = whole.same ∙ r.sheet }

pub new_cells-requires : goal.new_cells-requires
new_cells-requires c =
    let step = c.args.step.now in
    let held = made_held step c.new-route_step.result c.as_target.result c.new-route_step.ensures c.as_target.ensures (sym c.in_ok-step_number.ensures) in
    rw c.window-window.ensures (window_held c.as_target.result held)

pub returns : goal.returns
returns c =
    let a = c.args in
    let whole = c.in-Some.ensures.cases in
    let previous = c.in_ok-previous.ensures in
    let window = made_window a.step.now c.new-route_step.result c.as_target.result c.new-route_step.ensures c.as_target.ensures in
    let bytes = step_bytes a.step.now a.field.field (is_some a.previous) (given a.previous) in
    let r = accepted a.step.now a.field.field (is_some a.previous) (given a.previous) a.sheet.now whole.long 0 c.in_ok-step_number.ensures (omega arith)
    0 previous.refused (omega arith) _
    (c.new_cells.ensures ∙ rw (c.window-window.ensures, window, c.new-route_step.ensures, previous.same.0, previous.same.1) bytes) in
    record { number = r.number; sheet = r.sheet }
