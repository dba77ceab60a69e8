-- `window_costs::column_at` meets its contract: no window at that place, or the least costs in the field that is built for it.
-- Assumes nothing.
use Rattle.std.proofs.Common.{◌≡◌, ℕ, ◌/◌, ◌<◌, List, map, length, arith, sym, ap, ◌∙◌}
use Rattle.utilities.specs.Lists.{below}
use Rattle.route.specs.Target.{target_of, to_window, window_of}
use Rattle.route.specs.Step.{window_cells}
use Rattle.route.specs.Inner.{held_cells}
use Rattle.route.proofs.Targets.{target_window, held_window, window_held}
use Rattle.step_list.specs.Inner.{step_at}
use Rattle.step_list.specs.Steps.{steps_of, step_of}
use Rattle.step_list.proofs.Steps.{steps_count, step_of_law}
use Rattle.integration_field.specs.declared.IntegrationField.{IntegrationField}
use Rattle.flow_arrows.specs.Promise.{built_cells}
use Rattle.window_square.specs.Inner.{least_from}
use Rattle.window_square.proofs.Columns.{column_unused, column_used}
use Rattle.window_costs.proofs.column_at.Goals as goal

pub returns-then-j-steps : goal.returns-then-j-steps
returns-then-j-steps c =
    let steps = c.args.steps.now in
    column_unused c.args.costs.now (steps_of steps) c.args.j (omega (arith, steps_count steps))

pub build_window-built-requires : goal.build_window-built-requires
build_window-built-requires c =
    rw c.window-window.ensures (window_held c.target_at.result c.target_at.ensures.0)

pub returns : goal.returns
returns c =
    let costs = c.args.costs.now in
    let steps = c.args.steps.now in
    let j = c.args.j in
    let l : j < length steps / 8 = omega arith in
    let t = c.target_at in
    let marked = target_window (step_at steps j) (c.requires.each.windows j l) in
    let cells : held_cells c.window-window.result ≡ window_cells (step_at steps j)
    = ap held_cells c.window-window.ensures ∙ held_window t.result ∙ ap window_of (t.ensures.1 ∙ marked) in
    let target : to_window (held_cells c.window-window.result) ≡ target_of (step_of (steps_of steps) j)
    = ap to_window cells ∙ sym marked ∙ ap target_of (sym (step_of_law steps j l)) in
    let built : c.build_window-built.result.field ≡ built_cells costs (target_of (step_of (steps_of steps) j))
    = ap (λ (f : IntegrationField). f.field) c.build_window-built.ensures ∙ ap (built_cells costs) target in
    c.column_of.ensures ∙ ap (λ (cells : List ℕ). map (least_from cells (steps_of steps)) (below 8)) built
    ∙ column_used costs (steps_of steps) j (omega (arith, steps_count steps))
