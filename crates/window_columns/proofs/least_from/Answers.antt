-- `window_columns::least_from` meets its contract: no window, or the least of its cells.
-- Assumes nothing.
use Rattle.std.proofs.Common.{◌≡◌, ◌/◌, ◌<◌, true, false, length, arith, sym, ap, ◌∙◌}
use borrow.Author.Tests.{lt-ltb, le-ltb}
use lib.Dec.{ltb}
use Rattle.route.specs.Step.{window_cells}
use Rattle.route.specs.Target.{window_of}
use Rattle.route.specs.Inner.{held_cells}
use Rattle.route.proofs.Targets.{target_window, held_window}
use Rattle.step_list.specs.Steps.{steps_of, step_of}
use Rattle.step_list.proofs.Steps.{steps_count, step_of_law}
use Rattle.window_square.specs.Square.{least_built}
use Rattle.window_columns.proofs.least_from.Goals as goal

pub returns-then-i-steps : goal.returns-then-i-steps
returns-then-i-steps c =
    let steps = c.args.steps.now in
    let beyond : ltb c.args.i (length (steps_of steps)) ≡ false = le-ltb c.args.i (length (steps_of steps)) (omega (arith, steps_count steps)) in
    rw beyond

pub returns : goal.returns
returns c =
    let t = c.target_at in
    let steps = c.args.steps.now in
    let i = c.args.i in
    let l : i < length steps / 8 = omega arith in
    let used : ltb i (length (steps_of steps)) ≡ true = lt-ltb i (length (steps_of steps)) (omega (arith, steps_count steps)) in
    let cells : held_cells c.window.result ≡ window_cells (step_of (steps_of steps) i)
    = ap held_cells c.window.ensures ∙ held_window t.result ∙ ap window_of (t.ensures.1 ∙ target_window _ (c.requires.windows i l))
    ∙ ap window_cells (sym (step_of_law steps i l)) in
    rw used (c.least_built.ensures ∙ ap (least_built c.args.cells.now) cells)
