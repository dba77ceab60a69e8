-- `window_steps::each_window_step` meets its contract: the step at place k is judged, and then those behind it.
-- Assumes nothing.
use Rattle.std.proofs.Common.{◌≡◌, ℕ, ◌+◌, ◌*◌, ◌-◌, List, take, drop, sym, ap, ◌∙◌}
use Rattle.std.proofs.lemmas.Result.{err_from_is_err_and}
use Rattle.refusals.proofs.Numbers.{not_zero}
use Rattle.step_list.specs.Inner.{step_at}
use Rattle.route.proofs.Rows.{tests}
use Rattle.step_list.proofs.Steps.{from_here, from_done, lent_step}
use Rattle.window_square.specs.Square.{window_step_number}
use Rattle.window_steps.proofs.each_window_step.Goals as goal

-- the step, as it is lent, is the one at its place
number : (costs : List ℕ) (sector : ℕ) (steps : List ℕ) (k : ℕ) {n : ℕ}
    → n ≡ window_step_number costs sector (take (k * 8 + 8 - k * 8) (drop (k * 8) steps)) → n ≡ window_step_number costs sector (step_at steps k)
number costs sector steps k e = e ∙ ap (window_step_number costs sector) (lent_step steps k)

pub returns-in_err-window_step_number : goal.returns-in_err-window_step_number
returns-in_err-window_step_number c =
    let p = err_from_is_err_and c.from_residual.result c.from_residual.ensures.1 in
    let n = number c.args.costs.now c.args.sector c.args.steps.now c.loop-k.k c.in_err-window_step_number.ensures in
    let above = not_zero c.in_err-window_step_number.field-0.0 in
    rw (p.1, p.2) (search (tests, c.loop-k.invariant, from_here, sym n, above))

pub loop-k-preserved : goal.loop-k-preserved
loop-k-preserved c =
    let n = number c.args.costs.now c.args.sector c.args.steps.now c.loop-k.k c.in_ok-window_step_number.ensures in
    search (tests, c.loop-k.invariant, from_here, sym n)

pub returns : goal.returns
returns c = search (c.loop-k.invariant, from_done)
