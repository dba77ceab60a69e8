-- `window_steps::window_step_number` meets its contract: 4 to 8 and 16, then 20.
-- Assumes nothing.
use Rattle.std.proofs.Common.{◌≡◌, ℕ, List, true, false, length, sym, ◌∙◌}
use lib.Dec.{eqb}
use borrow.Author.Tests.{eq-eqb, ne_eqb}
use Rattle.std.proofs.lemmas.Result.{err_from_is_err_and}
use Rattle.refusals.proofs.Numbers.{not_zero}
use Rattle.route.specs.Step.{sector_of, is_window, each_step_on, step_number_on}
use Rattle.route.proofs.Walls.{each_step_on_law}
use Rattle.window_square.proofs.Numbers.{step_number_law}
use Rattle.window_steps.proofs.window_step_number.Goals as goal
use Rattle.window_steps.proofs.window_step_number.Goals.{then-step-ne1-via-then-step-ne1, then-step-ne1-via-else-step-ne1+then-step-sector}

-- 4 to 8 and 16 are judged; and where the number is 0 they are not due
judged : (costs step : List ℕ) {n : ℕ} → length step ≡ 8 → n ≡ step_number_on costs step → n ≡ each_step_on costs step
judged costs step long e = e ∙ each_step_on_law costs step long

good : (costs step : List ℕ) → length step ≡ 8 → 0 ≡ step_number_on costs step → eqb (each_step_on costs step) 0 ≡ true
good costs step long e = eq-eqb _ 0 (sym (judged costs step long e))

pub returns-in_err-step_number_on : goal.returns-in_err-step_number_on
returns-in_err-step_number_on c =
    let p = err_from_is_err_and c.from_residual.result c.from_residual.ensures.1 in
    let j = judged c.args.costs.now c.args.step.now c.requires c.in_err-step_number_on.ensures in
    let refused : eqb (each_step_on c.args.costs.now c.args.step.now) 0 ≡ false = ne_eqb _ 0 (λ z. not_zero _ (j ∙ z)) in
    rw (p.1, p.2) (j ∙ sym (step_number_law c.args.costs.now c.args.sector c.args.step.now ∙ rw refused))

pub returns-then-step-ne1 : goal.returns-then-step-ne1
returns-then-step-ne1 c =
    let g = good c.args.costs.now c.args.step.now c.requires c.in_ok-step_number_on.ensures in
    let law = step_number_law c.args.costs.now c.args.sector c.args.step.now in
    elim c.then-step-ne1.branch [
      | then-step-ne1-via-then-step-ne1 w ↦
          let goal : is_window c.args.step.now ≡ false = ne_eqb _ 1 w.if-step-ne1.true in
          sym (law ∙ rw (g, goal))
      | then-step-ne1-via-else-step-ne1+then-step-sector w ↦
          let window : is_window c.args.step.now ≡ true = eq-eqb _ 1 w.if-step-ne1.false in
          let other : eqb (sector_of c.args.step.now) c.args.sector ≡ false = ne_eqb _ _ w.if-step-sector.true in
          sym (law ∙ rw (g, window, other))
    ]

pub returns : goal.returns
returns c =
    let g = good c.args.costs.now c.args.step.now c.requires c.in_ok-step_number_on.ensures in
    let window : is_window c.args.step.now ≡ true = eq-eqb _ 1 c.if-step-ne1.false in
    let same : eqb (sector_of c.args.step.now) c.args.sector ≡ true = eq-eqb _ _ c.if-step-sector.false in
    sym (step_number_law c.args.costs.now c.args.sector c.args.step.now ∙ rw (g, window, same))
