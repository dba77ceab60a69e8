-- `bounds::bounds` meets its contract: refused by its number, or what is found for the step's target.
-- Assumes nothing.
use Rattle.std.proofs.Common.{ℕ, ◌<◌, ◌≤◌, sym, ◌∙◌, arith}
use lib.ListN.{get_or}
use Rattle.refusals.proofs.Numbers.{not_zero}
use Rattle.bounds.proofs.Laws.{refuses, accepts}
use Rattle.bounds.proofs.bounds.Goals as goal

pub returns-in-Ok : goal.returns-in-Ok
returns-in-Ok c =
    let low = c.args.low.now in
    let high = c.args.high.now in
    let step = c.args.step.now in
    let byte : (x : ℕ) → x < 100 → get_or high x 0 ≤ 255 = λ x h. omega (arith, c.type_inv.high x) in
    let p = accepts low high step byte (sym c.in-Ok.ensures.number) _ c.in-Ok.ensures.run in
    record { answer = p.0; bounded = p.1.0; sure = p.1.1.0; refused = p.1.1.1.0; eighteen = p.1.1.1.1 }

pub returns-in-Err-clause-refused : goal.returns-in-Err-clause-refused
returns-in-Err-clause-refused c =
    let a = c.args in
    let n = c.number.ensures ∙ c.in-Err.ensures.number in
    let p = refuses a.low.now a.high.now a.step.now {Bounded = ⊥} {Sure = ⊥} _ n (λ z. not_zero _ (sym c.number.ensures ∙ z)) _ c.refused.ensures in
    p.1.1.1.0

pub returns-in-Err-clause-eighteen : goal.returns-in-Err-clause-eighteen
returns-in-Err-clause-eighteen c =
    let a = c.args in
    let n = c.number.ensures ∙ c.in-Err.ensures.number in
    let p = refuses a.low.now a.high.now a.step.now {Bounded = ⊥} {Sure = ⊥} _ n (λ z. not_zero _ (sym c.number.ensures ∙ z)) _ c.refused.ensures in
    p.1.1.1.1
