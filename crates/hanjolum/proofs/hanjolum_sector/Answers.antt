-- `hanjolum::hanjolum_sector` meets its contract: a previous field is lent as an Option, and so is what is promised turned back.
-- Assumes nothing.
use Rattle.std.proofs.Common.{◌≡◌, ◌∙◌, true, false, is_some}
use Rattle.flow_byte.specs.Previous.{given}
use Rattle.sector.proofs.Lent.{lent_answer, lent_sheet}
use Rattle.hanjolum.proofs.Lent.{some_lent, given_lent}
use Rattle.hanjolum.proofs.hanjolum_sector.Goals as goal

pub returns-clause-answer : goal.returns-clause-answer
returns-clause-answer c =
    let a = c.args in
    let s : is_some c.then_some.result ≡ a.has_previous = rw c.then_some.ensures (some_lent a.previous a.has_previous) in
    let g : a.has_previous ≡ true → given c.then_some.result ≡ a.previous.now = rw c.then_some.ensures (given_lent a.previous a.has_previous) in
    c.plan_sector.ensures.answer
    ∙ lent_answer true a.costs.now a.step.now a.sheet.now c.then_some.result a.previous.now a.has_previous s g

pub returns-clause-sheet : goal.returns-clause-sheet
returns-clause-sheet c =
    let a = c.args in
    let s : is_some c.then_some.result ≡ a.has_previous = rw c.then_some.ensures (some_lent a.previous a.has_previous) in
    let g : a.has_previous ≡ true → given c.then_some.result ≡ a.previous.now = rw c.then_some.ensures (given_lent a.previous a.has_previous) in
    c.plan_sector.ensures.sheet
    ∙ lent_sheet true a.costs.now a.step.now a.sheet.now c.then_some.result a.previous.now a.has_previous s g

pub returns-clause-seventeen : goal.returns-clause-seventeen
returns-clause-seventeen c =
    let s : is_some c.then_some.result ≡ c.args.has_previous = rw c.then_some.ensures (some_lent c.args.previous c.args.has_previous) in
    rw s at c.plan_sector.ensures.seventeen
