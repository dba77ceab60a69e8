-- `hanjolum::hanjolum_flow_new` meets its contract: a previous field is lent as an Option, and so is what is promised turned back.
-- Assumes nothing.
use Rattle.std.proofs.Common.{◌∙◌}
use Rattle.hanjolum.proofs.Lent.{number_lent, sheet_lent}
use Rattle.hanjolum.proofs.hanjolum_flow_new.Goals as goal

pub returns-clause-number : goal.returns-clause-number
returns-clause-number c =
    let a = c.args in
    c.number.ensures ∙ rw c.then_some.ensures at c.new.ensures.number ∙ number_lent a.step.now a.field.field a.sheet.now a.previous a.has_previous

pub returns-clause-sheet : goal.returns-clause-sheet
returns-clause-sheet c =
    let a = c.args in
    rw c.then_some.ensures at c.new.ensures.sheet ∙ sheet_lent a.step.now a.field.field a.sheet.now a.previous a.has_previous
