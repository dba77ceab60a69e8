-- `flow_build::build` meets its contract: the one number, and the sheet filled or left.
-- Assumes nothing.
use Rattle.std.proofs.Common.{length, eq-eqb, ne_eqb, ap, ◌∙◌}
use Rattle.flow_arrows.proofs.Lead.{build_arrows}
use Rattle.flow_byte.specs.Look.{flow_build}
use Rattle.flow_build.specs.Flow.{build_number}
use Rattle.flow_build.proofs.build.Goals as goal

pub returns-in_default-clause-number : goal.returns-in_default-clause-number
unfolding build_number
returns-in_default-clause-number c = rw (ne_eqb (length c.args.sheet.now) 100 c.in_default.ensures.cases)

pub returns-in_default-clause-sheet : goal.returns-in_default-clause-sheet
unfolding build_number
returns-in_default-clause-sheet c = rw (ne_eqb (length c.args.sheet.now) 100 c.in_default.ensures.cases)

pub returns-in_default-clause-arrows : goal.returns-in_default-clause-arrows
returns-in_default-clause-arrows c =
    let a = c.args in
    build_arrows a.field.field a.sheet.now a.sheet.now (λ h. absurd (c.in_default.ensures.cases h))

pub returns-clause-number : goal.returns-clause-number
unfolding build_number
returns-clause-number c = rw (eq-eqb (length c.args.sheet.now) 100 c.in-Some.ensures.cases.long)

pub returns-clause-sheet : goal.returns-clause-sheet
unfolding build_number
returns-clause-sheet c =
    let whole = c.in-Some.ensures.cases in
    rw (eq-eqb (length c.args.sheet.now) 100 whole.long) (c.build_cells.ensures ∙ ap (flow_build c.args.field.field) whole.same)

pub returns-clause-arrows : goal.returns-clause-arrows
returns-clause-arrows c =
    let a = c.args in
    build_arrows a.field.field a.sheet.now _ (λ h. c.build_cells.ensures ∙ ap (flow_build a.field.field) c.in-Some.ensures.cases.same)
