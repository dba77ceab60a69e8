-- `integration_build::buildable` meets its contract. Each return is a line of the table.
-- Assumes nothing.
use mathlib.Core.Path.{sym, ◌∙◌}
use borrow.Author.Rules.{rules}
use Rattle.integration_field.proofs.Answers.{number_costs, number_count, number_corners, number_accepted}
use Rattle.integration_build.proofs.buildable.Goals as goal
use Rattle.integration_build.proofs.buildable.Goals.{else-count-le100-via-then-count-le100+else-corners_inside, else-count-le100-via-else-count-le100}

pub returns-in_default-clause-number : goal.returns-in_default-clause-number
returns-in_default-clause-number c = sym (number_costs c.args.costs.now c.args.field.now (search rules))

pub returns-then-corners_inside-clause-number : goal.returns-then-corners_inside-clause-number
returns-then-corners_inside-clause-number c =
    sym (number_accepted c.args.costs.now c.args.field.now (record {
      costs_hundred = search rules;
      count_in = c.if-count-le100.true;
      corners_in = sym c.corners_inside.ensures ∙ c.if-corners_inside.true;
    }))

pub returns-clause-number : goal.returns-clause-number
returns-clause-number c = elim c.else-count-le100.branch [
  | else-count-le100-via-then-count-le100+else-corners_inside w ↦
      sym (number_corners c.args.costs.now c.args.field.now (search rules) w.if-count-le100.true
      (sym w.corners_inside.ensures ∙ w.if-corners_inside.false))
  | else-count-le100-via-else-count-le100 w ↦ sym (number_count c.args.costs.now c.args.field.now (search rules) w.if-count-le100.false)
]
