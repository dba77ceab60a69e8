-- `practice::practice_floor` meets its contract: the values, the costs drawn from them, and the goal's cell.
-- Assumes nothing.
use Rattle.practice.proofs.Told.{floor_made, told}
use Rattle.practice.proofs.practice_floor.Goals as goal

pub returns-clause-floor : goal.returns-clause-floor
returns-clause-floor c =
    rw c.from.ensures
    (floor_made c.args.seed c.values_of-values.result c.draw_costs-costs.result c.values_of-values.ensures c.draw_costs-costs.ensures)

pub returns-clause-told : goal.returns-clause-told
returns-clause-told c = rw (returns-clause-floor c) (told c.args.seed)
