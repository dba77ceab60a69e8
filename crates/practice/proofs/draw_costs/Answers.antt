-- `practice::draw_costs` meets its contract: each cell's cost is drawn from the value that stands 55 places behind its own.
-- Assumes nothing.
use Rattle.std.proofs.Common.{◌+◌, get_or, rules}
use Rattle.practice.specs.Floor.{cost_of}
use Rattle.practice.proofs.Told.{cells_drawn, made_at}
use Rattle.practice.proofs.draw_costs.Goals as goal

pub returns : goal.returns
returns c =
    let values = c.args.values.now in
    let made = c.from_fn.ensures.items in
    cells_drawn values c.told-values c.from_fn.result made.long
    (made_at _ _ _ (λ i. cost_of (get_or values (55 + i) 0)) (λ i y q k. search rules) 100 made)
