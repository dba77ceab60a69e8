-- `bounds::run` meets its contract: what its five calls leave.
-- Assumes nothing.
use Rattle.std.proofs.Common.{ℕ, ◌<◌, ◌≤◌, refl, ap, arith}
use lib.ListN.{get_or}
use Rattle.integration_field.specs.declared.IntegrationField.{IntegrationField}
use Rattle.route.specs.Target.{to_window}
use Rattle.route.specs.Inner.{held_cells}
use Rattle.bounds.proofs.Laws.{runs}
use Rattle.bounds.proofs.run.Goals as goal

pub returns : goal.returns
returns c =
    let low = c.args.low.now in
    let byte : (x : ℕ) → x < 100 → get_or low x 0 ≤ 255 = λ x h. omega (arith, c.fits-low x) in
    runs low c.args.high.now (to_window (held_cells c.args.window)) c.told-low c.requires.window_in refl byte _ _ _ _ _
    (ap (λ (f : IntegrationField). f.field) c.build_window-lowest.ensures) (ap (λ (f : IntegrationField). f.field) c.build_window-highest.ensures)
    c.costs_of-least.ensures c.costs_of-greatest.ensures c.sure_cells-sure.ensures
