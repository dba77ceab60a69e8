-- `integration_positions::corner_positions` meets its contract: without corners no cell has a position; else three facts decide the positions, and
-- what is kept of them is the definition's.
-- Assumes nothing.
use mathlib.Core.Path.{refl, ◌∙◌}
use Rattle.integration_positions.proofs.Labels.{no_corners, given, paid_for, keeps_all}
use Rattle.integration_positions.proofs.corner_positions.Goals as goal

-- the list of corners is empty
pub returns-then-count-eq0 : goal.returns-then-count-eq0
returns-then-count-eq0 c = no_corners c.args.costs.now c.args.before.now c.args.corners.now c.args.count c.if-count-eq0.true

pub entered_from-entered-requires : goal.entered_from-entered-requires
entered_from-entered-requires c = paid_for _ _ _ _ _ (given c.requires _ refl)

pub returns : goal.returns
returns c =
    let f = given c.requires _ c.entered_from-entered.ensures in
    c.keep.ensures ∙ keeps_all _ _ _ _ _ f _ (c.place_corners.ensures c.args.costs.now c.args.before.now f)
