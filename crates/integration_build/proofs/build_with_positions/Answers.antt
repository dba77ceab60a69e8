-- `integration_build::build_with_positions` meets its contract: the waves run as they do without positions, and positions are sought in what they leave.
-- Assumes nothing.
use mathlib.Core.Path.{◌≡◌, ap, ◌∙◌}
use borrow.Author.Rules.{rules}
use lib.ListN.{length, take}
use Rattle.integration_field.specs.declared.IntegrationField.{IntegrationField}
use Rattle.integration_field.specs.Listed.{list_of}
use Rattle.integration_field.specs.Position.{positions as positionsOf}
use Rattle.integration_field.proofs.Lists.{padded_list}
use Rattle.integration_build.proofs.Recursion.{positions_ready}
use Rattle.integration_build.proofs.build_with_positions.Goals as goal

pub corner_positions-answer-requires : goal.corner_positions-answer-requires
corner_positions-answer-requires c =
    let f = c.args.given in
    let long : length f.los_corners ≡ 100 = search rules in
    let full : length f.field ≡ 100 = search rules in
    positions_ready c.args.costs.now f long c.requires full c.build_cells.new.field c.build_cells.ensures.built

pub returns : goal.returns
returns c =
    let costs = c.args.costs.now in
    let f = c.args.given in
    let n = c.build_cells.ensures in
    let sought = c.corner_positions-answer.ensures
    ∙ ap (λ (x : IntegrationField). positionsOf costs f.field (take x.count x.los_corners)) n.built
    ∙ ap (positionsOf costs f.field) (padded_list (list_of f)) in
    rw (sought, n.built, n.waves)
