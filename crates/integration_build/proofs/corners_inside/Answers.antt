-- `integration_build::corners_inside` meets its contract: the test of the definition is the library's of all.
-- Assumes nothing.
use mathlib.Core.Path.{sym, ◌∙◌}
use borrow.Author.Rules.{rules}
use borrow.Author.Tests.{tests}
use lib.Dec.{ltb}
use Rattle.std.proofs.lemmas.Iterator.{YieldsList-from_slice}
use Rattle.std.proofs.lemmas.Iterator.Search.{all_from_yields_List}
use Rattle.integration_build.proofs.Loops.{all_cells_are}
use Rattle.integration_build.proofs.corners_inside.Goals as goal

pub returns : goal.returns
returns c =
    let corners = c.args.corners.now in
    all_from_yields_List (λ x. ltb x 100) _ _ _ c.all.ensures.ran (YieldsList-from_slice corners cc) (λ x b q k. search (rules, tests))
    ∙ sym (all_cells_are corners)
