-- `step_numbers::has_wall_cell` meets its contract: the test of one cell is asked of the listed ones.
-- Assumes nothing.
use Rattle.std.proofs.Common.{◌≡◌, ◌||◌, ℕ, List, [], ◌∷◌, refl, ap, ◌∙◌, take, rules, tests}
use Rattle.std.specs.List.{list_any}
use Rattle.std.proofs.lemmas.Iterator.{YieldsList-from_slice}
use Rattle.std.proofs.lemmas.Iterator.Search.{any_from_yields_List}
use Rattle.route.specs.Step.{is_wall_cost, some_wall_cost}
use Rattle.step_numbers.proofs.has_wall_cell.Goals as goal

same : (costs cells : List ℕ) → list_any (is_wall_cost costs) cells ≡ some_wall_cost costs cells
same costs [] = refl
same costs (i ∷ cells) = ap (λ b. is_wall_cost costs i || b) (same costs cells)

pub returns : goal.returns
returns c =
    let cells = take c.args.window.count c.args.window.cells in
    any_from_yields_List (is_wall_cost c.args.costs.now) _ _ c.any.result c.any.ensures.ran (YieldsList-from_slice cells cc) (λ x b q k. search (rules, tests))
    ∙ same c.args.costs.now cells
