-- `leg::has_goal` meets its contract: the test of one step is asked of all.
-- Assumes nothing.
use Rattle.std.proofs.Common.{◌≡◌, ◌||◌, not, ℕ, List, [], ◌∷◌, refl, ap, ◌∙◌, rules, tests}
use Rattle.std.specs.List.{list_any}
use Rattle.std.proofs.lemmas.Iterator.{YieldsList-from_slice}
use Rattle.std.proofs.lemmas.Iterator.Search.{any_from_yields_List}
use Rattle.route.specs.Step.{is_window}
use Rattle.leg_plan.specs.Leg.{some_goal}
use Rattle.leg.proofs.has_goal.Goals as goal

same : (steps : List (List ℕ)) → list_any (λ (s : List ℕ). not (is_window s)) steps ≡ some_goal steps
same [] = refl
same (s ∷ steps) = ap (λ b. not (is_window s) || b) (same steps)

pub returns : goal.returns
returns c =
    any_from_yields_List (λ (s : List ℕ). not (is_window s)) _ _ c.any.result c.any.ensures.ran (YieldsList-from_slice c.args.steps.now cc)
    (λ x b q k. search (rules, tests)) ∙ same c.args.steps.now
