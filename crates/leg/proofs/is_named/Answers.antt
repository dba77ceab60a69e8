-- `leg::is_named` meets its contract: the test of one step is asked of all.
-- Assumes nothing.
use Rattle.std.proofs.Common.{◌≡◌, ◌||◌, eqb, ℕ, List, [], ◌∷◌, refl, ap, ◌∙◌, rules, tests}
use Rattle.std.specs.List.{list_any}
use Rattle.std.proofs.lemmas.Iterator.{YieldsList-from_slice}
use Rattle.std.proofs.lemmas.Iterator.Search.{any_from_yields_List}
use Rattle.route.specs.Step.{sector_of}
use Rattle.leg_plan.specs.Leg.{names}
use Rattle.leg.proofs.is_named.Goals as goal

same : (sector : ℕ) (steps : List (List ℕ)) → list_any (λ (s : List ℕ). eqb (sector_of s) sector) steps ≡ names sector steps
same sector [] = refl
same sector (s ∷ steps) = ap (λ b. eqb (sector_of s) sector || b) (same sector steps)

pub returns : goal.returns
returns c =
    any_from_yields_List (λ (s : List ℕ). eqb (sector_of s) c.args.sector) _ _ c.any.result c.any.ensures.ran (YieldsList-from_slice c.args.steps.now cc)
    (λ x b q k. search (rules, tests)) ∙ same c.args.sector c.args.steps.now
