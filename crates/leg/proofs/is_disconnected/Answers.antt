-- `leg::is_disconnected` meets its contract: the step at place k faces the one before it, so those from it on decide.
-- Assumes nothing.
use Rattle.std.proofs.Common.{◌≡◌, ℕ, ◌+◌, ◌-◌, ◌<◌, ◌≤◌, true, List, [], length, get_or, drop, arith, sym, ◌∙◌}
use Rattle.std.proofs.lemmas.List.{drop_more}
use Rattle.route.specs.Step.{sector_of, boundary_of}
use Rattle.sectors.specs.Floor.{across}
use Rattle.leg_plan.specs.Leg.{is_sector, disconnected}
use Rattle.leg.proofs.is_disconnected.Goals as goal

more : (steps : List (List ℕ)) (k : ℕ) → 1 ≤ k → k < length steps
    → is_sector (sector_of (get_or steps (k - 1) [])) (across (sector_of (get_or steps k [])) (boundary_of (get_or steps k []))) ≡ true
    → disconnected (drop (k - 1) steps) ≡ disconnected (drop (k + 1 - 1) steps)
more steps k some h joined =
    let back : k - 1 + 1 ≡ k = omega arith in
    let here : k + 1 - 1 ≡ k = omega arith in
    let before : k - 1 < length steps = omega arith in
    rw (here, drop_more steps (k - 1) [] before, back, drop_more steps k [] h, joined)

pub loop-k-preserved : goal.loop-k-preserved
loop-k-preserved c =
    let l = c.loop-k in
    l.invariant ∙ more c.args.steps.now l.k l.auto.k c.loop-k-test.true (sym c.faces.ensures ∙ c.if-not-faces.false)
