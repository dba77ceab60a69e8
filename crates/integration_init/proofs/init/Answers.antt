-- `integration_init::init` meets its contract: each answer has its number, and an accepted one the started field.
-- Assumes nothing.
use Rattle.std.proofs.Common.{ℕ, ◌<◌, ◌≤◌, sym, ap, ◌∙◌, arith}
use mathlib.Core.Path.{ap₂}
use lib.ListN.{get_or}
use Rattle.refusals.proofs.Numbers.{not_zero}
use Rattle.integration_started.specs.Started.{started, init_accepted, init_refused}
use Rattle.integration_started.proofs.Started.{init_refused_law}
use Rattle.route.proofs.Targets.{made_target, made_held}
use Rattle.route.proofs.Walls.{accepted_on}
use Rattle.integration_init.proofs.Answers.{costs_refused, step_refused, accepts, promised}
use Rattle.integration_init.proofs.init.Goals as goal

-- there are not 100 costs
pub returns-in_default-clause-answer : goal.returns-in_default-clause-answer
returns-in_default-clause-answer c = c.refused.ensures ∙ costs_refused c.args.costs.now c.args.step.now c.in_default.ensures.1

pub returns-in_default-clause-refused : goal.returns-in_default-clause-refused
returns-in_default-clause-refused c =
    let costs = c.args.costs.now in
    let step = c.args.step.now in
    init_refused_law costs step _ (c.refused.ensures ∙ costs_refused costs step c.in_default.ensures.1)

-- the step is refused, with a number that is not 0
pub returns-in-Err-clause-answer : goal.returns-in-Err-clause-answer
returns-in-Err-clause-answer c =
    let n = c.in-Err.ensures in
    c.refused-in-Err.ensures ∙ ap init_refused n
    ∙ step_refused c.args.costs.now c.args.step.now c.in-Ok.ensures.1.long (λ e. not_zero c.in-Err.refusal (n ∙ e))

pub returns-in-Err-clause-refused : goal.returns-in-Err-clause-refused
returns-in-Err-clause-refused c =
    let costs = c.args.costs.now in
    let step = c.args.step.now in
    let n = c.in-Err.ensures in
    init_refused_law costs step _
    (c.refused-in-Err.ensures ∙ ap init_refused n ∙ step_refused costs step c.in-Ok.ensures.1.long (λ e. not_zero c.in-Err.refusal (n ∙ e)))

-- the step is good, and its target is held
pub start-requires : goal.start-requires
start-requires c =
    let costs = c.args.costs.now in
    let step = c.args.step.now in
    let good = sym c.in_default-step_number_on.ensures in
    made_held step c.new.result c.as_target-target.result c.new.ensures c.as_target-target.ensures (accepted_on costs step good)

pub returns : goal.returns
returns c =
    let costs = c.args.costs.now in
    let step = c.args.step.now in
    let a = c.in-Ok.ensures.1 in
    let good = sym c.in_default-step_number_on.ensures in
    let target = made_target step c.new.result c.as_target-target.result c.new.ensures c.as_target-target.ensures in
    let byte : (x : ℕ) → x < 100 → get_or costs x 0 ≤ 255 = λ x h. omega (arith, c.type_inv.costs x) in
    let p = promised costs step byte _ (ap init_accepted (c.start.ensures ∙ ap₂ started a.same target) ∙ accepts costs step a.long good) in
    record { answer = p.0; started = p.1.0; built = p.1.1.0; arrows = p.1.1.1.0; refused = p.1.1.1.1 }
