-- `window_columns::target_at` meets its contract: the step, as it is lent, is the one at that place.
-- Assumes nothing.
use Rattle.std.proofs.Common.{◌≡◌, ap, ◌∙◌}
use Rattle.route.specs.Step.{route_step}
use Rattle.route.proofs.Targets.{made_target, made_held}
use Rattle.step_list.specs.Inner.{step_at}
use Rattle.step_list.proofs.Steps.{lent_step}
use Rattle.window_columns.proofs.target_at.Goals as goal

pub returns : goal.returns
returns c =
    let steps = c.args.steps.now in
    let k = c.args.k in
    let parsed : c.new.result ≡ route_step (step_at steps k) = c.new.ensures ∙ ap route_step (lent_step steps k) in
    let made = c.as_target.ensures in (
      made_held (step_at steps k) c.new.result _ parsed made (c.requires.0.accepted k c.requires.1),
      made_target (step_at steps k) c.new.result _ parsed made,
    )
