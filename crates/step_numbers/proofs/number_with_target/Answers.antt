-- `step_numbers::number_with_target` meets its contract: 16 decides where 3 to 8 do not.
-- Assumes nothing.
use Rattle.std.proofs.Common.{◌≡◌, ℕ, List, Bool, refl, sym, ap, ◌∙◌}
use Rattle.std.proofs.lemmas.Result.{err_from_is_err_and}
use Rattle.refusals.proofs.Numbers.{not_zero}
use Rattle.route.specs.declared.Target as program
use Rattle.route.specs.Step.{route_step, step_number, targets_wall}
use Rattle.route.specs.Inner.{route_target, listed_target, is_wall_target, held_target}
use Rattle.route.proofs.Targets.{made_target, made_held}
use Rattle.route.proofs.Walls.{number_on_law, refused_on, wall_target}
use Rattle.step_numbers.proofs.number_with_target.Goals as goal

-- where the step is not refused with 3 to 8: number 16's condition
wall : (costs step : List ℕ) (target : program.Target) (b : Bool) → target ≡ listed_target (route_target (route_step step)) → step_number step ≡ 0
    → b ≡ is_wall_target costs (held_target target) → b ≡ targets_wall costs step
wall costs step target b made good e =
    e ∙ ap (is_wall_target costs) (made_target step (route_step step) target refl made) ∙ sym (wall_target costs step good)

pub returns-in_err-step_number : goal.returns-in_err-step_number
returns-in_err-step_number c =
    let p = err_from_is_err_and c.from_residual.result c.from_residual.ensures.1 in
    let n = c.in_err-step_number.ensures in
    rw (p.1, p.2) (n ∙ sym (refused_on _ _ (λ z. not_zero _ (n ∙ z))))

pub is_wall_target-requires : goal.is_wall_target-requires
is_wall_target-requires c =
    made_held c.args.step.now (route_step c.args.step.now) c.args.target refl c.requires (sym (c.in_ok-step_number.ensures))

pub returns-then-is_wall_target : goal.returns-then-is_wall_target
returns-then-is_wall_target c =
    let good = sym (c.in_ok-step_number.ensures) in
    let w = wall c.args.costs.now c.args.step.now c.args.target _ c.requires good c.is_wall_target.ensures in
    sym (number_on_law c.args.costs.now c.args.step.now ∙ rw (good, sym w ∙ c.if-is_wall_target.true))

pub returns : goal.returns
returns c =
    let good = sym (c.in_ok-step_number.ensures) in
    let w = wall c.args.costs.now c.args.step.now c.args.target _ c.requires good c.is_wall_target.ensures in
    sym (number_on_law c.args.costs.now c.args.step.now ∙ rw (good, sym w ∙ c.if-is_wall_target.false))
