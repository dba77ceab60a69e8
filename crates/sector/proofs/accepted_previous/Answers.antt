-- `sector::accepted_previous` meets its contract: a line of the table at each return.
-- Assumes nothing.
use Rattle.std.proofs.Common.{◌≡◌, ℕ, Bool, true, false, cond, not, ◌&&◌, List, length, eqb, is_some, refl, sym, ap, ◌∙◌}
use Rattle.std.proofs.lemmas.Result.{err_from_is_err_and}
use Rattle.refusals.proofs.Numbers.{not_zero}
use Rattle.route.specs.declared.Target as program
use Rattle.route.specs.Step.{route_step, step_number_on}
use Rattle.route.specs.Target.{by_window}
use Rattle.route.specs.Inner.{route_target, listed_target, held_target}
use Rattle.route.proofs.Targets.{made_marked}
use Rattle.flow_byte.specs.Previous.{given}
use Rattle.flow_new.specs.Flow.{misfit_number}
use Rattle.sector.specs.Sector.{sector_number}
use Rattle.sector.proofs.Numbers.{step_due, last_two}
use Rattle.sector.proofs.accepted_previous.Goals as goal

-- the step's number is 0: what 17 and 12 decide, by whether a previous field lacks, and whether one is lent that is not 100 numbers
last : (costs step : List ℕ) (target : program.Target) (has : Bool) (previous sheet : List ℕ) → target ≡ listed_target (route_target (route_step step))
    → length costs ≡ 100 → length sheet ≡ 100 → step_number_on costs step ≡ 0 → (lacks l : Bool) → lacks ≡ (by_window (held_target target) && not has)
    → lacks ≡ l → cond l 17 (misfit_number has previous) ≡ sector_number costs step has previous sheet
last costs step target has previous sheet is full lent taken lacks l e p =
    let marked = made_marked step (route_step step) target refl is in
    sym (last_two costs step has previous sheet full lent taken l has (eqb (length previous) 100) (ap (λ (w : Bool). w && not has) (sym marked) ∙ sym e ∙ p) refl refl)

pub returns-in_err-number_with_target-clause-number : goal.returns-in_err-number_with_target-clause-number
returns-in_err-number_with_target-clause-number c sheet e =
    let a = c.args in
    let p = err_from_is_err_and c.from_residual.result c.from_residual.ensures.1 in
    rw (p.1, p.2)
    (step_due a.costs.now a.step.now (is_some a.previous) (given a.previous) sheet c.told-costs e _ c.in_err-number_with_target.ensures (not_zero _))

pub returns-then-lacks_previous-clause-number : goal.returns-then-lacks_previous-clause-number
returns-then-lacks_previous-clause-number c sheet e =
    let a = c.args in
    last a.costs.now a.step.now a.target (is_some a.previous) (given a.previous) sheet c.requires c.told-costs e
    (sym c.in_ok-number_with_target.ensures) _ true c.lacks_previous.ensures c.if-lacks_previous.true

pub returns-clause-number : goal.returns-clause-number
returns-clause-number c sheet e =
    let a = c.args in
    c.of_100.ensures.refused
    ∙ last a.costs.now a.step.now a.target (is_some a.previous) (given a.previous) sheet c.requires c.told-costs e
    (sym c.in_ok-number_with_target.ensures) _ false c.lacks_previous.ensures c.if-lacks_previous.false
