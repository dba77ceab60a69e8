-- How the call for window costs is shown to keep its promises: its number is that of `window_steps`, each column of the square is read from a field
-- built for one window (`column_at`), and the loop of `window_square` fills the columns, which are then turned into rows. The theorems of the crate
-- `window_square` say what such a square holds.
--
-- `window_costs::window_costs` meets its contract: refused by its number, or the rows of its square.
-- Assumes nothing.
use Rattle.std.proofs.Common.{◌≡◌, ℕ, List, arith, refl, sym, ap, ◌∙◌}
use mathlib.Core.Bool.{true≢false}
use Rattle.refusals.proofs.Numbers.{not_zero}
use Rattle.step_list.specs.Steps.{steps_of}
use Rattle.window_square.specs.Square.{cost_square}
use Rattle.window_square.proofs.Numbers.{ready}
use Rattle.window_square.proofs.Calls.{refuses, accepts}
use Rattle.window_costs.proofs.Lengths.{other_length}
use Rattle.window_costs.proofs.window_costs.Goals as goal

-- ---- costs that are not 100

pub returns-in_default-clause-answer : goal.returns-in_default-clause-answer
returns-in_default-clause-answer c =
    let one = other_length c.args.costs.now c.args.steps.now (λ e. true≢false (sym (c.in_default.ensures.0 e))) in
    (refuses c.args.costs.now c.args.steps.now {Told = ⊥} _ (c.number.ensures ∙ one) (λ z. omega (arith, c.number.ensures, z)) _
    c.refused.ensures).0

pub returns-in_default-clause-nineteen : goal.returns-in_default-clause-nineteen
returns-in_default-clause-nineteen c =
    let one = other_length c.args.costs.now c.args.steps.now (λ e. true≢false (sym (c.in_default.ensures.0 e))) in
    (refuses c.args.costs.now c.args.steps.now {Told = ⊥} _ (c.number.ensures ∙ one) (λ z. omega (arith, c.number.ensures, z)) _
    c.refused.ensures).1.1.1.0

pub returns-in_default-clause-twenty : goal.returns-in_default-clause-twenty
returns-in_default-clause-twenty c =
    let one = other_length c.args.costs.now c.args.steps.now (λ e. true≢false (sym (c.in_default.ensures.0 e))) in
    (refuses c.args.costs.now c.args.steps.now {Told = ⊥} _ (c.number.ensures ∙ one) (λ z. omega (arith, c.number.ensures, z)) _
    c.refused.ensures).1.1.1.1

-- ---- steps that are refused

pub returns-in-Err-clause-nineteen : goal.returns-in-Err-clause-nineteen
returns-in-Err-clause-nineteen c =
    let told = c.number-in-Err.ensures ∙ c.in-Err.ensures in
    (refuses c.args.costs.now c.args.steps.now {Told = ⊥} _ told (λ z. not_zero _ (sym c.number-in-Err.ensures ∙ z)) _
    c.refused-in-Err.ensures).1.1.1.0

pub returns-in-Err-clause-twenty : goal.returns-in-Err-clause-twenty
returns-in-Err-clause-twenty c =
    let told = c.number-in-Err.ensures ∙ c.in-Err.ensures in
    (refuses c.args.costs.now c.args.steps.now {Told = ⊥} _ told (λ z. not_zero _ (sym c.number-in-Err.ensures ∙ z)) _
    c.refused-in-Err.ensures).1.1.1.1

-- ---- the call is not refused

pub window_square-requires : goal.window_square-requires
window_square-requires c = rw c.in-Ok.ensures.1.same (ready c.args.costs.now c.args.steps.now (sym (c.in-Ok-window_costs_number.ensures)))

-- the square is that of the costs that are lent
lent : (costs steps : List ℕ) {square : List ℕ} {found : List (List ℕ)} → square ≡ costs → found ≡ cost_square square (steps_of steps)
    → found ≡ cost_square costs (steps_of steps)
lent costs steps same e = e ∙ ap (λ (l : List ℕ). cost_square l (steps_of steps)) same

pub returns-in-Ok-window_costs_number-clause-answer : goal.returns-in-Ok-window_costs_number-clause-answer
returns-in-Ok-window_costs_number-clause-answer c =
    let square = lent c.args.costs.now c.args.steps.now c.in-Ok.ensures.1.same c.window_square.ensures in
    (accepts c.args.costs.now c.args.steps.now (λ x h. omega (arith, c.type_inv.costs x)) (sym (c.in-Ok-window_costs_number.ensures)) _ _
    square c.rows_of.ensures _ refl).0

pub returns-in-Ok-window_costs_number-clause-least : goal.returns-in-Ok-window_costs_number-clause-least
returns-in-Ok-window_costs_number-clause-least c =
    let square = lent c.args.costs.now c.args.steps.now c.in-Ok.ensures.1.same c.window_square.ensures in
    (accepts c.args.costs.now c.args.steps.now (λ x h. omega (arith, c.type_inv.costs x)) (sym (c.in-Ok-window_costs_number.ensures)) _ _
    square c.rows_of.ensures _ refl).1.0

pub returns-in-Ok-window_costs_number-clause-nineteen : goal.returns-in-Ok-window_costs_number-clause-nineteen
returns-in-Ok-window_costs_number-clause-nineteen c =
    let square = lent c.args.costs.now c.args.steps.now c.in-Ok.ensures.1.same c.window_square.ensures in
    (accepts c.args.costs.now c.args.steps.now (λ x h. omega (arith, c.type_inv.costs x)) (sym (c.in-Ok-window_costs_number.ensures)) _ _
    square c.rows_of.ensures _ refl).1.1.1.0

pub returns-in-Ok-window_costs_number-clause-twenty : goal.returns-in-Ok-window_costs_number-clause-twenty
returns-in-Ok-window_costs_number-clause-twenty c =
    let square = lent c.args.costs.now c.args.steps.now c.in-Ok.ensures.1.same c.window_square.ensures in
    (accepts c.args.costs.now c.args.steps.now (λ x h. omega (arith, c.type_inv.costs x)) (sym (c.in-Ok-window_costs_number.ensures)) _ _
    square c.rows_of.ensures _ refl).1.1.1.1
