-- How the call for a tour is shown to keep its promises: number and square are those of the call for window costs, the tour over that square is found
-- by `tour_search`, and `tour_plan` has what is promised of the two together.
--
-- `tour::window_tour` meets its contract: refused by its number, or the tour over its square.
-- Assumes nothing.
use Rattle.std.proofs.Common.{◌≡◌, sym, ap, ◌∙◌, List, ℕ, ◌/◌, ◌<◌, ◌≤◌, length, get_or, arith}
use mathlib.Core.Bool.{true≢false}
use mathlib.Core.Path.{subst}
use Rattle.refusals.proofs.Numbers.{not_zero}
use Rattle.step_list.specs.Steps.{steps_of}
use Rattle.window_square.specs.Square.{window_costs_number, cost_square}
use Rattle.window_square.proofs.Numbers.{ready}
use Rattle.window_costs.proofs.Lengths.{other_length}
use Rattle.tour_sums.specs.Promise.{TourSquare}
use Rattle.tour_plan.specs.Plan.{tour_in}
use Rattle.tour_plan.specs.Promise.{TourPlanned}
use Rattle.tour_plan.proofs.Planned.{tour_square, refuses, Told, accepts}
use Rattle.tour.proofs.window_tour.Goals as goal

-- costs that are not 100
pub returns-in_default : goal.returns-in_default
returns-in_default c =
    let a = c.args in
    let made = c.refused.result in
    let one = other_length a.costs.now a.steps.now (λ e. true≢false (sym (c.in_default.ensures.0 e))) in
    let r = refuses a.costs.now a.steps.now a.limit {Told = TourPlanned a.costs.now (steps_of a.steps.now) a.limit (tour_in made)}
    _ (c.number.ensures ∙ one) (λ z. omega (arith, c.number.ensures, z)) made c.refused.ensures in
    record { answer = r.0; planned = r.1.0; refused = r.1.1.0; nineteen = r.1.1.1.0; twenty = r.1.1.1.1 }

-- steps that are refused
pub returns-in-Err : goal.returns-in-Err
returns-in-Err c =
    let a = c.args in
    let made = c.refused-in-Err.result in
    let told = c.number-in-Err.ensures ∙ c.in-Err.ensures in
    let r = refuses a.costs.now a.steps.now a.limit {Told = TourPlanned a.costs.now (steps_of a.steps.now) a.limit (tour_in made)}
    _ told (λ z. not_zero _ (sym c.number-in-Err.ensures ∙ z)) made c.refused-in-Err.ensures in
    record { answer = r.0; planned = r.1.0; refused = r.1.1.0; nineteen = r.1.1.1.0; twenty = r.1.1.1.1 }

-- the square is that of the costs that are lent
lent : (costs steps : List ℕ) {square : List ℕ} {found : List (List ℕ)} → square ≡ costs → found ≡ cost_square square (steps_of steps)
    → found ≡ cost_square costs (steps_of steps)
lent costs steps same e = e ∙ ap (λ (l : List ℕ). cost_square l (steps_of steps)) same

pub window_square-square-requires : goal.window_square-square-requires
window_square-square-requires c = rw c.in-Ok.ensures.1.same (ready c.args.costs.now c.args.steps.now (sym (c.in-Ok-window_costs_number.ensures)))

pub search_tours-tour-requires : goal.search_tours-tour-requires
search_tours-tour-requires c =
    let costs = c.args.costs.now in
    let steps = c.args.steps.now in
    let number = sym (c.in-Ok-window_costs_number.ensures) in
    let square = lent costs steps c.in-Ok.ensures.1.same c.window_square-square.ensures in
    subst (λ (s : List (List ℕ)). TourSquare s (length steps / 8)) (sym square) (tour_square costs steps (ready costs steps number))

pub returns-in-Ok-window_costs_number : goal.returns-in-Ok-window_costs_number
returns-in-Ok-window_costs_number c =
    let costs = c.args.costs.now in
    let steps = c.args.steps.now in
    let limit = c.args.limit in
    let number : window_costs_number costs steps ≡ 0 = sym (c.in-Ok-window_costs_number.ensures) in
    let byte : (x : ℕ) → x < 100 → get_or costs x 0 ≤ 255 = λ x h. omega (arith, c.type_inv.costs x) in
    let searched = c.search_tours-tour in
    let e = searched.ensures in
    let square = lent costs steps c.in-Ok.ensures.1.same c.window_square-square.ensures in
    let told : Told costs steps limit searched.result (length steps / 8)
    = rw (← square) (e.answer, (e.orders, (e.best, e.least))) in
    let r = accepts costs steps limit byte number searched.result told _ c.accepted.ensures in
    record { answer = r.0; planned = r.1.0; refused = r.1.1.0; nineteen = r.1.1.1.0; twenty = r.1.1.1.1 }
