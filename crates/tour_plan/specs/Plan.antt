-- The call for a tour (02, "Job 14": a call with Job 13's input, its numbers and a limit): the tour over the square of window costs.
-- Assumes nothing.
use Rattle.std.specs.Prelude.{false, cond, is_some, List, ℕ, eqb, length, replicate}
use Rattle.step_list.specs.Steps.{steps_of}
use Rattle.window_square.specs.Square.{window_costs_number, cost_square}
use Rattle.tour_sums.specs.declared.SearchedTour.{SearchedTour}
use Rattle.tour_sums.specs.Tours.{searched_tour, order_in, sum_in, ToldTour}
use Rattle.tour_plan.specs.declared.WindowTour.{WindowTour}

-- a refusal has every other part zero (01, under the table)
abbrev pub refused_tour : ℕ → WindowTour
refused_tour n = record { number = n; found = false; order = replicate 8 0; sum = 0; tried = 0; least = 0 }

-- a tour with number 0; and the tour that an answer tells
abbrev pub accepted_tour : SearchedTour → WindowTour
accepted_tour t =
    record { number = 0; found = is_some t.best; order = order_in t.best; sum = sum_in t.best; tried = t.tried; least = t.least }

abbrev pub tour_in : WindowTour → ToldTour
tour_in r = record { found = r.found; order = r.order; sum = r.sum; tried = r.tried; least = r.least }

-- what the call answers (02, "Job 14"): Job 13's numbers; else the tour of the listed windows over the square of their costs
abbrev pub tour_answer : List ℕ → List ℕ → ℕ → WindowTour
tour_answer costs steps limit =
    cond (eqb (window_costs_number costs steps) 0) (accepted_tour (searched_tour (cost_square costs (steps_of steps)) (length (steps_of steps)) limit))
    (refused_tour (window_costs_number costs steps))
