-- A small floor on which the call for a tour decides (02, "Job 14"), computed: a definition with one rule changed gives something else.
--     corridor_tours    the better of two orders; the first alone; none tried; and none that counts
--     refused_tour_law      all parts zero
-- Assumes nothing.
use mathlib.Core.Path.{◌≡◌, refl}
use mathlib.Core.Bool.{true, false}
use mathlib.Core.List.{List, [], ◌∷◌, ◌++◌}
use Prim.Native.Nat.{ℕ}
use lib.ListN.{set, replicate}
use Rattle.fields.specs.Cell.{stepped}
use Rattle.route.specs.Window.{on_edge, edge, cells_between}
use Rattle.route.specs.Target.{target_of}
use Rattle.step_list.specs.Steps.{steps_in}
use Rattle.integration_field.specs.Wave.{relaxed, offered_around, offered_by, changed_from, next}
use Rattle.integration_field.specs.Rest.{total}
use Rattle.integration_field.specs.Build.{is_empty, settle, build}
use Rattle.integration_started.specs.Sight.{walls, with_portals}
use Rattle.integration_started.specs.Started.{started_at, started}
use Rattle.window_square.specs.Square.{window_step_number, window_costs_number, window_cost, cost_square}
use Rattle.tour_orders.specs.Orders.{orders_of, orders}
use Rattle.tour_sums.specs.Tours.{better_tour, least_figure, tried_count, searched_tour}
use Rattle.tour_plan.specs.declared.WindowTour.{WindowTour}
use Rattle.tour_plan.specs.Plan.{tour_answer}

-- the one-cell window of the North edge at a column
abbrev north : ℕ → List ℕ
north column = 0 ∷ 0 ∷ 1 ∷ column ∷ column ∷ 0 ∷ 0 ∷ 0 ∷ []

-- cells 0 to 2 of row 0 cost 1, 2 and 3, and cell 5 lies apart from them; all else is wall
abbrev corridor : List ℕ
corridor = set (set (set (set (replicate 100 255) 0 1) 1 2) 2 3) 5 1

abbrev tour : List ℕ → ℕ → ℕ → ℕ → WindowTour
tour order sum tried least = record { number = 0; found = true; order = order; sum = sum; tried = tried; least = least }

abbrev no_order : ℕ → ℕ → WindowTour
no_order tried least = record { number = 0; found = false; order = replicate 8 0; sum = 0; tried = tried; least = least }

-- The windows at columns 1, 2 and 0: from the first to each other costs 2, from the second to the third 5 and back 3. Read the wrong way round,
-- both orders would come to 6.
pub corridor_tours :
    tour_answer corridor (north 1 ++ (north 2 ++ north 0)) 65535
    ∷ tour_answer corridor (north 1 ++ (north 2 ++ north 0)) 1
    ∷ tour_answer corridor (north 1 ++ (north 2 ++ north 0)) 0
    ∷ tour_answer corridor (north 1 ++ north 5) 65535
    ∷ []
    ≡ tour (0 ∷ 2 ∷ 1 ∷ replicate 5 0) 5 2 4 ∷ tour (0 ∷ 1 ∷ 2 ∷ replicate 5 0) 7 1 4 ∷ no_order 0 4 ∷ no_order 1 65535 ∷ []
unfolding window_costs_number window_step_number window_cost cost_square steps_in on_edge edge cells_between stepped target_of relaxed offered_around offered_by
    changed_from next total is_empty settle build walls with_portals started_at started orders_of orders better_tour least_figure tried_count searched_tour
corridor_tours = refl

pub refused_tour_law : tour_answer corridor (north 1) 65535 ≡ record { number = 19; found = false; order = replicate 8 0; sum = 0; tried = 0; least = 0 }
unfolding window_costs_number steps_in
refused_tour_law = refl
