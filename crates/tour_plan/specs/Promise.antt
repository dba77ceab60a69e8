-- What is promised of the call for a tour (02, "Job 14"): what the tour promises, over Job 13's square of the same costs and steps.
-- Assumes nothing.
use Rattle.std.specs.Prelude.{◌≡◌, false, List, ℕ, length}
use Rattle.utilities.specs.Padded.{AllZero}
use Rattle.window_square.specs.Square.{cost_square}
use Rattle.window_square.specs.Promise.{WindowSquare}
use Rattle.tour_orders.specs.Orders.{orders}
use Rattle.tour_orders.specs.Told.{AllOrders}
use Rattle.tour_sums.specs.Tours.{ToldTour}
use Rattle.tour_sums.specs.Promise.{BestAnswer, LeastAnswer}
use Rattle.tour_plan.specs.declared.WindowTour.{WindowTour}

pub record TourPlanned (costs : List ℕ) (steps : List (List ℕ)) (limit : ℕ) (tour : ToldTour) : Type 0 where
  -- the costs are Job 13's: each is that of a least walk
  pub square : WindowSquare costs steps (cost_square costs steps)
  -- the orders are exactly the lists with each window once and 0 first, strictly in dictionary order, none left out
  pub every_order : AllOrders (length steps) (orders (length steps))
  -- the best order tried, or "no order"; and if all were tried, the best there is
  pub best : BestAnswer (cost_square costs steps) (length steps) limit tour
  -- no order's sum goes under the least figure
  pub under : LeastAnswer (cost_square costs steps) (length steps) tour

-- A refused call answers its number, with every other part of the answer zero (01, under the table).
pub record TourRefused (r : WindowTour) : Type 0 where
  pub found : r.found ≡ false
  pub order : AllZero 0 r.order
  pub sum : r.sum ≡ 0
  pub tried : r.tried ≡ 0
  pub least : r.least ≡ 0
