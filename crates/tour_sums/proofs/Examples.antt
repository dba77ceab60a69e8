-- Small computed cases of a tour of windows (02, Job 14), worked by hand from its words.
-- Assumes nothing.
use mathlib.Core.Path.{◌≡◌, refl}
use mathlib.Core.Bool.{Bool, true, false}
use mathlib.Core.List.{List, [], ◌∷◌}
use Prim.Native.Nat.{ℕ}
use Rattle.tour_orders.specs.Orders.{orders_of, orders}
use Rattle.tour_sums.specs.Tours.{better_tour, least_figure, tried_count, searched_tour, ToldTour, told_tour}

-- three windows that cost another way there than back: 0, 1, 2 takes 5 and 2; 0, 2, 1 takes 9 and 1; the cheapest entries are 1 and 2
abbrev one_way : List (List ℕ)
one_way = (0 ∷ 5 ∷ 9 ∷ []) ∷ (4 ∷ 0 ∷ 2 ∷ []) ∷ (7 ∷ 1 ∷ 0 ∷ []) ∷ []

-- the first move of 0, 1, 2 is none: 0, 2, 1 is the only order that counts
abbrev first_closed : List (List ℕ)
first_closed = (0 ∷ 65535 ∷ 9 ∷ []) ∷ (4 ∷ 0 ∷ 2 ∷ []) ∷ (7 ∷ 1 ∷ 0 ∷ []) ∷ []

-- four windows: the orders take 9, 5, 9, 5, 7 and 9 in turn, so the second is the best, and the fourth its equal
abbrev equals : List (List ℕ)
equals = (0 ∷ 1 ∷ 1 ∷ 3 ∷ []) ∷ (9 ∷ 0 ∷ 4 ∷ 3 ∷ []) ∷ (9 ∷ 5 ∷ 0 ∷ 4 ∷ []) ∷ (9 ∷ 0 ∷ 1 ∷ 0 ∷ []) ∷ []

abbrev answer : Bool → ℕ → ℕ → ℕ → ℕ → ℕ → ℕ → ToldTour
answer found b c d sum tried least =
    record { found = found; order = 0 ∷ b ∷ c ∷ d ∷ 0 ∷ 0 ∷ 0 ∷ 0 ∷ []; sum = sum; tried = tried; least = least }

pub both_tried : told_tour (searched_tour one_way 3 65535) ≡ answer true 1 2 0 7 2 3
unfolding orders_of orders better_tour least_figure tried_count searched_tour
both_tried = refl

-- no order tried: the least figure is given all the same
pub limit_0 : told_tour (searched_tour one_way 3 0) ≡ answer false 0 0 0 0 0 3
unfolding orders_of orders better_tour least_figure tried_count searched_tour
limit_0 = refl

-- an order that uses a 65535 is tried and does not count
pub none_counts : told_tour (searched_tour first_closed 3 1) ≡ answer false 0 0 0 0 1 3
unfolding orders_of orders better_tour least_figure tried_count searched_tour
none_counts = refl

pub second_counts : told_tour (searched_tour first_closed 3 2) ≡ answer true 2 1 0 10 2 3
unfolding orders_of orders better_tour least_figure tried_count searched_tour
second_counts = refl

-- the earlier of equals, and the limit: four orders of six
pub earlier_of_equals : told_tour (searched_tour equals 4 4) ≡ answer true 1 3 2 5 4 4
unfolding orders_of orders better_tour least_figure tried_count searched_tour
earlier_of_equals = refl

pub one_order_tried : told_tour (searched_tour equals 4 1) ≡ answer true 1 2 3 9 1 4
unfolding orders_of orders better_tour least_figure tried_count searched_tour
one_order_tried = refl

-- a window that no other enters adds 65535
pub never_entered : told_tour (searched_tour ((0 ∷ 65535 ∷ []) ∷ (3 ∷ 0 ∷ []) ∷ []) 2 65535) ≡ answer false 0 0 0 0 1 65535
unfolding orders_of orders better_tour least_figure tried_count searched_tour
never_entered = refl
