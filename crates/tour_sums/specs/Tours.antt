-- A tour of windows over the square of their costs (02, Job 14: from the first window, each other once, no way back, smallest sum of Job 13's costs).
-- Assumes nothing.
use Rattle.std.specs.Prelude.{Option, Some, None, is_some, Bool, true, cond, not, ◌&&◌, List, [], ◌∷◌, ℕ, zero, suc, ◌+◌, min, eqb, ltb, length, get_or, take, replicate}
use Rattle.utilities.specs.Padded.{padded}
use Rattle.tour_orders.specs.Orders.{other_windows, orders}
use Rattle.tour_sums.specs.declared.Tour.{Tour}
use Rattle.tour_sums.specs.declared.SearchedTour.{SearchedTour}

-- a move from window a to window b costs row a, place b
abbrev pub move_cost : List (List ℕ) → ℕ → ℕ → ℕ
move_cost square a b = get_or (get_or square a []) b 0

-- ---- an order

-- the sum of its moves, from window a on
abbrev pub sum_from : List (List ℕ) → ℕ → List ℕ → ℕ
sum_from square a [] = 0
sum_from square a (b ∷ l) = move_cost square a b + sum_from square b l

-- an order's sum: no way back
abbrev pub tour_sum : List (List ℕ) → List ℕ → ℕ
tour_sum square [] = 0
tour_sum square (a ∷ l) = sum_from square a l

-- orders using a 65535 do not count: none of the moves from window a on costs it
abbrev pub counts_from : List (List ℕ) → ℕ → List ℕ → Bool
counts_from square a [] = true
counts_from square a (b ∷ l) = not (eqb (move_cost square a b) 65535) && counts_from square b l

-- an order counts (02, Job 14): none of its moves costs 65535
abbrev pub tour_counts : List (List ℕ) → List ℕ → Bool
tour_counts square [] = true
tour_counts square (a ∷ l) = counts_from square a l

-- ---- the best of the orders tried

-- no order
abbrev pub no_tour : Option Tour
no_tour = None

-- all window numbers, 0 in the places behind them
abbrev pub tour_of : List (List ℕ) → List ℕ → Tour
tour_of square order = record { order = padded 8 0 order; sum = tour_sum square order }

-- an order is taken for the best so far where it counts and its sum is smaller: of equals the earlier stays
unfoldable pub better_tour : List (List ℕ) → Option Tour → List ℕ → Option Tour
better_tour square None order = cond (tour_counts square order) (Some (tour_of square order)) None
better_tour square (Some best) order =
    cond (tour_counts square order && ltb (tour_sum square order) best.sum) (Some (tour_of square order)) (Some best)

-- the best so far, once the orders listed are tried in turn
abbrev pub best_tour : List (List ℕ) → Option Tour → List (List ℕ) → Option Tour
best_tour square best [] = best
best_tour square best (order ∷ l) = best_tour square (better_tour square best order) l

-- ---- the least figure

-- the cheapest entry into window b from another of the windows below m; 65535 where there is none
abbrev pub cheapest_entry : List (List ℕ) → ℕ → ℕ → ℕ
cheapest_entry square b zero = 65535
cheapest_entry square b (suc a) = cond (eqb a b) (cheapest_entry square b a) (min (move_cost square a b) (cheapest_entry square b a))

-- the sum of a number for each window listed
abbrev pub summed : (ℕ → ℕ) → List ℕ → ℕ
summed f [] = 0
summed f (b ∷ l) = f b + summed f l

-- The least figure (02, Job 14), a lower bound that no order's sum goes under: over the windows but the first, the sum of the cheapest entry into each
-- from another.
unfoldable pub least_figure : List (List ℕ) → ℕ → ℕ
least_figure square n = summed (λ b. cheapest_entry square b n) (other_windows n)

-- ---- the answer

-- the number tried: limit or all, the smaller
unfoldable pub tried_count : ℕ → ℕ → ℕ
tried_count n limit = min limit (length (orders n))

-- the best order tried and its sum, the number tried and the least figure
unfoldable pub searched_tour : List (List ℕ) → ℕ → ℕ → SearchedTour
searched_tour square n limit =
    record { best = best_tour square no_tour (take (tried_count n limit) (orders n)); tried = tried_count n limit; least = least_figure square n }

-- what an answer tells: whether an order is found, that order and its sum, the number tried and the least figure
pub record ToldTour : Type 0 where
  pub found : Bool
  pub order : List ℕ
  pub sum : ℕ
  pub tried : ℕ
  pub least : ℕ

-- of no order both are all 0
abbrev pub order_in : Option Tour → List ℕ
order_in None = replicate 8 0
order_in (Some best) = best.order

abbrev pub sum_in : Option Tour → ℕ
sum_in None = 0
sum_in (Some best) = best.sum

abbrev pub told_of : Option Tour → ℕ → ℕ → ToldTour
told_of best tried least = record { found = is_some best; order = order_in best; sum = sum_in best; tried = tried; least = least }

abbrev pub told_tour : SearchedTour → ToldTour
told_tour t = told_of t.best t.tried t.least
