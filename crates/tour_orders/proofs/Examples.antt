-- Small computed cases of a tour's orders (02, Job 14).
-- Assumes nothing.
use mathlib.Core.Path.{◌≡◌, refl}
use mathlib.Core.List.{[], ◌∷◌}
use Rattle.tour_orders.specs.Orders.{orders_of, orders, factorial}

-- two windows have one order
pub two_windows : orders 2 ≡ (0 ∷ 1 ∷ []) ∷ []
unfolding orders_of orders
two_windows = refl

-- four windows: the six orders of 1, 2 and 3 behind the 0, as a dictionary has them
pub four_windows : orders 4
    ≡ (0 ∷ 1 ∷ 2 ∷ 3 ∷ []) ∷ (0 ∷ 1 ∷ 3 ∷ 2 ∷ []) ∷ (0 ∷ 2 ∷ 1 ∷ 3 ∷ []) ∷ (0 ∷ 2 ∷ 3 ∷ 1 ∷ []) ∷ (0 ∷ 3 ∷ 1 ∷ 2 ∷ []) ∷ (0 ∷ 3 ∷ 2 ∷ 1 ∷ []) ∷ []
unfolding orders_of orders
four_windows = refl

-- eight windows have 5,040
pub eight_windows : factorial 7 ≡ 5040
eight_windows = refl
