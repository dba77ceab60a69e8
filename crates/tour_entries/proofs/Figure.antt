-- The least figure, by the windows from one on.
--     figure_starts, figure_goes    from the second window on, and one window further
-- Assumes nothing.
use mathlib.Core.Path.{◌≡◌, refl}
use mathlib.Core.List.{List}
use Prim.Native.Nat.{ℕ, suc, ◌+◌, ◌-◌, ◌<◌}
use native.Mathlib.Omega.{arith}
use native.Mathlib.Numerals.{add-one}
use Rattle.tour_orders.specs.Orders.{numbers_from}
use Rattle.tour_sums.specs.Tours.{cheapest_entry, summed, least_figure}

module _ (square : List (List ℕ)) (n : ℕ) where
  abbrev pub entry : ℕ → ℕ
  entry b = cheapest_entry square b n

  pub figure_starts : summed entry (numbers_from 1 (n - 1)) ≡ least_figure square n
  unfolding least_figure
  figure_starts = refl

  pub figure_goes : (b : ℕ) → b < n → summed entry (numbers_from b (n - b)) ≡ entry b + summed entry (numbers_from (b + 1) (n - (b + 1)))
  figure_goes b h = let count : n - b ≡ suc (n - (b + 1)) = omega arith in rw (count, add-one b)
