-- `tour_entries::least_figure` meets its contract. The loop's invariant: with the entries into the windows from `window` on, the sum is the least figure.
-- Assumes nothing.
use mathlib.Core.Path.{◌≡◌}
use mathlib.Core.List.{List}
use Prim.Native.Nat.{ℕ, ◌+◌, ◌-◌, ◌*◌, ◌≤◌}
use Rattle.tour_orders.specs.Orders.{numbers_from}
use Rattle.tour_sums.specs.Tours.{summed, least_figure}
use Rattle.tour_entries.proofs.Figure.{entry}
use Rattle.tour_entries.proofs.least_figure.Given as goal

-- the windows from `window` on are left to enter
pub record Left (n : ℕ) (square : List (List ℕ)) (least window : ℕ) : Type 0 where
  pub small : least ≤ (window - 1) * 65535
  pub rest : least + summed (entry square n) (numbers_from window (n - window)) ≡ least_figure square n

abbrev pub invariant-loop-window : goal.invariant-loop-window
invariant-loop-window l = Left l.n l.square l.least l.window
