-- `tour_entries::least_figure` meets its contract. The loop's invariant: with the entries into the windows from `window` on, the sum is the least figure.
-- Assumes nothing.
use Rattle.std.proofs.Common.{◌≤◌, arith}
use Rattle.tour_sums.proofs.Least.{entry_small}
use Rattle.tour_entries.proofs.Figure.{figure_starts, figure_goes}
use Rattle.tour_entries.proofs.least_figure.Goals as goal

-- what the window's entry adds is small
small : (c : goal.After-cheapest_entry-least) → c.cheapest_entry-least.result ≤ 65535
small c = omega (arith, c.cheapest_entry-least.ensures, entry_small c.args.square c.loop-window.window c.args.n)

pub loop-window-init : goal.loop-window-init
loop-window-init c =
    let starts = figure_starts c.args.square c.args.n in
    record { small = omega arith; rest = omega (arith, starts) }

pub overflow_add-least : goal.overflow_add-least
overflow_add-least c = omega (arith, small c)

pub loop-window-preserved : goal.loop-window-preserved
loop-window-preserved c =
    let goes = figure_goes c.args.square c.args.n c.loop-window.window (omega arith) in
    record {
      small = omega (arith, small c);
      rest = omega (arith, goes, c.cheapest_entry-least.ensures);
    }
