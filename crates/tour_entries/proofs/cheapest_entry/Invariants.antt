-- `tour_entries::cheapest_entry` meets its contract. The loop's invariant: the cheapest entry from the windows below `from` is known.
-- Assumes nothing.
use mathlib.Core.Path.{◌≡◌}
use Rattle.tour_sums.specs.Tours.{cheapest_entry}
use Rattle.tour_entries.proofs.cheapest_entry.Given as goal

abbrev pub invariant-loop-from : goal.invariant-loop-from
invariant-loop-from l = l.cheapest ≡ cheapest_entry l.square l.window l.from
