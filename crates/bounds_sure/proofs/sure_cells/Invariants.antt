-- The invariant of `sure_cells`: the marks of the first i cells are in their places.
-- Assumes nothing.
use Rattle.std.proofs.Common.{◌≡◌, ℕ, ◌<◌, List}
use lib.ListN.{get_or}
use Rattle.integration_field.specs.Word.{is_portal}
use Rattle.flow_byte.specs.New.{is_in}
use Rattle.bounds_told.specs.Bounds.{is_sure}
use Rattle.utilities.proofs.Lists.{FilledTo}
use Rattle.bounds_sure.proofs.sure_cells.Given as goal

-- whichever window has the cells that are flagged as portals
abbrev pub invariant-loop-i : goal.invariant-loop-i
invariant-loop-i l =
    (window : List ℕ) → ((n : ℕ) → n < 100 → is_portal (get_or l.cells n 0) ≡ is_in n window)
    → FilledTo 100 (is_sure l.cells window l.least l.greatest) l.i l.sure
