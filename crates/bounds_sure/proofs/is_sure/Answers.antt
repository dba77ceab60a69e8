-- `bounds_sure::is_sure` meets its contract: each test in the order of the definition.
-- Assumes nothing.
use Rattle.std.proofs.Common.{◌≡◌, ℕ, ◌<◌, false, ◌&&◌, ◌||◌, List, sym, ◌∙◌}
use lib.Dec.{ltb}
use lib.ListN.{get_or}
use Rattle.integration_field.specs.Word.{is_portal}
use Rattle.integration_field.specs.Diagonal.{wall_at}
use Rattle.flow_byte.specs.New.{is_in}
use Rattle.bounds_told.specs.Bounds.{some_of, permitted_from, is_below_others, is_sure}
use Rattle.bounds_sure.proofs.Loops.{sure_flagged}
use Rattle.bounds_sure.proofs.is_sure.Goals as goal

-- where the cell is known to be neither wall nor window cell, and its neighbours are found
decided : (cells least greatest : List ℕ) (i : ℕ) (neighbours : List ℕ) → i < 100 → wall_at cells i ≡ false → is_portal (get_or cells i 0) ≡ false
    → neighbours ≡ permitted_from cells i → (window : List ℕ) → ((n : ℕ) → n < 100 → is_portal (get_or cells n 0) ≡ is_in n window)
    → is_sure cells window least greatest i
    ≡ (some_of (λ n. is_portal (get_or cells n 0)) neighbours
    || some_of (λ n. ltb (get_or greatest n 0) 65535 && is_below_others least greatest neighbours n) neighbours)
decided cells least greatest i neighbours h wall portal e window portals =
    sure_flagged cells window least greatest i h portals neighbours e ∙ rw (wall, portal)

pub returns-then-is_impassable : goal.returns-then-is_impassable
unfolding is_sure
returns-then-is_impassable c window portals = rw (sym c.is_impassable.ensures ∙ c.if-is_impassable.true)

pub returns-then-is_portal : goal.returns-then-is_portal
unfolding is_sure
returns-then-is_portal c window portals =
    let wall : wall_at c.args.cells.now c.args.index ≡ false = sym c.is_impassable.ensures ∙ c.if-is_impassable.false in
    rw (wall, ← (portals c.args.index c.requires), sym c.is_portal.ensures ∙ c.if-is_portal.true)

pub returns-then-has_window : goal.returns-then-has_window
returns-then-has_window c window portals =
    let a = c.args in
    let d = decided a.cells.now a.least.now a.greatest.now a.index _ c.requires (sym c.is_impassable.ensures ∙ c.if-is_impassable.false)
    (sym c.is_portal.ensures ∙ c.if-is_portal.false) c.permitted_from-neighbours.ensures window portals in
    c.if-has_window.true ∙ sym (d ∙ rw (sym c.has_window.ensures ∙ c.if-has_window.true))

pub returns-else-has_window : goal.returns-else-has_window
returns-else-has_window c window portals =
    let a = c.args in
    let d = decided a.cells.now a.least.now a.greatest.now a.index _ c.requires (sym c.is_impassable.ensures ∙ c.if-is_impassable.false)
    (sym c.is_portal.ensures ∙ c.if-is_portal.false) c.permitted_from-neighbours.ensures window portals in
    c.has_least.ensures ∙ sym (d ∙ rw (sym c.has_window.ensures ∙ c.if-has_window.false))
