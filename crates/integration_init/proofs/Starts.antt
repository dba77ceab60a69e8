-- What sight starts with.
--     wall_step, wall_end            walls, cell by cell
--     portal_step .. portal_put      a window's cells, marked and listed one after another
--     goal_sight, goal_ready         the goal in the walls
-- Assumes nothing.
use mathlib.Core.Path.{◌≡◌, refl, sym, ap, ap₂, ◌∙◌}
use mathlib.Core.List.{List, [], ◌∷◌, ◌++◌}
use Prim.Native.Nat.{ℕ, ◌+◌, ◌<◌}
use native.Mathlib.Numerals.{add-one}
use native.Mathlib.Omega.{arith}
use lib.ListN.{length, get_or, set, take, get_or-map}
use lib.Seq.{slice, slice-cons, slice_empty, take-suc, take-suc-set, take_all, length-take-le}
use Rattle.fields.specs.declared.CellList.{CellList}
use Rattle.route.specs.Inner.{held_cells, WindowHeld}
use Rattle.route.proofs.Targets.{held_length}
use Rattle.integration_field.specs.declared.IntegrationField.{IntegrationField}
use Rattle.integration_field.specs.Listed.{padded, no_positions, with_corners}
use Rattle.integration_field.proofs.Lists.{padded_push}
use Rattle.integration_started.specs.Sight.{wall_or, walls, with_portals, with_goal, sight_after}
use Rattle.integration_started.specs.Started.{started_at}
use Rattle.integration_started.specs.CornerLine.{corner_line}
use Rattle.integration_started.proofs.Before.{walls_length}
use Rattle.integration_started.proofs.Lines.{corner_lines}
use Rattle.integration_started.proofs.Waves.{sight_room}
use Rattle.integration_init.specs.Held.{sight_of, Ready}

module _ (costs cells : List ℕ) (hundred : length costs ≡ 100) (full : length cells ≡ 100) where
  pub wall_step : (i x : ℕ) → i < 100 → x ≡ wall_or (get_or costs i 0) → take i cells ≡ take i (walls costs)
      → take (i + 1) (set cells i x) ≡ take (i + 1) (walls costs)
  unfolding walls
  wall_step i x h e t =
      rw add-one
      (take-suc-set cells i x (omega arith)
      ∙ ap₂ (λ (l : List ℕ) (y : ℕ). l ++ y ∷ []) t (e ∙ sym (get_or-map wall_or costs i 0))
      ∙ sym (take-suc (walls costs) i 65535 (omega (arith, walls_length costs))))

  pub wall_end : take 100 cells ≡ take 100 (walls costs) → cells ≡ walls costs
  wall_end t = sym (take_all 100 cells (omega arith)) ∙ t ∙ take_all 100 (walls costs) (omega (arith, walls_length costs))

module _ (held : CellList 10) (w : WindowHeld held) where
  abbrev window : List ℕ
  window = held.cells

  abbrev count : ℕ
  count = held.count

  pub portal_step : (i : ℕ) (cells : List ℕ) → i < count
      → with_portals (slice i count window) cells ≡ with_portals (slice (i + 1) count window) (set cells (get_or window i 0) 0x80000)
  unfolding with_portals
  portal_step i cells h =
      ap (λ (l : List ℕ). with_portals l cells) (slice-cons i count window 0 h (omega (arith, w.full, w.count_in)))
      ∙ ap (λ (k : ℕ). with_portals (slice k count window) (set cells (get_or window i 0) 0x80000)) (sym (add-one i))

  pub portal_end : (cells : List ℕ) → with_portals (slice count count window) cells ≡ cells
  unfolding with_portals
  portal_end cells = ap (λ (l : List ℕ). with_portals l cells) (slice_empty count window)

  pub portal_listed : (i : ℕ) (corners : List ℕ) → i < count → corners ≡ padded (take i window)
      → set corners i (get_or window i 0) ≡ padded (take (i + 1) window)
  portal_listed i corners h e =
      let long : length (take i window) ≡ i = length-take-le i window (omega (arith, w.full, w.count_in)) in
      ap₂ (λ (l : List ℕ) (k : ℕ). set l k (get_or window i 0)) e (sym long)
      ∙ padded_push (take i window) (get_or window i 0) (omega (arith, w.count_in))
      ∙ ap padded (sym (take-suc window i 0 (omega (arith, w.full, w.count_in))) ∙ ap (λ (k : ℕ). take k window) (sym (add-one i)))

  pub portal_put : (costs cells corners places : List ℕ) → cells ≡ with_portals (held_cells held) (walls costs)
      → corners ≡ padded (held_cells held) → places ≡ no_positions
      → record { field = cells; los_corners = corners; count = count; positions = places } ≡ started_at costs (held_cells held)
  unfolding started_at
  portal_put costs cells corners places e g h =
      let l = held_cells held in
      ap₂ (λ (x y : List ℕ). record { field = x; los_corners = y; count = count; positions = places }) e g
      ∙ ap₂ (λ (n : ℕ) (z : List ℕ). record { field = with_portals l (walls costs); los_corners = padded l; count = n; positions = z })
      (sym (held_length held w)) h

-- the walls with the goal in them, and no corner
module _ (costs : List ℕ) (goal : ℕ) where
  abbrev begun : IntegrationField
  begun = with_corners (set (walls costs) goal 0x20000) []

  pub goal_sight : sight_of begun (goal ∷ []) ≡ sight_after (corner_line goal) (walls costs) goal 0
  unfolding sight_after with_goal
  goal_sight = refl

  pub goal_ready : length costs ≡ 100 → goal < 100 → Ready begun
  unfolding sight_after with_goal
  goal_ready hundred inside = record {
    room = sight_room goal inside costs hundred (corner_line goal) (corner_lines goal) 0;
    held = record { cells_held = refl; corners_held = refl; count_held = refl; no_positions_held = refl };
  }
