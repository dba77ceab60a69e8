-- Sight that comes to one neighbour, in a lent field, and the waves that are made of such steps.
--     all_begins              the field without its queue
--     wall_held               a wall met
--     seen_room, seen_held    a cell that comes into sight
--     Spreading               what holds in a loop that spreads sight place by place, with spread_on and spread_ends
--     wave_step, wave_end     a wave, from the cell at place i on
--     open_cell               a cell that is no wall is the cell stepped to
-- Assumes nothing.
use mathlib.Core.Path.{◌≡◌, refl, sym, ap, ◌∙◌}
use mathlib.Core.Bool.{Bool, true, false, cond}
use mathlib.Core.List.{List, [], ◌∷◌, ◌++◌}
use Prim.Native.Nat.{ℕ, ◌+◌, ◌<◌, ◌≤◌}
use native.Mathlib.Numerals.{add-one}
use native.Mathlib.Omega.{arith}
use lib.ListN.{length, get_or, set, length-append, length-set}
use lib.Seq.{slice, slice-cons, slice_empty, take-suc-set}
use Rattle.utilities.specs.Compass.{orthogonal}
use Rattle.fields.specs.declared.FieldCell.{FieldCell}
use Rattle.std.specs.Prelude.{Option, Some, None}
use Rattle.fields.specs.Cell.{index_of}
use Rattle.fields.specs.declared.CellList.{CellList}
use Rattle.fields.specs.CellList.{held, pushed}
use Rattle.integration_field.specs.declared.IntegrationField.{IntegrationField}
use Rattle.integration_field.specs.Word.{is_los, is_blocked}
use Rattle.integration_field.specs.Diagonal.{wall_at}
use Rattle.integration_started.specs.Sight.{Sight, sight_word, unless_wall, seen, spread_around, wave_spread}
use Rattle.integration_started.proofs.Room.{room_queue, room_seen, room_begins}
use Rattle.integration_init.specs.Held.{sight_of, Ready, ReadyAll, HoldsAll, Applied, Lent}
use Rattle.integration_init.proofs.Held.{still_held, held_all, all_ready}

module _ {f : IntegrationField} {next : CellList 100} (ready : ReadyAll f next) where
  abbrev now : Sight
  now = sight_of f (held next)

  pub all_begins : Ready f
  all_begins = record { room = room_begins now ready.room; held = still_held ready.held }

  pub wall_held : (step : Sight → Sight) {g : IntegrationField} → Applied step f g → HoldsAll (step now) g next
  wall_held step a =
      let l = a (held next) in
      record {
        room = l.room ready.room;
        held = l.held;
        full = ready.full;
        queue_held = sym l.queued;
        queued_held = ready.queued_held ∙ ap length (sym l.queued);
      }

  module _ (n : ℕ) (inside : n < 100) (l : is_los (get_or f.field n 0) ≡ false) (b : is_blocked (get_or f.field n 0) ≡ false) where
    pub seen_room : next.count < 100
    seen_room = omega (arith, ready.queued_held, room_queue now ready.room n inside l b)

    -- the field with the cell in sight
    abbrev lit : ℕ → IntegrationField
    lit wave = record { field = set f.field n (sight_word wave); los_corners = f.los_corners; count = f.count; positions = f.positions }

    pub seen_held : (wave : ℕ) → wave ≤ 100 → HoldsAll (seen wave n now) (lit wave) (pushed n next)
    unfolding seen
    seen_held wave small =
        let q = next.cells in
        let room = seen_room in
        let long : length (held next ++ n ∷ []) ≡ length (held next) + 1 = length-append (held next) (n ∷ []) in
        record {
          room = room_seen now ready.room wave n inside (omega arith) l b;
          held = record {
            cells_held = refl;
            corners_held = ready.held.corners_held;
            count_held = ready.held.count_held;
            no_positions_held = ready.held.no_positions_held;
          };
          full = length-set q next.count n ∙ ready.full;
          queue_held = rw add-one (take-suc-set q next.count n (omega (arith, ready.full)));
          queued_held = omega (arith, ready.queued_held);
        }

-- Before place i of `last`: what is left from there on brings the field's sight to the whole. The ends of the goal's lines stay lent.
module _ (whole : Sight) (rest : ℕ → Sight → Sight) (last goal : ℕ) (ends : List ℕ) where
  pub record Spreading (f : IntegrationField) (next : CellList 100) (i : ℕ) : Type 0 where
    pub at : i ≤ last
    pub ready : ReadyAll f next
    pub left : whole ≡ rest i (sight_of f (held next))
    pub lent : Lent goal ends f.field

module _ {whole : Sight} {rest : ℕ → Sight → Sight} {last goal : ℕ} {ends : List ℕ} {f : IntegrationField} {next : CellList 100} {i : ℕ}
    (p : Spreading whole rest last goal ends f next i) where
  pub spread_on : (t : Sight) {g : IntegrationField} {more : CellList 100} → i < last → rest i (sight_of f (held next)) ≡ rest (i + 1) t
      → HoldsAll t g more → Lent goal ends t.cells → Spreading whole rest last goal ends g more (i + 1)
  spread_on t before step holds lent = record {
    at = omega arith;
    ready = all_ready holds;
    left = p.left ∙ step ∙ ap (rest (i + 1)) (sym (held_all holds));
    lent = rw holds.held.cells_held lent;
  }

  pub spread_ends : last ≤ i → ((s : Sight) → rest last s ≡ s) → HoldsAll whole f next
  spread_ends over none =
      let s = sight_of f (held next) in
      let e : i ≡ last = omega (arith, p.at) in
      rw (p.left ∙ ap (λ (k : ℕ). rest k s) e ∙ none s) p.ready

module _ (line : ℕ → List ℕ) (wave : ℕ) (cells : List ℕ) (count : ℕ) where
  pub wave_step : (i : ℕ) (s : Sight) → i < count → count ≤ length cells
      → wave_spread line wave (slice i count cells) s ≡ wave_spread line wave (slice (i + 1) count cells) (spread_around line wave (get_or cells i 0) orthogonal s)
  unfolding wave_spread
  wave_step i s h k =
      ap (λ (l : List ℕ). wave_spread line wave l s) (slice-cons i count cells 0 h k)
      ∙ ap (λ (m : ℕ). wave_spread line wave (slice m count cells) (spread_around line wave (get_or cells i 0) orthogonal s)) (sym (add-one i))

  pub wave_end : (s : Sight) → wave_spread line wave (slice count count cells) s ≡ s
  unfolding wave_spread
  wave_end s = ap (λ (l : List ℕ). wave_spread line wave l s) (slice_empty count cells)

no_wall : (t : Bool) (m n : FieldCell) → cond t None (Some m) ≡ Some n → Some m ≡ Some n
no_wall true m n e = let z : ◌≡◌ {A = ℕ} 0 1 = cc in absurd (omega arith)
no_wall false m n e = e

pub open_cell : (cells : List ℕ) (s : Option FieldCell) (n : FieldCell) → unless_wall cells s ≡ Some n → s ≡ Some n
open_cell cells (Some m) n e = no_wall (wall_at cells (index_of m)) m n e
open_cell cells None n e = e
