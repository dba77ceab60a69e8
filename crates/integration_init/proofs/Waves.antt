-- Waves of sight, one after another.
--     wave_next                  one wave more
--     held_as, held_same         a field holds a sight that is its own, or equal to it
--     held_field                 the field that holds a sight
--     held_wavefront             the wave that is held with it
--     around_step, around_end    the neighbours of a cell, from the k-th on
-- Assumes nothing.
use mathlib.Core.Path.{◌≡◌, refl, sym, ap, ap₂, subst, ◌∙◌}
use mathlib.Core.List.{List}
use Prim.Native.Nat.{ℕ, suc, ◌+◌, ◌<◌}
use native.Mathlib.Numerals.{add-one}
use native.Mathlib.Omega.{arith}
use lib.ListN.{drop}
use lib.Seq.{get_or-take, drop-cons}
use Rattle.utilities.specs.declared.CompassDir.{CompassDir}
use Rattle.utilities.specs.declared.CompassDir.TheVariants.{Zero}
use Rattle.utilities.specs.Compass.{orthogonal, side_of}
use Rattle.fields.specs.declared.CellList.{CellList}
use Rattle.fields.specs.Cell.{cell_at, stepped}
use Rattle.fields.specs.CellList.{held}
use Rattle.integration_field.specs.declared.IntegrationField.{IntegrationField}
use Rattle.integration_field.specs.Listed.{Indexes, no_positions, with_corners}
use Rattle.integration_started.specs.Sight.{Sight, begun, spread_towards, spread_around, wave_spread, sight_after}
use Rattle.integration_started.proofs.Room.{room_queued}
use Rattle.integration_init.specs.Held.{sight_of, Holds, Ready, ReadyAll}
use Rattle.integration_init.proofs.Held.{still_held}

pub wave_next : (line : ℕ → List ℕ) (cells : List ℕ) (goal k wave : ℕ) (s : Sight) → wave ≡ suc k → s ≡ sight_after line cells goal k
    → wave_spread line wave s.queue (begun s) ≡ sight_after line cells goal (suc k)
unfolding sight_after
wave_next line cells goal k wave s e f = ap₂ (λ (w : ℕ) (t : Sight). wave_spread line w t.queue (begun t)) e f

-- the queue is no part of what is held
pub held_as : {s : Sight} {f : IntegrationField} (queue : List ℕ) → Ready f → sight_of f queue ≡ s → Holds s f
held_as {s} {f} queue r e = subst (λ (t : Sight). Holds t f) e (still_held r.held)

pub held_same : {s t : Sight} {f : IntegrationField} → Holds s f → s ≡ t → Holds t f
held_same {f = f} h e = subst (λ (u : Sight). Holds u f) e h

pub held_field : {s : Sight} {f : IntegrationField} → Holds s f → f ≡ with_corners s.cells s.corners
held_field {s} {f} h =
    ap₂ (λ (x p : List ℕ). record { field = x; los_corners = f.los_corners; count = f.count; positions = p }) h.cells_held h.no_positions_held
    ∙ ap₂ (λ (x : List ℕ) (n : ℕ). record { field = s.cells; los_corners = x; count = n; positions = no_positions }) h.corners_held h.count_held

pub held_wavefront : {f : IntegrationField} {next : CellList 100} → ReadyAll f next → Indexes 100 next.cells next.count
held_wavefront {f} {next} h = record {
  full = h.full;
  count_in = omega (arith, h.queued_held, room_queued (sight_of f (held next)) h.room);
  cells_in = λ i p.
      subst (λ (n : ℕ). n < 100) (get_or-take next.count next.cells i 0 p) (h.room.queued_in i (omega (arith, h.queued_held)));
}

-- neighbours in order, from the k-th on
module _ (line : ℕ → List ℕ) (wave from : ℕ) where
  pub around_step : (k : ℕ) (s : Sight) → k < 4
      → spread_around line wave from (drop k orthogonal) s
      ≡ spread_around line wave from (drop (k + 1) orthogonal) (spread_towards line wave from (side_of k) (stepped (cell_at from) (side_of k)) s)
  unfolding spread_around
  around_step k s h =
      ap (λ (l : List CompassDir). spread_around line wave from l s) (drop-cons orthogonal k Zero h)
      ∙ ap (λ (n : ℕ). spread_around line wave from (drop n orthogonal) (spread_towards line wave from (side_of k) (stepped (cell_at from) (side_of k)) s))
      (sym (add-one k))

  pub around_end : (s : Sight) → spread_around line wave from (drop 4 orthogonal) s ≡ s
  unfolding spread_around
  around_end s = refl
