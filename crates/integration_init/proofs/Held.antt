-- Laws of fields that hold a sight.
--     held_sight       the sight that a field holds, with any queue
--     held_all         and with the queue that it is held with
--     applied_sight    what a field holds when a definition is applied to it
--     applied_ready    it is ready again
--     applied_then     one definition after another
--     still_held       a field that is left as it is
--     applied_still    so is the definition that leaves a sight as it is
--     all_ready        a field that holds a sight with its queue is ready
-- Assumes nothing.
use mathlib.Core.Path.{◌≡◌, refl, sym, ap, ap₂, subst, ◌∙◌}
use mathlib.Core.List.{List, []}
use Prim.Native.Nat.{ℕ}
use lib.ListN.{take}
use Rattle.fields.specs.declared.CellList.{CellList}
use Rattle.fields.specs.CellList.{held}
use Rattle.integration_field.specs.declared.IntegrationField.{IntegrationField}
use Rattle.integration_field.proofs.Lists.{padded_list}
use Rattle.integration_started.specs.Sight.{Sight}
use Rattle.integration_started.specs.Room.{Room}
use Rattle.integration_init.specs.Held.{sight_of, Holds, HoldsAll, Ready, ReadyAll, Leaves, Applied}

module _ {s : Sight} {f : IntegrationField} where
  held_sight : Holds s f → (queue : List ℕ) → sight_of f queue ≡ record { cells = s.cells; corners = s.corners; queue = queue }
  held_sight h queue =
      let e : take f.count f.los_corners ≡ s.corners = ap₂ (λ (n : ℕ) (l : List ℕ). take n l) h.count_held h.corners_held ∙ padded_list s.corners in
      ap₂ (λ (x y : List ℕ). record { cells = x; corners = y; queue = queue }) h.cells_held e

  pub held_all : {q : CellList 100} → HoldsAll s f q → sight_of f (held q) ≡ s
  held_all {q} h =
      held_sight h.held (held q) ∙ ap (λ (l : List ℕ). record { cells = s.cells; corners = s.corners; queue = l }) h.queue_held

  pub all_ready : {q : CellList 100} → HoldsAll s f q → ReadyAll f q
  all_ready {q} h = subst (λ (t : Sight). HoldsAll t f q) (sym (held_all h)) h

-- a field holds its own sight, whatever is queued
pub still_held : {f : IntegrationField} {before queue : List ℕ} → Holds (sight_of f before) f → Holds (sight_of f queue) f
still_held h = record { cells_held = refl; corners_held = h.corners_held; count_held = h.count_held; no_positions_held = h.no_positions_held }

module _ {f : IntegrationField} (ready : Ready f) where
  pub applied_still : Applied (λ s. s) f f
  applied_still queue = record { room = λ r. r; queued = refl; held = still_held ready.held }

  module _ (step : Sight → Sight) {g : IntegrationField} (a : Applied step f g) where
    pub applied_sight : (queue : List ℕ) → sight_of g queue ≡ step (sight_of f queue)
    applied_sight queue =
        let t = step (sight_of f queue) in
        held_sight (a queue).held queue
        ∙ ap (λ (l : List ℕ). record { cells = t.cells; corners = t.corners; queue = l }) (sym (a queue).queued)

    pub applied_ready : Ready g
    applied_ready =
        let e = sym (applied_sight []) in
        record { room = subst Room e ((a []).room ready.room); held = subst (λ (t : Sight). Holds t g) e (a []).held }

    pub applied_then : (more : Sight → Sight) {h : IntegrationField} → Applied more g h → Applied (λ s. more (step s)) f h
    applied_then more {h} b queue =
        let s = sight_of f queue in
        let l : Leaves (step s) (more (step s)) h = subst (λ (t : Sight). Leaves t (more t) h) (applied_sight queue) (b queue) in
        record { room = λ r. l.room ((a queue).room r); queued = l.queued ∙ (a queue).queued; held = l.held }
