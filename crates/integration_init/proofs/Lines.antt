-- The cells of a corner's line, marked one after another in a field.
--     Walking                                            what holds before the line's i-th cell
--     walk_goes, walk_stops, walk_ends                   from one cell to the next
--     line_drawn                                         a line as it is drawn, in indexes
-- Assumes nothing.
use mathlib.Core.Path.{◌≡◌, refl, sym, ap, ap₂, subst, ◌∙◌}
use mathlib.Core.Bool.{true, false}
use mathlib.Core.List.{List, ◌∷◌}
use Prim.Native.Nat.{ℕ, ◌+◌, ◌<◌, ◌≤◌}
use native.Mathlib.Numerals.{add-one}
use native.Mathlib.Omega.{arith}
use lib.ListN.{length, get_or, length-map, get_or-map}
use lib.Seq.{slice, slice-cons, slice_empty}
use Rattle.fields.specs.declared.FieldCell.{FieldCell}
use Rattle.fields.specs.declared.CellList.{CellList}
use Rattle.fields.specs.Cell.{Inside, cell, index_of}
use Rattle.fields.specs.CellList.{held}
use Rattle.fields.proofs.Steps.{index_below}
use Rattle.line_nearest.specs.Line.{line}
use Rattle.line_nearest.proofs.Theorem.{line_room, line_inside}
use Rattle.bresenham.specs.Inner.{DrawnIn}
use Rattle.bresenham.proofs.Drawn.{drawn_list}
use Rattle.integration_field.specs.declared.IntegrationField.{IntegrationField}
use Rattle.integration_started.specs.Sight.{Sight, marked, stopped, line_marked}
use Rattle.integration_started.specs.Room.{Room}
use Rattle.integration_init.specs.Held.{sight_of, Ready, Leaves, Applied}
use Rattle.integration_init.proofs.Held.{still_held, applied_sight, applied_ready}

-- a line, marked from its corner on, and from its i-th cell on
abbrev whole : ℕ → ℕ → List ℕ → Sight → Sight
whole wave corner line s = line_marked wave 0 corner line s

abbrev rest : ℕ → List ℕ → ℕ → ℕ → Sight → Sight
rest wave line i previous s = line_marked wave i previous (slice i (length line) line) s

module _ (wave corner : ℕ) (line : List ℕ) (f₀ : IntegrationField) where
  pub record Walking (f : IntegrationField) (previous value i : ℕ) : Type 0 where
    pub at : i ≤ length line
    pub entered : previous < 100
    pub next : value ≡ wave + 1 + i
    pub ready : Ready f
    pub left : (queue : List ℕ) → whole wave corner line (sight_of f₀ queue) ≡ rest wave line i previous (sight_of f queue)
    pub room : (queue : List ℕ) → Room (sight_of f₀ queue) → Room (sight_of f queue)

module _ {wave corner : ℕ} {line : List ℕ} {f₀ f : IntegrationField} {previous value i : ℕ} (w : Walking wave corner line f₀ f previous value i) where
  over : ((queue : List ℕ) → rest wave line i previous (sight_of f queue) ≡ sight_of f queue) → Applied (whole wave corner line) f₀ f
  over e queue =
      subst (λ (t : Sight). Leaves (sight_of f₀ queue) t f) (sym (w.left queue ∙ e queue))
      (record { room = w.room queue; queued = refl; held = still_held w.ready.held })

  pub walk_ends : length line ≤ i → Applied (whole wave corner line) f₀ f
  unfolding line_marked
  walk_ends h =
      let e : i ≡ length line = omega (arith, w.at) in
      over (λ queue.
      ap (λ (k : ℕ). line_marked wave i previous (slice k (length line) line) (sight_of f queue)) e
      ∙ ap (λ (l : List ℕ). line_marked wave i previous l (sight_of f queue)) (slice_empty (length line) line))

  module _ (n : ℕ) (more : i < length line) (index : n ≡ get_or line i 0) where
    -- what is left begins with the cell n
    begins : slice i (length line) line ≡ n ∷ slice (i + 1) (length line) line
    begins =
        slice-cons i (length line) line 0 more (omega arith)
        ∙ ap₂ (λ (m k : ℕ). m ∷ slice k (length line) line) (sym index) (sym (add-one i))

    pub walk_stops : stopped f.field previous n ≡ true → Applied (whole wave corner line) f₀ f
    unfolding line_marked
    walk_stops t = over (λ queue. ap (λ (l : List ℕ). line_marked wave i previous l (sight_of f queue)) begins ∙ rw t)

    goes : (s : Sight) → stopped s.cells previous n ≡ false → rest wave line i previous s ≡ rest wave line (i + 1) n (marked value n s)
    unfolding line_marked
    goes s t =
        ap (λ (l : List ℕ). line_marked wave i previous l s) begins
        ∙ rw t (ap₂ (λ (k v : ℕ). line_marked wave k n (slice (i + 1) (length line) line) (marked v n s)) (sym (add-one i)) (sym w.next))

    pub walk_goes : n < 100 → stopped f.field previous n ≡ false → {g : IntegrationField} → Applied (marked value n) f g
        → Walking wave corner line f₀ g n (value + 1) (i + 1)
    walk_goes h t {g} a = record {
      at = omega arith;
      entered = h;
      next = omega (arith, w.next);
      ready = applied_ready w.ready (marked value n) a;
      left = λ queue. w.left queue ∙ goes (sight_of f queue) t
          ∙ ap (rest wave line (i + 1) n) (sym (applied_sight w.ready (marked value n) a queue));
      room = λ queue k. subst Room (sym (applied_sight w.ready (marked value n) a queue)) ((a queue).room (w.room queue k));
    }

-- a line that is drawn between two cells of the sector: its indexes are those of cells, and at most ten
module _ (s t : FieldCell) (hs : Inside s) (ht : Inside t) (drawn : CellList 10) (d : DrawnIn (line s t) drawn) where
  pub line_short : length (held drawn) ≤ 10
  line_short = rw (drawn_list d) (omega (arith, length-map (line s t) index_of, line_room s t hs ht))

  pub line_drawn : (i : ℕ) → i < length (held drawn) → get_or (held drawn) i 0 < 100
  line_drawn = rw (drawn_list d) (λ i h.
      let k : i < length (line s t) = omega (arith, length-map (line s t) index_of) in
      subst (λ (n : ℕ). n < 100) (sym (get_or-map index_of (line s t) i (cell 0 0))) (index_below (get_or (line s t) i (cell 0 0)) (line_inside s t hs ht i k)))
