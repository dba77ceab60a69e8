-- There is room in the queue for every cell that has no position: as many are queued as have one.
--     tried                          what becomes of a cell that is tried
--     grown_none .. grown_around     what was queued and placed stays so
--     kept_least                     a cell keeps its position, or the earlier one that it has
--     queued_few, has_room           no more are queued than there are cells
--     room_at, room_to               there is room behind a cell that was tried
-- Assumes nothing.
use mathlib.Core.Path.{◌≡◌, refl, sym, ap, ◌∙◌}
use mathlib.Core.List.{List, [], ◌∷◌}
use Prim.Native.Nat.{ℕ, suc, ◌<◌, ◌≤◌}
use native.Mathlib.Omega.{arith}
use native.Mathlib.Decide.{ℕ_discrete}
use borrow.Author.Tests.{eq-eqb, ne_eqb}
use lib.ListN.{get_or, set, length-set}
use lib.Seq.{get_or-set_other}
use Rattle.utilities.specs.declared.CompassDir.{CompassDir}
use Rattle.utilities.specs.Count.{bit}
use Rattle.utilities.proofs.Count.{count_set, count_length, count_room, at_set}
use Rattle.fields.specs.declared.FieldCell.{FieldCell}
use Rattle.std.specs.Prelude.{Option, Some, None}
use Rattle.fields.specs.Cell.{index_of, stepped}
use Rattle.fields.proofs.Steps.{stepped_cell, index_below}
use Rattle.integration_positions.specs.Inner.{is_placed, Placing, placing, QueueRoom, Grown, placed_at, placed_to, placed_around}

-- ---- one cell

-- what becomes of a cell that is tried: it takes the position and is queued, or nothing counts as changed
pub data Tried (entered : List ℕ) (value p x : ℕ) (s t : Placing) : Type 0 where
  taken : t ≡ placing (set s.places x p) (set s.queue s.queued x) (suc s.queued) → get_or s.places x 0 ≡ 255 → get_or entered x 0 ≡ value
      → Tried entered value p x s t
  held : t ≡ placing s.places (set s.queue s.queued x) s.queued → (get_or s.places x 0 ≡ 255 → ⊥) → Tried entered value p x s t
  passed_by : t ≡ placing s.places (set s.queue s.queued x) s.queued → (get_or entered x 0 ≡ value → ⊥) → Tried entered value p x s t

pub tried : (entered : List ℕ) (value p x : ℕ) (s : Placing) → Tried entered value p x s (placed_at entered value p x s)
unfolding placed_at
tried entered value p x s = go (ℕ_discrete (get_or s.places x 0) 255) (ℕ_discrete (get_or entered x 0) value)
  where
    go : Dec (get_or s.places x 0 ≡ 255) → Dec (get_or entered x 0 ≡ value) → Tried entered value p x s (placed_at entered value p x s)
    go (yes a) (yes b) = taken (rw (eq-eqb _ _ a, eq-eqb _ _ b)) a b
    go (yes a) (no b) = passed_by (rw (eq-eqb _ _ a, ne_eqb _ _ b)) b
    go (no a) b = held (rw (ne_eqb _ _ a)) a

pub grown_none : (s : Placing) → Grown s s
grown_none s = record { more = omega arith; queue_kept = λ j h. refl; places_kept = λ z h. refl }

pub grown_then : {s t u : Placing} → Grown s t → Grown t u → Grown s u
grown_then g h = record {
  more = omega (arith, g.more, h.more);
  queue_kept = λ j l. h.queue_kept j (omega (arith, g.more)) ∙ g.queue_kept j l;
  places_kept = λ z n. h.places_kept z (λ e. n (sym (g.places_kept z n) ∙ e)) ∙ g.places_kept z n;
}

-- a cell that holds a position or an earlier one goes on to
pub kept_least : {s t : Placing} → Grown s t → (x p : ℕ) → p < 255 → get_or s.places x 0 ≤ p → get_or t.places x 0 ≤ p
kept_least g x p h l = omega (arith, g.places_kept x (λ e. absurd (omega arith)))

-- a cell written behind the queue
pub behind_queue : (s : Placing) (x j : ℕ) → j < s.queued → get_or (set s.queue s.queued x) j 0 ≡ get_or s.queue j 0
behind_queue s x j l = get_or-set_other s.queue s.queued j x 0 (λ q. absurd (omega arith))

grown_behind : (s : Placing) (x : ℕ) → Grown s (placing s.places (set s.queue s.queued x) s.queued)
grown_behind s x = record { more = omega arith; queue_kept = λ j l. behind_queue s x j l; places_kept = λ z n. refl }

pub queued_few : (s : Placing) → QueueRoom s → s.queued ≤ 100
queued_few s r = omega (arith, r.counted, r.full, count_length is_placed s.places)

-- there is room for a cell that has no position
pub has_room : (s : Placing) (x : ℕ) → QueueRoom s → x < 100 → get_or s.places x 0 ≡ 255 → s.queued < 100
has_room s x r l e = omega (arith, r.counted, r.full, count_room is_placed s.places x (omega (arith, r.full)) (rw e))

room_behind : (s : Placing) (x : ℕ) → x < 100 → QueueRoom s → QueueRoom (placing s.places (set s.queue s.queued x) s.queued)
room_behind s x l r = record {
  full = r.full;
  counted = r.counted;
  indexes = record {
    full = length-set s.queue s.queued x ∙ r.indexes.full;
    count_in = r.indexes.count_in;
    cells_in = λ j k. rw (behind_queue s x j k) (r.indexes.cells_in j k);
  };
}

module _ (entered : List ℕ) (value p : ℕ) where
  pub grown_at : (x : ℕ) (s : Placing) {t : Placing} → Tried entered value p x s t → Grown s t
  grown_at x s (held e h) = rw e (grown_behind s x)
  grown_at x s (passed_by e h) = rw e (grown_behind s x)
  grown_at x s (taken e h v) = rw e (record {
    more = omega arith;
    queue_kept = λ j l. behind_queue s x j l;
    places_kept = λ z n. get_or-set_other s.places x z p 0 (λ q. n (ap (λ (k : ℕ). get_or s.places k 0) q ∙ h));
  })

  module _ (h : p < 255) where
    placed_one : bit (is_placed p) ≡ 1
    placed_one = rw (ne_eqb p 255 (λ e. absurd (omega arith)))

    pub room_at : (x : ℕ) (s : Placing) {t : Placing} → x < 100 → QueueRoom s → Tried entered value p x s t → QueueRoom t
    room_at x s l r (held e n) = rw e (room_behind s x l r)
    room_at x s l r (passed_by e n) = rw e (room_behind s x l r)
    room_at x s l r (taken e v w) =
        let free : s.queued < 100 = has_room s x r l v in
        let none : bit (is_placed (get_or s.places x 0)) ≡ 0 = rw v in
        rw e (record {
          full = length-set s.places x p ∙ r.full;
          counted = omega (arith, count_set is_placed s.places x p (omega (arith, r.full)), none, placed_one, r.counted);
          indexes = record {
            full = length-set s.queue s.queued x ∙ r.indexes.full;
            count_in = omega arith;
            cells_in = λ j k. at_set (λ q. q < 100) s.queue s.queued x j (omega (arith, r.indexes.full)) (λ q. l)
                (λ n. r.indexes.cells_in j (omega arith));
          };
        })

    pub room_to : (c : FieldCell) (d : CompassDir) (t : Option FieldCell) → stepped c d ≡ t → (s : Placing) → QueueRoom s → QueueRoom (placed_to entered value p t s)
    room_to c d (Some n) e s r = room_at (index_of n) s (index_below n (stepped_cell c d n e).within) r (tried entered value p (index_of n) s)
    room_to c d None e s r = r

  grown_to : (t : Option FieldCell) (s : Placing) → Grown s (placed_to entered value p t s)
  grown_to (Some n) s = grown_at (index_of n) s (tried entered value p (index_of n) s)
  grown_to None s = grown_none s

  pub grown_around : (c : FieldCell) (ds : List CompassDir) (s : Placing) → Grown s (placed_around entered value p c ds s)
  unfolding placed_around
  grown_around c [] s = grown_none s
  grown_around c (d ∷ ds) s = grown_then (grown_to (stepped c d) s) (grown_around c ds _)
