-- The code's arrays: its entries and its queue stand for the positions so far, and the positions are written as the cells of the queue come up.
--     stands_taken, stands_left    one cell tried: it takes the position exactly where its entry is the value
--     stands_none                  before the first corner
--     has_few, has_cells           no more are queued than there are cells, and they are cells
--     has_next, has_more           there is room behind a step, and no fewer are queued
--     written_same, written_next, written_grown, written_all    the positions that are written
-- Assumes nothing.
use mathlib.Core.Path.{◌≡◌, refl, sym, ap, ap₂, ◌∙◌}
use mathlib.Core.List.{List}
use Prim.Native.Nat.{ℕ, suc, ◌<◌, ◌≤◌}
use native.Mathlib.Omega.{arith}
use native.Mathlib.Decide.{ℕ_discrete}
use borrow.Author.Tests.{eq-eqb, ne_eqb}
use lib.ListN.{length, get_or, set, length-set, get_or-replicate}
use lib.Seq.{get_or-set_same, get_or-set_other, ext_get_or}
use Rattle.utilities.proofs.Count.{at_set}
use Rattle.integration_field.specs.Listed.{no_positions}
use Rattle.integration_positions.specs.Inner.{Placing, placing, QueueRoom, Grown, entry_of, StandsFor, HasRoom, StepsTo, Written}
use Rattle.integration_positions.proofs.Room.{Tried, taken, held, passed_by, queued_few, room_at}
use Rattle.integration_positions.proofs.Starting.{room_none}

-- ---- one cell tried

entry_free : (entered p : ℕ) → p ≡ 255 → entry_of entered p ≡ entered
entry_free entered p e = rw (eq-eqb p 255 e)

entry_placed : (entered p : ℕ) → (p ≡ 255 → ⊥) → entry_of entered p ≡ 65537
entry_placed entered p n = rw (ne_eqb p 255 n)

module _ (entered : List ℕ) (value p x : ℕ) (entering : value ≤ 65536) (small : p < 255) (inside : x < 100) where
  module _ (entries queue : List ℕ) (queued : ℕ) (s : Placing) (m : StandsFor entered entries queue queued s) where
    -- a cell that has a position is entered from no value
    not_placed : get_or entries x 0 ≡ value → (get_or s.places x 0 ≡ 255 → ⊥) → ⊥
    not_placed v n = absurd (omega (arith, m.entry_at x inside ∙ entry_placed _ _ n))

    -- a cell that has none is entered from its own
    free : get_or s.places x 0 ≡ 255 → get_or entries x 0 ≡ get_or entered x 0
    free e = m.entry_at x inside ∙ entry_free _ _ e

    queue_same : set queue queued x ≡ set s.queue s.queued x
    queue_same = ap₂ (λ (q : List ℕ) (n : ℕ). set q n x) m.same_queue m.same_queued

    pub stands_taken : {t : Placing} → get_or entries x 0 ≡ value → Tried entered value p x s t
        → StandsFor entered (set entries x 65537) (set queue queued x) (suc queued) t
    stands_taken v (held e n) = absurd (not_placed v n)
    stands_taken v (passed_by e n) = absurd (not_placed v (λ a. n (sym (free a) ∙ v)))
    stands_taken v (taken e a b) = record {
      room = room_at entered value p small x s inside m.room (taken e a b);
      full = length-set entries x 65537 ∙ m.full;
      same_queue = queue_same ∙ sym (ap (λ (q : Placing). q.queue) e);
      same_queued = ap suc m.same_queued ∙ sym (ap (λ (q : Placing). q.queued) e);
      entry_at = λ y h. rw e (elim (ℕ_discrete y x) [
        | yes q ↦ rw (q, get_or-set_same entries x 65537 0 (omega (arith, m.full)), get_or-set_same s.places x p 0 (omega (arith, m.room.full)))
            (sym (entry_placed _ p (λ w. absurd (omega arith))))
        | no q ↦ rw (get_or-set_other entries x y 65537 0 q, get_or-set_other s.places x y p 0 q) (m.entry_at y h)
      ]);
    }

    -- a cell written behind the queue does not count
    stays : {t : Placing} → Tried entered value p x s t → t ≡ placing s.places (set s.queue s.queued x) s.queued
        → StandsFor entered entries (set queue queued x) queued t
    stays try e = record {
      room = room_at entered value p small x s inside m.room try;
      full = m.full;
      same_queue = queue_same ∙ sym (ap (λ (q : Placing). q.queue) e);
      same_queued = m.same_queued ∙ sym (ap (λ (q : Placing). q.queued) e);
      entry_at = λ y h. rw e (m.entry_at y h);
    }

    pub stands_left : {t : Placing} → (get_or entries x 0 ≡ value → ⊥) → Tried entered value p x s t → StandsFor entered entries (set queue queued x) queued t
    stands_left v (taken e a b) = absurd (v (free a ∙ b))
    stands_left v (held e n) = stays (held e n) e
    stands_left v (passed_by e n) = stays (passed_by e n) e

-- ---- room

pub has_few : (entries queue : List ℕ) (queued : ℕ) → HasRoom entries queue queued → queued ≤ 100
has_few entries queue queued h = omega (arith, h.stands.same_queued, queued_few h.state h.stands.room)

pub has_cells : (entries queue : List ℕ) (queued : ℕ) → HasRoom entries queue queued → (j : ℕ) → j < queued → get_or queue j 0 < 100
has_cells entries queue queued h j l =
    let m = h.stands in
    rw m.same_queue (m.room.indexes.cells_in j (omega (arith, m.same_queued)))

-- behind a step of the code
module _ {entries queue : List ℕ} {queued : ℕ} {entries-then queue-then : List ℕ} {queued-then : ℕ} (step : List ℕ → ℕ → Placing → Placing)
    (steps : StepsTo entries queue queued entries-then queue-then queued-then step) (h : HasRoom entries queue queued) where
  behind : StandsFor h.entered entries-then queue-then queued-then (step h.entered 0 h.state)
  behind = steps h.entered 0 h.state (omega arith) h.stands

  pub has_next : HasRoom entries-then queue-then queued-then
  has_next = record { entered = h.entered; state = step h.entered 0 h.state; stands = behind }

  pub has_more : ((entered : List ℕ) (s : Placing) → Grown s (step entered 0 s)) → queued ≤ queued-then
  has_more grown = omega (arith, h.stands.same_queued, (grown h.entered h.state).more, behind.same_queued)

-- before the first corner
pub stands_none : (entered queue : List ℕ) → length entered ≡ 100 → length queue ≡ 101 → StandsFor entered entered queue 0 (placing no_positions queue 0)
stands_none entered queue e q = record {
  room = room_none queue q;
  full = e;
  same_queue = refl;
  same_queued = refl;
  entry_at = λ x h. sym (entry_free _ _ (get_or-replicate 100 x 255 0 h));
}

-- ---- the positions, written one after the other

pub written_same : (gone : ℕ) (s : Placing) → QueueRoom s → Written gone s.places s
written_same gone s r = record { full = r.full; written = λ j l. refl; unwritten = λ x h e. e }

-- the position of the next cell of the queue is written
pub written_next : (i gone : ℕ) (positions : List ℕ) (s : Placing) → i < 255 → get_or s.queue gone 0 < 100
    → get_or s.places (get_or s.queue gone 0) 0 ≡ i → Written gone positions s → Written (suc gone) (set positions (get_or s.queue gone 0) i) s
written_next i gone positions s small inside e w =
    let y = get_or s.queue gone 0 in
    let long : y < length positions = omega (arith, w.full) in
    let place : ℕ → ℕ = λ z. get_or s.places z 0 in
    record {
      full = length-set positions y i ∙ w.full;
      written = λ j l. (let z = get_or s.queue j 0 in
          at_set (λ q. q ≡ get_or s.places z 0) positions y i z long (λ q. sym (ap place q ∙ e))
          (λ n. w.written j (before j l n)));
      unwritten = λ x h a. at_set (λ q. q ≡ 255) positions y i x long (λ q. absurd (omega (arith, sym (ap place q ∙ e) ∙ a))) (λ n. w.unwritten x h a);
    }
  where
    before : (j : ℕ) → j < suc gone → (get_or s.queue j 0 ≡ get_or s.queue gone 0 → ⊥) → j < gone
    before j l n = elim (ℕ_discrete j gone) [
      | yes q ↦ absurd (n (ap (λ (k : ℕ). get_or s.queue k 0) q))
      | no q ↦ omega arith
    ]

-- what is placed after them has none yet
pub written_grown : (gone : ℕ) (positions : List ℕ) (s t : Placing) → Grown s t → gone ≤ s.queued
    → ((j : ℕ) → j < s.queued → get_or s.places (get_or s.queue j 0) 0 ≡ 255 → ⊥) → Written gone positions s → Written gone positions t
written_grown gone positions s t g behind placed w = record {
  full = w.full;
  written = λ j l. (let h : j < s.queued = omega arith in rw (g.queue_kept j h) (w.written j l ∙ sym (g.places_kept _ (placed j h))));
  unwritten = λ x h e. w.unwritten x h (elim (ℕ_discrete (get_or s.places x 0) 255) [
    | yes a ↦ a
    | no a ↦ absurd (a (sym (g.places_kept x a) ∙ e))
  ]);
}

-- all that are queued are written
pub written_all : (positions : List ℕ) (s : Placing) → QueueRoom s
    → ((x : ℕ) → x < 100 → (get_or s.places x 0 ≡ 255 → ⊥) → (j : ℕ) × (j < s.queued) × (get_or s.queue j 0 ≡ x))
    → Written s.queued positions s → positions ≡ s.places
written_all positions s r listed w = ext_get_or 0 positions s.places (w.full ∙ sym r.full) same
  where
    same : (x : ℕ) → x < length positions → get_or positions x 0 ≡ get_or s.places x 0
    same x l =
        let h : x < 100 = omega (arith, w.full) in
        elim (ℕ_discrete (get_or s.places x 0) 255) [
          | yes e ↦ w.unwritten x h e ∙ sym e
          | no n ↦ (let o = listed x h n in rw o.2 at (w.written o.0 o.1))
        ]
