-- `integration_positions::flood` meets its contract: a turn goes around from one cell more, and after the last the positions are those that are sought.
-- Assumes nothing.
use mathlib.Core.Path.{◌≡◌, ap, ◌∙◌}
use mathlib.Core.List.{List}
use Prim.Native.Nat.{ℕ, suc, ◌<◌}
use native.Mathlib.Numerals.{add-one}
use native.Mathlib.Omega.{arith}
use lib.ListN.{get_or, set}
use Rattle.utilities.specs.Compass.{orthogonal}
use Rattle.fields.specs.Cell.{cell_at}
use Rattle.integration_field.specs.Word.{low}
use Rattle.integration_positions.specs.Inner.{Placing, placing, placed_around, StandsFor, BuiltOn, FloodedOn}
use Rattle.integration_positions.proofs.Room.{grown_then, grown_around}
use Rattle.integration_positions.proofs.Standing.{has_next, has_more, written_next, written_grown, written_all}
use Rattle.integration_positions.proofs.Flooding.{gone_more}
use Rattle.integration_positions.proofs.flood.Invariants.{Turned}
use Rattle.integration_positions.proofs.flood.Goals as goal

module _ (costs before corners built values : List ℕ) (position : ℕ) (first : Placing) where
  abbrev TurnedTo : List ℕ → List ℕ → List ℕ → ℕ → ℕ → Type 0
  TurnedTo = Turned costs before corners built values position first

  -- after the last
  ended : (entries positions queue : List ℕ) (count : ℕ) → TurnedTo entries positions queue count count
      → FloodedOn costs before corners built values position entries first (placing positions queue count)
  ended entries positions queue count o =
      let s = o.state in
      let n = o.stands.same_queued in
      let p : positions ≡ s.places = written_all positions s o.stands.room o.flood.listed (rw n at o.written) in
      rw (p, o.stands.same_queue, n) (record {
        stands = rw (o.stands.same_queue, n) at o.stands;
        grown = o.grown;
        flood = rw n at o.flood;
      })

  module _ (f : BuiltOn costs before corners built values) (small : position < 255) where
    -- one cell more: it stands in the queue at place i, and its value is v
    turn_on : (entries positions queue : List ℕ) (count i : ℕ) (o : TurnedTo entries positions queue count i) → i < count
        → (entries-then queue-then : List ℕ) (count-then y v : ℕ) → y ≡ get_or queue i 0 → v ≡ low (get_or built y 0)
        → StandsFor values entries-then queue-then count-then (placed_around values v position (cell_at y) orthogonal o.state)
        → TurnedTo entries-then (set positions y position) queue-then count-then (suc i)
    turn_on entries positions queue count i o l entries-then queue-then count-then y v at value m =
        let s = o.state in
        let here : i < s.queued = omega (arith, o.stands.same_queued) in
        let is : y ≡ get_or s.queue i 0 = at ∙ ap (λ (q : List ℕ). get_or q i 0) o.stands.same_queue in
        let g = grown_around values v position (cell_at y) orthogonal s in
        let next = gone_more costs before corners built values f position i s small o.stands.room here o.flood in
        let inside = o.stands.room.indexes.cells_in i here in
        let wrote = written_next position i positions s small inside (o.flood.recent i (omega arith) here) o.written in
        record {
          state = placed_around values v position (cell_at y) orthogonal s;
          stands = m;
          written = written_grown (suc i) _ s _ g (omega arith) o.flood.queued_placed (rw is wrote);
          grown = grown_then o.grown g;
          flood = rw (value, is) next;
        }

pub loop-i-preserved : goal.loop-i-preserved
loop-i-preserved c =
    let l = c.loop-i in
    let a = c.args in
    let y = c.from-from.result in
    let v = c.low_bits-value.result in
    let here : l.i < l.count = omega arith in
    let go : List ℕ → ℕ → Placing → Placing = λ values p. placed_around values v p (cell_at y) orthogonal in
    let steps = c.place_around-count.ensures in
    rw (add-one l.i) (record {
      room = has_next go steps l.invariant.room;
      within = omega (arith, has_more go steps l.invariant.room (λ values s. grown_around values v 0 (cell_at y) orthogonal s));
      turned = λ costs before corners values s f m w d.
          (let o = l.invariant.turned costs before corners values s f m w d in
          turn_on costs before corners _ values a.position s f c.requires.small _ _ _ _ l.i o here _ _ _ y v
          c.from-from.ensures c.low_bits-value.ensures (steps values a.position o.state c.requires.small o.stands));
    })

pub returns : goal.returns
returns c =
    let l = c.loop-i in
    let e : l.i ≡ l.count = omega (arith, l.invariant.within) in (
      l.invariant.room,
      λ costs before corners values s f m w d.
          ended costs before corners _ values _ s _ _ _ _ (rw e at (l.invariant.turned costs before corners values s f m w d)),
    )
