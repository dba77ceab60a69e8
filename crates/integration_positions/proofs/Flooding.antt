-- How positions are handed on: from a queued cell each neighbour into which a move keeps the built costs exact takes its position, unless it has one.
-- What holds meanwhile (`Flood`) is kept by each cell that is tried, hence by all neighbours of a cell, hence by a turn of the queue.
--     move_mine     what a move that keeps the built costs exact makes of a walk
--     flood_at      one cell tried: it takes the position, and then `each_cell` and `each_queued` go by "this cell, or another"; or nothing changes
--     around        the neighbours of a cell tried, one direction after the other
--     gone_more     one cell of the queue gone around from
-- Assumes nothing.
use mathlib.Core.Path.{◌≡◌, refl, sym, ap, ◌∙◌}
use mathlib.Core.Logic.{◌⊎◌, inl, inr, ⊎_elim}
use mathlib.Core.List.Memᴰ
use mathlib.Core.List.{List, [], ◌∷◌}
use Prim.Native.Nat.{ℕ, suc, ◌+◌, ◌-◌, ◌<◌, ◌≤◌}
use native.Mathlib.Omega.{arith}
use native.Mathlib.Decide.{ℕ_discrete}
use borrow.Author.Tests.{eq-eqb, ne_eqb}
use lib.ListN.{get_or, set}
use lib.Seq.{get_or-set_same, get_or-set_other}
use Rattle.utilities.specs.declared.CompassDir.{CompassDir}
use Rattle.utilities.specs.Compass.{orthogonal}
use Rattle.utilities.proofs.Lists.{table_at}
use Rattle.fields.specs.declared.FieldCell.{FieldCell}
use Rattle.std.specs.Prelude.{Option, Some, None}
use Rattle.fields.specs.Cell.{index_of, cell_at, stepped}
use Rattle.fields.specs.Neighbours.{BesideAt}
use Rattle.fields.proofs.Steps.{stepped_cell, index_below}
use Rattle.fields.proofs.Beside.{beside_below}
use Rattle.integration_waves.specs.Walks.{start, move}
use Rattle.integration_field.specs.Word.{low}
use Rattle.integration_field.specs.Walks.{MayEnter, Permitted}
use Rattle.integration_field.specs.Promise.{Walked, LeastWalks}
use Rattle.integration_field.proofs.Least.{least_walks, last_entered}
use Rattle.integration_field.proofs.Neighbours.{Neighbour, later, neighbour_beside, beside_neighbour}
use Rattle.integration_positions.specs.Inner.{entered_from, Placing, placing, QueueRoom, Grown, placed_to, placed_around, BuiltOn, Mine, Flood}
use Rattle.integration_positions.proofs.Room.{Tried, taken, held, passed_by, tried, grown_none, grown_then, grown_at, kept_least, behind_queue}
use Rattle.integration_positions.proofs.Room.{has_room, room_to}

module _ (costs before corners built entered : List ℕ) (f : BuiltOn costs before corners built entered) where
  -- ---- moves that keep the built costs exact

  pub least : LeastWalks costs before corners built
  least = rw f.is_built (least_walks costs before corners f.full f.corners_in)

  abbrev Now : ℕ → ℕ
  Now x = low (get_or built x 0)

  pub entered_at : (x : ℕ) → x < 100 → get_or entered x 0 ≡ entered_from (get_or costs x 0) (get_or before x 0) (get_or built x 0)
  entered_at x h = rw f.is_entered (table_at (λ x. entered_from (get_or costs x 0) (get_or before x 0) (get_or built x 0)) 0 100 x h)

  -- a cell that building lowered: what it holds now, and how it was entered
  pub record LoweredAt (x : ℕ) : Type 0 where
    pub now_is : Now x ≡ get_or built x 0
    pub paid : get_or costs x 0 ≤ get_or built x 0
    pub may : MayEnter costs before corners x (Now x)

  last_cost : {k x s : ℕ} → Permitted costs before corners k x s → s < low (get_or before x 0) → get_or costs x 0 ≤ s
  last_cost (start c e) l = absurd (omega arith)
  last_cost (move p b m e) l = omega arith

  pub lowered : (x : ℕ) → (get_or built x 0 ≡ get_or before x 0 → ⊥) → LoweredAt x
  lowered x h = go (least.attained x)
    where
      go : (get_or built x 0 ≡ get_or before x 0) ⊎ Walked costs before corners x (get_or built x 0) → LoweredAt x
      go (inl e) = absurd (h e)
      go (inr w) =
          let e : Now x ≡ get_or built x 0 = omega (arith, w.lower) in
          record {
            now_is = e;
            paid = last_cost w.walk w.lower;
            may = rw e (last_entered costs before corners f.full f.corners_in w.moves x _ w.walk w.lower);
          }

  -- where the value of entering is that of a cell, building lowered the cell entered, and its cost is the difference
  pub record Exact (v x : ℕ) : Type 0 where
    pub at : LoweredAt x
    pub sum : Now x ≡ v + get_or costs x 0

  pub exact : (v x : ℕ) → v < 65536 → x < 100 → get_or entered x 0 ≡ v → Exact v x
  unfolding entered_from
  exact v x l h e = go (ℕ_discrete (get_or built x 0) (get_or before x 0)) (sym (entered_at x h) ∙ e)
    where
      go : Dec (get_or built x 0 ≡ get_or before x 0) → entered_from (get_or costs x 0) (get_or before x 0) (get_or built x 0) ≡ v → Exact v x
      go (yes q) e = absurd (let z : 65536 ≡ v = rw (eq-eqb _ _ q) at e in omega arith)
      go (no q) e =
          let z : get_or built x 0 - get_or costs x 0 ≡ v = rw (ne_eqb _ _ q) at e in
          let w = lowered x q in
          record { at = w; sum = omega (arith, w.now_is, w.paid) }

  pub exact_back : (v x : ℕ) → x < 100 → (get_or built x 0 ≡ get_or before x 0 → ⊥) → Now x ≡ v + get_or costs x 0 → get_or entered x 0 ≡ v
  unfolding entered_from
  exact_back v x h q s = let w = lowered x q in entered_at x h ∙ rw (ne_eqb _ _ q) (omega (arith, w.now_is))

  -- a walk to a cell, and a move into the next that keeps the built costs exact
  pub move_mine : (p y x : ℕ) → Mine costs before corners built entered y p → BesideAt y x → x < 100 → get_or entered x 0 ≡ Now y
      → Mine costs before corners built entered x p
  move_mine p y x m b h e =
      let d = exact (Now y) x (omega arith) h e in
      let w = m.walk in
      let enters : MayEnter costs before (get_or corners p 0 ∷ []) x (Now x) =
      record { no_wall = d.at.may.no_wall; not_in_sight = d.at.may.not_in_sight; below = d.at.may.below } in
      record { is_corner_of = m.is_corner_of; walk = (suc w.0, move w.1 b enters d.sum) }

  -- ---- one cell tried

  module _ (i gone value : ℕ) (small : i < 255) where
    abbrev Floods : Placing → Type 0
    Floods = Flood costs before corners built entered i gone

    -- what is written behind the queue is not read
    flood_behind : (x : ℕ) (s : Placing) → Floods s → Floods (placing s.places (set s.queue s.queued x) s.queued)
    flood_behind x s d = record {
      behind = d.behind;
      listed = λ z l p. (let o = d.listed z l p in (o.0, o.1, behind_queue s x o.0 o.1 ∙ o.2));
      queued_placed = λ j l. rw (behind_queue s x j l) (d.queued_placed j l);
      mine = d.mine;
      no_later = d.no_later;
      recent = λ j k l. rw (behind_queue s x j l) (d.recent j k l);
      closed = λ j z k. (let l : j < s.queued = omega (arith, d.behind) in rw (behind_queue s x j l) (d.closed j z k));
    }

    -- cell x, which has no position, takes position i, and stands last in the queue
    module _ (x : ℕ) (s : Placing) (inside : x < 100) (r : QueueRoom s) (free : get_or s.places x 0 ≡ 255) (d : Floods s) where
      abbrev after : Placing
      after = placing (set s.places x i) (set s.queue s.queued x) (suc s.queued)

      place_here : get_or after.places x 0 ≡ i
      place_here = get_or-set_same s.places x i 0 (omega (arith, r.full))

      place_other : (z : ℕ) → (z ≡ x → ⊥) → get_or after.places z 0 ≡ get_or s.places z 0
      place_other z = get_or-set_other s.places x z i 0

      queue_last : get_or after.queue s.queued 0 ≡ x
      queue_last = get_or-set_same s.queue s.queued x 0 (omega (arith, r.indexes.full, has_room s x r inside free))

      -- the cells queued before it have a position, so they are others, and keep theirs
      place_queued : (j : ℕ) → j < s.queued → get_or after.places (get_or after.queue j 0) 0 ≡ get_or s.places (get_or s.queue j 0) 0
      place_queued j l =
          rw (behind_queue s x j l) (place_other _ (λ q. d.queued_placed j l (ap (λ (k : ℕ). get_or s.places k 0) q ∙ free)))

      -- what holds of cell x and position i, and of each cell that had a position, holds of each cell that has one now
      each_cell : (P : ℕ → ℕ → Type 0) → P x i → ((z : ℕ) → z < 100 → (get_or s.places z 0 ≡ 255 → ⊥) → P z (get_or s.places z 0))
          → (z : ℕ) → z < 100 → (get_or after.places z 0 ≡ 255 → ⊥) → P z (get_or after.places z 0)
      each_cell P here others z l p = elim (ℕ_discrete z x) [
        | yes q ↦ rw (q, place_here) here
        | no q ↦ rw (place_other z q) (others z l (λ a. p (place_other z q ∙ a)))
      ]

      -- the same by places of the queue
      each_queued : (P : ℕ → ℕ → Type 0) → P s.queued i → ((j : ℕ) → j < s.queued → P j (get_or s.places (get_or s.queue j 0) 0))
          → (j : ℕ) → j < suc s.queued → P j (get_or after.places (get_or after.queue j 0) 0)
      each_queued P last others j l = elim (ℕ_discrete j s.queued) [
        | yes q ↦ rw (q, queue_last, place_here) last
        | no q ↦ (let k : j < s.queued = omega arith in rw (place_queued j k) (others j k))
      ]

      -- a neighbour of a cell that was gone around from has a position already, so it is another cell
      still_closed : (j z : ℕ) → j < gone → BesideAt (get_or after.queue j 0) z → get_or entered z 0 ≡ Now (get_or after.queue j 0)
          → get_or after.places z 0 ≤ get_or after.places (get_or after.queue j 0) 0
      still_closed j z k b a =
          let l : j < s.queued = omega (arith, d.behind) in
          let old = d.closed j z k (rw (behind_queue s x j l) at b) (rw (behind_queue s x j l) at a) in
          let few = (d.mine _ (r.indexes.cells_in j l) (d.queued_placed j l)).is_corner_of in
          let other : z ≡ x → ⊥ = λ q. absurd (omega (arith, few, f.few_corners, old, ap (λ (k : ℕ). get_or s.places k 0) q, free)) in
          rw (place_queued j l, place_other z other) old

      flood_taken : Mine costs before corners built entered x i → Floods after
      flood_taken m = record {
        behind = omega (arith, d.behind);
        listed = each_cell (λ z p. (j : ℕ) × (j < suc s.queued) × (get_or after.queue j 0 ≡ z)) (s.queued, omega arith, queue_last)
            (λ z l p. let o = d.listed z l p in (o.0, omega (arith, o.1), behind_queue s x o.0 o.1 ∙ o.2));
        queued_placed = each_queued (λ j p. p ≡ 255 → ⊥) (λ e. absurd (omega arith)) d.queued_placed;
        mine = each_cell (Mine costs before corners built entered) m d.mine;
        no_later = each_cell (λ z p. p ≤ i) (omega arith) d.no_later;
        recent = λ j k l. each_queued (λ n p. gone ≤ n → p ≡ i) (λ k. refl) (λ n l k. d.recent n k l) j l k;
        closed = still_closed;
      }

    pub flood_at : (x : ℕ) (s : Placing) {t : Placing} → x < 100 → QueueRoom s → (get_or entered x 0 ≡ value → Mine costs before corners built entered x i)
        → Floods s → Tried entered value i x s t → Floods t
    flood_at x s h r m d (held e n) = rw e (flood_behind x s d)
    flood_at x s h r m d (passed_by e n) = rw e (flood_behind x s d)
    flood_at x s h r m d (taken e n v) = rw e (flood_taken x s h r n d (m v))

    -- a cell that was tried holds the position or an earlier one, if a move into it keeps the built costs exact
    pub tried_least : (x : ℕ) (s : Placing) {t : Placing} → x < 100 → QueueRoom s → Floods s → Tried entered value i x s t → get_or entered x 0 ≡ value
        → get_or t.places x 0 ≤ i
    tried_least x s h r d (held e n) v = rw e (d.no_later x h n)
    tried_least x s h r d (passed_by e n) v = absurd (n v)
    tried_least x s h r d (taken e n w) v = rw (e, get_or-set_same s.places x i 0 (omega (arith, r.full))) (omega arith)

    -- ---- the neighbours of a cell, one direction after the other

    -- what trying the cells of a list of directions has come to
    pub record Around (c : FieldCell) (ds : List CompassDir) (s t : Placing) : Type 0 where
      pub around_flood : Floods t
      pub around_grown : Grown s t
      pub around_least : (z : ℕ) → Neighbour c ds z → get_or entered z 0 ≡ value → get_or t.places z 0 ≤ i

    -- trying the cell where one step arrives, if it arrives at one
    record Stepping (t : Option FieldCell) (s u : Placing) : Type 0 where
      floods : Floods u
      grown : Grown s u
      least_there : (n : FieldCell) → t ≡ Some n → get_or entered (index_of n) 0 ≡ value → get_or u.places (index_of n) 0 ≤ i

    step_on : (c : FieldCell) (d : CompassDir) (t : Option FieldCell) → stepped c d ≡ t → (s : Placing) → QueueRoom s
        → ((n : FieldCell) → t ≡ Some n → get_or entered (index_of n) 0 ≡ value → Mine costs before corners built entered (index_of n) i) → Floods s
        → Stepping t s (placed_to entered value i t s)
    step_on c d (Some n) e s r m q =
        let x = index_of n in
        let h : x < 100 = index_below n (stepped_cell c d n e).within in
        let t = tried entered value i x s in
        record {
          floods = flood_at x s h r (m n refl) q t;
          grown = grown_at entered value i x s t;
          least_there = λ o w v. (let same : o ≡ n = cc in rw same (tried_least x s h r q t (rw same at v)));
        }
    step_on c d None e s r m q = record {
      floods = q;
      grown = grown_none s;
      least_there = λ n w v. (let zero_one : ◌≡◌ {A = ℕ} 0 1 = cc in absurd (omega arith));
    }

    pub around : (c : FieldCell) (ds : List CompassDir) (s : Placing) → QueueRoom s
        → ((z : ℕ) → Neighbour c ds z → get_or entered z 0 ≡ value → Mine costs before corners built entered z i) → Floods s
        → Around c ds s (placed_around entered value i c ds s)
    unfolding placed_around
    around c [] s r m q = record { around_flood = q; around_grown = grown_none s; around_least = λ z b v. absurd (Memᴰ.not-nil b.listed) }
    around c (d ∷ ds) s r m q =
        let here : (n : FieldCell) → stepped c d ≡ Some n → Neighbour c (d ∷ ds) (index_of n) =
        λ n e. record { way = d; listed = Memᴰ.head refl; cell = n; step = e; index = refl } in
        let one = step_on c d (stepped c d) refl s r (λ n e. m (index_of n) (here n e)) q in
        let rest = around c ds _ (room_to entered value i small c d (stepped c d) refl s r) (λ z b. m z (later b)) one.floods in
        record {
          around_flood = rest.around_flood;
          around_grown = grown_then one.grown rest.around_grown;
          around_least = λ z b v. ⊎_elim
              (λ w. rw b.index
              (kept_least rest.around_grown _ i small (one.least_there b.cell (ap (stepped c) (sym w) ∙ b.step) (rw b.index at v))))
              (λ w. rest.around_least z (record { way = b.way; listed = w; cell = b.cell; step = b.step; index = b.index }) v)
              (Memᴰ.cases_cons b.listed);
        }

  -- ---- one cell of the queue gone around from

  pub gone_more : (i gone : ℕ) (s : Placing) → i < 255 → QueueRoom s → gone < s.queued → Flood costs before corners built entered i gone s
      → let y = get_or s.queue gone 0 in
      Flood costs before corners built entered i (suc gone) (placed_around entered (Now y) i (cell_at y) orthogonal s)
  gone_more i gone s small r h d =
      let y = get_or s.queue gone 0 in
      let y-in : y < 100 = r.indexes.cells_in gone h in
      let y-placed = d.queued_placed gone h in
      let y-is : get_or s.places y 0 ≡ i = d.recent gone (omega arith) h in
      let mine : Mine costs before corners built entered y i = rw y-is at (d.mine y y-in y-placed) in
      let all = around i gone (Now y) small (cell_at y) orthogonal s r
      (λ z b v. (let beside = neighbour_beside y y-in z b in move_mine i y z mine beside (beside_below y z beside).1 v)) d in
      let g = all.around_grown in
      let t = all.around_flood in
      let same-y = g.queue_kept gone h in
      let same_place : get_or (placed_around entered (Now y) i (cell_at y) orthogonal s).places y 0 ≡ i = g.places_kept y y-placed ∙ y-is in
      record {
        behind = omega (arith, g.more);
        listed = t.listed;
        queued_placed = t.queued_placed;
        mine = t.mine;
        no_later = t.no_later;
        recent = λ j k l. t.recent j (omega arith) l;
        closed = λ j x k b e. elim (ℕ_discrete j gone) [
          | yes q ↦
              (let q-y = ap (λ (m : ℕ). get_or (placed_around entered (Now y) i (cell_at y) orthogonal s).queue m 0) q ∙ same-y in
              rw (q-y, same_place) (all.around_least x (beside_neighbour y x (rw q-y at b)) (rw q-y at e)))
          | no q ↦ t.closed j x (omega arith) b e
        ];
      }
