-- The corners, in list order: one that building left alone takes its own position, unless it has an earlier one, and the position is handed on.
--     gone_none        before the first corner
--     corner_flood    a corner tried, before its position is handed on
--     gone_next        after its position was handed on
--     decided          after the last
-- Assumes nothing.
use mathlib.Core.Path.{◌≡◌, refl, sym, ap, ◌∙◌}
use mathlib.Core.List.Memᴰ
use mathlib.Core.List.{List}
use Prim.Native.Nat.{ℕ, ◌+◌, ◌-◌, ◌<◌, ◌≤◌}
use native.Mathlib.Omega.{arith}
use native.Mathlib.Decide.{ℕ_discrete}
use borrow.Author.Tests.{ne_eqb}
use lib.ListN.{length, get_or, get_or-replicate}
use Rattle.utilities.specs.Count.{count}
use Rattle.fields.specs.Neighbours.{BesideAt}
use Rattle.integration_waves.specs.Walks.{start}
use Rattle.integration_field.specs.Word.{low}
use Rattle.integration_field.specs.Listed.{no_positions}
use Rattle.integration_positions.specs.Inner.{entered_from, Placing, placing, QueueRoom, Grown, placed_at, BuiltOn, Mine, Flood}
use Rattle.integration_positions.specs.Inner.{Gone, Decided}
use Rattle.integration_positions.proofs.Room.{Tried, tried, grown_at, grown_then, kept_least}
use Rattle.integration_positions.proofs.Flooding.{lowered, entered_at, flood_at, tried_least}

module _ (costs before corners built entered : List ℕ) (f : BuiltOn costs before corners built entered) where
  -- what is entered from 65536 was left alone by building: a walk that stays put arrives at its built cost
  stays_put : (i x : ℕ) → i < length corners → get_or corners i 0 ≡ x → x < 100 → get_or entered x 0 ≡ 65536 → Mine costs before corners built entered x i
  unfolding entered_from
  stays_put i x h c l e = go (ℕ_discrete (get_or built x 0) (get_or before x 0)) (sym (entered_at costs before corners built entered f x l) ∙ e)
    where
      go : Dec (get_or built x 0 ≡ get_or before x 0) → entered_from (get_or costs x 0) (get_or before x 0) (get_or built x 0) ≡ 65536
          → Mine costs before corners built entered x i
      go (yes q) e = record { is_corner_of = h; walk = (0, start (Memᴰ.head (sym c)) (ap low q)) }
      go (no q) e =
          let w = lowered costs before corners built entered f x q in
          let z : get_or built x 0 - get_or costs x 0 ≡ 65536 = rw (ne_eqb _ _ q) at e in
          absurd (omega (arith, w.now_is))

  module _ (i : ℕ) (small : i < 255) (h : i < length corners) (s : Placing) (r : QueueRoom s) (d : Gone costs before corners built entered i s) where
    abbrev corner : ℕ
    corner = get_or corners i 0

    abbrev after : Placing
    after = placed_at entered 65536 i corner s

    module _ (inside : corner < 100) where
      abbrev attempt : Tried entered 65536 i corner s after
      attempt = tried entered 65536 i corner s

      pub corner_flood : Flood costs before corners built entered i s.queued after
      corner_flood =
          flood_at costs before corners built entered f i s.queued 65536 small corner s inside r (stays_put i corner h refl inside) d.flood attempt

      -- t is what the flood leaves
      pub gone_next : (t : Placing) → Grown after t → Flood costs before corners built entered i t.queued t
          → Gone costs before corners built entered (i + 1) t
      gone_next t g u = record {
        flood = record {
          behind = u.behind;
          listed = u.listed;
          queued_placed = u.queued_placed;
          mine = u.mine;
          no_later = λ x l p. omega (arith, u.no_later x l p);
          recent = λ j k l. absurd (omega arith);
          closed = u.closed;
        };
        sources = λ j l e. elim (ℕ_discrete j i) [
          | yes q ↦ rw q (kept_least g corner i small (tried_least costs before corners built entered f i s.queued 65536 small corner s inside r
              d.flood attempt (rw q at e)))
          | no q ↦ kept_least (grown_then (grown_at entered 65536 i corner s attempt) g) _ j (omega arith) (d.sources j (omega arith) e)
        ];
      }

  -- after the last corner
  pub decided : (s : Placing) → QueueRoom s → Gone costs before corners built entered (length corners) s
      → Decided costs before corners built entered s.places
  decided s r d = record {
    decided_full = r.full;
    decided_mine = d.flood.mine;
    decided_closed = λ y x h p b e. (let l = d.flood.listed y h p in closed l.0 y x l.1 l.2 b e);
    decided_sources = d.sources;
  }
    where
      closed : (j y x : ℕ) → j < s.queued → get_or s.queue j 0 ≡ y → BesideAt y x → get_or entered x 0 ≡ low (get_or built y 0)
          → get_or s.places x 0 ≤ get_or s.places y 0
      closed j y x l q = rw (← q) (d.flood.closed j x l)

  none_at : (x : ℕ) → x < 100 → get_or no_positions x 0 ≡ 255
  none_at x h = get_or-replicate 100 x 255 0 h

  -- before the first corner no cell has a position
  pub gone_none : (queue : List ℕ) → Gone costs before corners built entered 0 (placing no_positions queue 0)
  gone_none queue = record {
    flood = record {
      behind = omega arith;
      listed = λ x h p. absurd (p (none_at x h));
      queued_placed = λ j l p. absurd (omega arith);
      mine = λ x h p. absurd (p (none_at x h));
      no_later = λ x h p. absurd (p (none_at x h));
      recent = λ j k l. absurd (omega arith);
      closed = λ j x k b e. absurd (omega arith);
    };
    sources = λ j l e. absurd (omega arith);
  }

pub room_none : (queue : List ℕ) → length queue ≡ 101 → QueueRoom (placing no_positions queue 0)
unfolding count
room_none queue e = record { full = refl; counted = refl; indexes = record { full = e; count_in = omega arith; cells_in = λ j l. absurd (omega arith) } }
