-- `integration_positions::place_corner` meets its contract: the corner is tried, and its position is handed on from what was queued.
-- Assumes nothing.
use mathlib.Core.Path.{◌≡◌}
use mathlib.Core.List.{List}
use Prim.Native.Nat.{ℕ, ◌<◌, ◌+◌}
use native.Mathlib.Omega.{arith}
use lib.ListN.{length, get_or}
use Rattle.integration_positions.specs.Inner.{Placing, placing, placed_at, Written, BuiltOn, Flood, FloodedOn, GoneOn}
use Rattle.integration_positions.proofs.Room.{tried, grown_at}
use Rattle.integration_positions.proofs.Standing.{has_next, has_more, written_same, written_grown}
use Rattle.integration_positions.proofs.Starting.{corner_flood, gone_next}
use Rattle.integration_positions.proofs.place_corner.Goals as goal

-- the corner tried
abbrev go : ℕ → List ℕ → ℕ → Placing → Placing
go corner values p = placed_at values 65536 p corner

-- whichever field is meant, with this corner listed at this position
module _ (costs before corners built values : List ℕ) (f : BuiltOn costs before corners built values) where
  abbrev GoneTo : ℕ → List ℕ → Placing → Type 0
  GoneTo = GoneOn costs before corners built values

  module _ (position corner : ℕ) (small : position < 255) (inside : corner < 100) (h : position < length corners) (c : get_or corners position 0 ≡ corner)
      (entries : List ℕ) (s : Placing) (g : GoneTo position entries s) where
    abbrev after : Placing
    after = go corner values position s

    floods : Flood costs before corners built values position s.queued after
    floods = rw (← c) (corner_flood costs before corners _ _ f position small h s g.stands.room g.gone (rw c inside))

    written : Written s.queued s.places after
    written =
        written_grown s.queued _ s after (grown_at _ _ _ corner s (tried _ _ _ _ s)) (omega arith)
        g.gone.flood.queued_placed (written_same s.queued s g.stands.room)

    gone_on : (entries : List ℕ) (t : Placing) → FloodedOn costs before corners built values position entries after t → GoneTo (position + 1) entries t
    gone_on entries t o = record {
      stands = o.stands;
      gone = gone_next costs before corners _ _ f position small h s g.stands.room g.gone (rw c inside) t (rw c o.grown) o.flood;
    }

pub flood-requires : goal.flood-requires
flood-requires c =
    let steps = c.place_at-more.ensures in
    record {
      small = c.requires.small;
      behind = has_more (go c.args.corner) steps c.requires.room (λ values t. grown_at _ _ _ c.args.corner t (tried _ _ _ _ t));
      room = has_next (go c.args.corner) steps c.requires.room;
    }

pub returns : goal.returns
returns c =
    let a = c.args in
    let small = c.requires.small in
    let inside = c.requires.inside in
    let s = placing a.positions.now a.queue.now a.queued in
    let end = c.flood.ensures in (
      end.0,
      λ costs before corners values f h q g.
          gone_on costs before corners _ values f a.position a.corner small inside h q _ s g _ _
          (end.1 costs before corners values _ f (c.place_at-more.ensures values a.position s small g.stands)
          (written costs before corners _ values f a.position a.corner small inside h q _ s g)
          (floods costs before corners _ values f a.position a.corner small inside h q _ s g)),
    )
