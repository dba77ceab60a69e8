-- `integration_positions::place_at` meets its contract. What it writes where the cell takes nothing is the cell's own value.
-- Assumes nothing.
use native.Mathlib.Numerals.{add-one}
use native.Mathlib.Nat.{add-zero}
use native.Mathlib.Omega.{arith}
use borrow.Author.Tests.{eq-eqb, ne_eqb}
use lib.Seq.{set-get_or}
use Rattle.integration_positions.proofs.Room.{tried}
use Rattle.integration_positions.proofs.Standing.{stands_taken, stands_left, has_few}
use Rattle.integration_positions.proofs.place_at.Goals as goal
use Rattle.integration_positions.proofs.place_at.Goals.{then-taken, else-taken}

pub bounds-queue-queued : goal.bounds-queue-queued
bounds-queue-queued c = omega (arith, has_few c.args.entered.now c.args.queue.now c.args.queued c.requires.room)

pub returns : goal.returns
returns c values p s small m =
    let a = c.args in
    let r = c.requires in
    elim c.if-taken.branch [
      | then-taken w ↦ rw (w.new-is, c.from.ensures, eq-eqb _ _ w.if-taken.true, add-one a.queued)
          (stands_taken values a.value p a.index r.value_in small r.inside _ _ _ s m w.if-taken.true (tried _ _ _ _ s))
      | else-taken w ↦ rw (w.new-is, c.from.ensures, ne_eqb _ _ w.if-taken.false, add-zero a.queued, set-get_or a.entered.now a.index 0)
          (stands_left values a.value p a.index r.value_in small r.inside _ _ _ s m w.if-taken.false (tried _ _ _ _ s))
    ]
