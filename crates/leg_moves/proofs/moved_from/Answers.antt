-- `leg_moves::moved_from` meets its contract: moved where the arrow leads to a place, else standing still.
-- Assumes nothing.
use Rattle.std.proofs.Common.{ℕ, sym, ap, ◌∙◌}
use Rattle.leg_moves.specs.Moving.{still_outcome}
use Rattle.leg_moves.specs.Answers.{accepted_move}
use Rattle.leg_moves.specs.Inner.{place_at}
use Rattle.leg_moves.proofs.Told.{moved_is, still_is}
use Rattle.leg_moves.proofs.moved_from.Goals as goal

pub returns-in-Some : goal.returns-in-Some
returns-in-Some c = c.accepted_move.ensures ∙ sym (moved_is c.args.sheet.now c.in-Some.ensures)

pub returns-in-None : goal.returns-in-None
returns-in-None c =
    let here = place_at c.args.here in
    let outcome = c.still_outcome.ensures ∙ ap still_outcome c.byte_at.ensures in
    c.accepted_move-in-None.ensures ∙ ap (λ (o : ℕ). accepted_move o here) outcome ∙ sym (still_is c.args.sheet.now c.in-None.ensures)
