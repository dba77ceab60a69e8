-- `leg_moves::way_from` meets its contract: the cart stands still where no move leads on, and never where 6,400 moves have led on.
-- Assumes nothing.
use Rattle.std.proofs.Common.{◌≡◌, ℕ, List, Option, Some, None, refl, sym, ap, ◌∙◌, arith}
use Rattle.leg_journey.specs.Place.{OnFloor, arrow_at, stays}
use Rattle.leg_moves.specs.declared.spot.Spot.{Spot}
use Rattle.leg_moves.specs.Moving.{still_outcome, Still}
use Rattle.leg_moves.specs.Answers.{stood}
use Rattle.leg_moves.specs.Inner.{place_at, LeadsOn}
use Rattle.leg_moves.proofs.Told.{move_one, stood_is, never_is, long_never}
use Rattle.leg_moves.proofs.way_from.Goals as goal

-- no place is led to: the cart stands still
stands_still : (sheet : List ℕ) (at : Spot) (o : Option Spot) → LeadsOn (arrow_at sheet (place_at at)) at o → ((t : Spot) → o ≡ Some t → ⊥)
    → Still sheet (place_at at)
stands_still sheet at (Some t) l none = absurd (none t refl)
stands_still sheet at None l none = l

pub loop-moves-init : goal.loop-moves-init
loop-moves-init c = stays

pub returns-in_default : goal.returns-in_default
returns-in_default c =
    let sheet = c.args.sheet.now in
    let at = c.loop-moves.at in
    let still = stands_still sheet at c.move_from.result c.move_from.ensures c.in_default.not-Some in
    let outcome = c.still_outcome.ensures ∙ ap still_outcome c.byte_at.ensures in
    c.stood_at.ensures ∙ ap (λ (o : ℕ). stood o c.loop-moves.moves (place_at at)) outcome
    ∙ sym (stood_is sheet (record { at = place_at at; walk = c.loop-moves.invariant; still = still }))

pub loop-moves-preserved : goal.loop-moves-preserved
loop-moves-preserved c = move_one c.args.sheet.now c.loop-moves.invariant c.in-Some.ensures

pub returns : goal.returns
returns c =
    let sheet = c.args.sheet.now in
    let here = c.args.here in
    let all : c.loop-moves.moves ≡ 6400 = omega arith in
    let on : OnFloor (place_at here) = record { row_on = here.row_on; column_on = here.column_on } in
    c.stood_at-2.ensures ∙ sym (never_is sheet (long_never sheet on all c.loop-moves.invariant))
