-- All that is promised of a cart's calls.
--     refuses, takes_move      a refused move, and an accepted one
--     refuses_way, takes_way   a refused way, and an accepted one
-- Assumes nothing.
use mathlib.Core.Path.{◌≡◌, refl, sym, ap, subst, ◌∙◌}
use mathlib.Core.List.{List}
use Prim.Native.Nat.{ℕ, zero, suc}
use Rattle.leg_journey.specs.Place.{Place, place_of}
use Rattle.leg_journey.proofs.Places.{on_floor}
use Rattle.leg_moves.specs.declared.CartMove.{CartMove}
use Rattle.leg_moves.specs.declared.CartWay.{CartWay}
use Rattle.leg_moves.specs.Answers.{cart_number, move_from, move_answer, way_from, way_answer}
use Rattle.leg_moves.specs.Promise.{CartNumbered, MoveRefused, WayRefused, MoveTold, WayTold, LegDriven, WayToGoal}
use Rattle.leg_moves.proofs.Numbers.{taken, numbered}
use Rattle.leg_moves.proofs.Told.{move_number, way_number, move_told, way_told}
use Rattle.leg_moves.proofs.Driven.{leg_driven, way_to_goal}

module _ (sheet : List ℕ) (sector cell : ℕ) where
  -- the place, and the number of both calls
  abbrev at_place : Place
  at_place = place_of sector cell

  abbrev number : ℕ
  number = cart_number sheet sector cell

  numbered_so : (n : ℕ) → n ≡ number → CartNumbered sheet sector cell n
  numbered_so n e = subst (CartNumbered sheet sector cell) (sym e) (numbered sheet sector cell)

  -- ---- a move

  abbrev Promised : CartMove → Type 0
  Promised r =
      (r ≡ move_answer sheet sector cell)
      × (CartNumbered sheet sector cell r.number
      × (((r.number ≡ 0 → ⊥) → MoveRefused r) × ((r.number ≡ 0 → MoveTold sheet at_place r) × LegDriven sheet)))

  pub refuses : (n : ℕ) → n ≡ number → (n ≡ 0 → ⊥) → Promised (record { number = n; outcome = 0; sector = 0; cell = 0 })
  unfolding move_answer
  refuses zero e h = absurd (h refl)
  refuses (suc n) e h = (
    rw (← e),
    (
      numbered_so (suc n) e,
      (λ o. record { outcome_zero = refl; sector_zero = refl; cell_zero = refl }, (λ z. absurd (h z), leg_driven sheet)),
    ),
  )

  pub takes_move : number ≡ 0 → (r : CartMove) → r ≡ move_from sheet at_place → Promised r
  unfolding move_answer
  takes_move z r e =
      let q = ap (λ (a : CartMove). a.number) e ∙ move_number sheet at_place in
      let t = taken sheet sector cell z in
      let told = move_told sheet at_place (on_floor sector cell t.sector_in t.cell_in) in (
        e ∙ rw z,
        (numbered_so r.number (q ∙ sym z), (λ o. absurd (o q), (λ _. subst (MoveTold sheet at_place) (sym e) told, leg_driven sheet))),
      )

  -- ---- a way

  abbrev PromisedWay : CartWay → Type 0
  PromisedWay r =
      (r ≡ way_answer sheet sector cell)
      × (CartNumbered sheet sector cell r.number
      × (((r.number ≡ 0 → ⊥) → WayRefused r) × ((r.number ≡ 0 → WayTold sheet at_place r) × (r.number ≡ 0 → WayToGoal sheet sector cell r))))

  pub refuses_way : (n : ℕ) → n ≡ number → (n ≡ 0 → ⊥) → PromisedWay (record { number = n; outcome = 0; sector = 0; cell = 0; moves = 0 })
  unfolding way_answer
  refuses_way zero e h = absurd (h refl)
  refuses_way (suc n) e h = (
    rw (← e),
    (
      numbered_so (suc n) e,
      (λ o. record { outcome_zero = refl; sector_zero = refl; cell_zero = refl; moves_zero = refl }, (λ z. absurd (h z), λ z. absurd (h z))),
    ),
  )

  pub takes_way : number ≡ 0 → (r : CartWay) → r ≡ way_from sheet at_place → PromisedWay r
  unfolding way_answer
  takes_way z r e =
      let q = ap (λ (w : CartWay). w.number) e ∙ way_number sheet at_place in
      let t = taken sheet sector cell z in
      let told = way_told sheet at_place (on_floor sector cell t.sector_in t.cell_in) in (
        e ∙ rw z,
        (
          numbered_so r.number (q ∙ sym z),
          (λ o. absurd (o q), (λ _. subst (WayTold sheet at_place) (sym e) told, λ _. way_to_goal sheet sector cell r t.cell_in e)),
        ),
      )
