-- Following over the floor is determined by the sheet's bytes and the place.
--     points_once         an arrow points at one place
--     journey_once        two ways to follow the arrows from a place make as many moves
--     moved, followed     the same worked out, move by move
--     journey_followed    so many moves, worked out, end in a reached cell of the goal's sector
-- Assumes nothing.
use mathlib.Core.Path.{◌≡◌, refl, sym, ap, ap₂, subst}
use mathlib.Core.Bool.{Bool}
use mathlib.Core.List.{List}
use Prim.Native.Nat.{ℕ, zero, suc, ◌+◌, ◌-◌}
use native.Mathlib.Omega.{arith}
use Rattle.flow_arrows.specs.Arrows.{northward, eastward, southward, westward}
use Rattle.leg_journey.specs.Place.{Place, Points, arrow_at, FloorMove}
use Rattle.leg_journey.specs.Journey.{ReachedIn, Journey, ends, moves, crosses}

same_place : {p q : Place} → p.column ≡ q.column → p.row ≡ q.row → p ≡ q
same_place c r = ap₂ (λ (column row : ℕ). record { column = column; row = row }) c r

pub points_once : {a : ℕ} {p q r : Place} → Points a p q → Points a p r → q ≡ r
points_once v w = same_place (omega (arith, v.columns, w.columns)) (omega (arith, v.rows, w.rows))

-- the place that a place's arrow points at, and the place after n moves
unfoldable pub moved : List ℕ → Place → Place
moved sheet p =
    let a = arrow_at sheet p in
    record { column = p.column + eastward a - westward a; row = p.row + southward a - northward a }

unfoldable pub followed : List ℕ → ℕ → Place → Place
followed sheet zero p = p
followed sheet (suc n) p = followed sheet n (moved sheet p)

moved_is : (sheet : List ℕ) {p q : Place} → FloorMove sheet p q → moved sheet p ≡ q
unfolding moved
moved_is sheet m = same_place (omega (arith, m.columns)) (omega (arith, m.rows))

module _ (sight : Bool) (floor : List ℕ) (steps : List (List ℕ)) (sheet : List ℕ) where
  pub journey_once : {n m k : ℕ} {p : Place} → Journey sight floor steps sheet n k p → Journey sight floor steps sheet m k p → n ≡ m
  journey_once (ends r a) (ends s b) = refl
  journey_once (ends r a) (moves t w s l g) = absurd (t a)
  journey_once (moves o v r i j) (ends s b) = absurd (o b)
  journey_once {m = suc m} (moves {k = k} o v r i j) (moves t w s l g) =
      ap suc (journey_once j (subst (Journey sight floor steps sheet m k) (points_once w v) g))
  journey_once (moves o v r i j) (crosses c w s g) = absurd (o c)
  journey_once (crosses c v r j) (moves o w s l g) = absurd (o c)
  journey_once {m = suc m} (crosses {k = k} c v r j) (crosses d w s g) =
      ap suc (journey_once j (subst (Journey sight floor steps sheet m k) (points_once w v) g))

  -- n moves from a place, worked out, end in the goal's sector
  abbrev Ends : ℕ → Place → Type 0
  Ends n p = ReachedIn sight floor steps zero (followed sheet n p)

  pub journey_followed : {n k : ℕ} {p : Place} → Journey sight floor steps sheet n k p → Ends n p
  unfolding followed
  journey_followed (ends r a) = r
  journey_followed (moves {n = n} o v r i j) = subst (Ends n) (sym (moved_is sheet v)) (journey_followed j)
  journey_followed (crosses {n = n} c v r j) = subst (Ends n) (sym (moved_is sheet v)) (journey_followed j)
