-- From every reached cell of a leg's later sector the arrows come into the goal's sector (`LegArrives`), and that sector's numbers of moves tell the rest.
--     entered         the cell where a journey comes into the goal's sector, and the walk there
--     inside_walk     moves inside a sector are moves on the floor
--     leg_told        the theorem
-- Assumes nothing.
use mathlib.Core.Path.{◌≡◌, refl, sym, ap, subst, ◌∙◌}
use mathlib.Core.Bool.{true}
use mathlib.Core.List.{List}
use Prim.Native.Nat.{ℕ, zero, suc, ◌+◌, ◌≤◌, ◌<◌}
use native.Mathlib.Nat.{zero-add, suc-add}
use native.Mathlib.Omega.{arith}
use lib.ListN.{get_or}
use Rattle.flow_arrows.specs.Arrows.{Reached}
use Rattle.leg_plan.specs.Leg.{part}
use Rattle.leg_plan.specs.Promise.{sector_at, built_at}
use Rattle.leg_journey.specs.Place.{Place, OnFloor, place_of, the_cell_in, FloorMove, FloorWalk, stays, goes, Points}
use Rattle.leg_journey.specs.Journey.{Journey, ends, moves, crosses}
use Rattle.leg_journey.proofs.Places.{landed, whole_place, arrow_is, inside}
use Rattle.flow_arrivals.specs.Following.{is_arrival, Follows, Comes, there, further}
use Rattle.flow_arrivals.specs.Promise.{ArrivalsTold}
use Rattle.flow_arrivals_planned.specs.Promise.{StandsThere, WholeWay, LegTold}

module _ (sheet : List ℕ) where
  -- one walk behind the other
  joined : {n m : ℕ} {p q r : Place} → FloorWalk sheet n p q → FloorWalk sheet m q r → FloorWalk sheet (n + m) p r
  joined {m = m} {p = p} {r = r} stays v = subst (λ (k : ℕ). FloorWalk sheet k p r) (sym (zero-add m)) v
  joined {m = m} {p = p} {r = r} (goes {n = j} f w) v = subst (λ (k : ℕ). FloorWalk sheet k p r) (sym (suc-add j m)) (goes f (joined w v))

  -- ---- inside a sector

  inside_move : (s : ℕ) → s < 64 → {x y : ℕ} → Follows (part sheet s) x y → FloorMove sheet (place_of s x) (place_of s y)
  inside_move s h {x} {y} f =
      subst (λ (a : ℕ). Points a (place_of s x) (place_of s y)) (sym (arrow_is s x f.leaves sheet)) (inside s x y h f.enters f.away)

  -- the cell that following comes to, and the walk there
  record Walked (s n x : ℕ) : Type 0 where
    cell : ℕ
    cell_in : cell < 100
    walk : FloorWalk sheet n (place_of s x) (place_of s cell)
    arrived : is_arrival (get_or (part sheet s) cell 0) ≡ true

  inside_walk : (s : ℕ) → s < 64 → {n x : ℕ} → x < 100 → Comes (part sheet s) n x → Walked s n x
  inside_walk s h {x = x} l (there t) = record { cell = x; cell_in = l; walk = stays; arrived = t }
  inside_walk s h {x = x} l (further f c) =
      let w = inside_walk s h f.enters c in
      record { cell = w.cell; cell_in = w.cell_in; walk = goes (inside_move s h f) w.walk; arrived = w.arrived }

  -- ---- into the goal's sector

  module _ (floor : List ℕ) (steps : List (List ℕ)) where
    abbrev the_goal_in : ℕ
    the_goal_in = sector_at steps 0

    record Entered (n : ℕ) (p : Place) : Type 0 where
      on_floor : the_goal_in < 64
      cell : ℕ
      cell_in : cell < 100
      reached : Reached (built_at true floor steps 0) cell
      walk : FloorWalk sheet n p (place_of the_goal_in cell)

    further_in : {n : ℕ} {p q : Place} → FloorMove sheet p q → Entered n q → Entered (suc n) p
    further_in f e = record { on_floor = e.on_floor; cell = e.cell; cell_in = e.cell_in; reached = e.reached; walk = goes f e.walk }

    entered : {n k : ℕ} {p : Place} → Journey true floor steps sheet n k p → (k ≡ zero → OnFloor p) → Entered n p
    entered {p = p} (ends r a) on =
        let o = on refl in
        let at : p ≡ place_of the_goal_in (the_cell_in p) = whole_place p o ∙ ap (λ (s : ℕ). place_of s (the_cell_in p)) r.in_sector in
        record {
          on_floor = omega (arith, r.in_sector, o.row_on, o.column_on);
          cell = the_cell_in p;
          cell_in = omega arith;
          reached = r.reached;
          walk = subst (FloorWalk sheet zero p) at stays;
        }
    entered (moves o f r m j) on = further_in f (entered j (λ e. landed f))
    entered (crosses c f r j) on = further_in f (entered j (λ e. landed f))

    -- ---- and on from there

    module _ (numbers : List ℕ) (told : ArrivalsTold (part sheet the_goal_in) numbers) {crossed : ℕ} {p : Place} (e : Entered crossed p) where
      stands : {n : ℕ} → Walked the_goal_in n e.cell → StandsThere floor steps sheet (crossed + n) p
      stands w = record { cell = w.cell; inside = w.cell_in; walk = joined e.walk w.walk; arrived = w.arrived }

      whole : crossed ≤ 1500 → WholeWay floor steps sheet numbers p
      whole few = record {
        crossed = crossed;
        few = few;
        entry = e.cell;
        inside = e.cell_in;
        reached = e.reached;
        walk = e.walk;
        arrives = λ n h q. stands (inside_walk the_goal_in e.on_floor e.cell_in ((told.first e.cell e.cell_in n h).0 q).comes);
        not_ever = (told.not_ever e.cell e.cell_in).0;
      }

-- ---- the theorem

pub leg_told : (bytes numbers : List ℕ) → ArrivalsTold bytes numbers → LegTold bytes numbers
leg_told bytes numbers told = record {
  whole_way = λ floor steps sheet arrives e k f h o x l r.
      (let journey = arrives.arrives k f h o x l r in
      whole sheet floor steps numbers (rw e at told) (entered sheet floor steps journey.2 (λ z. absurd (omega arith))) journey.1);
}
