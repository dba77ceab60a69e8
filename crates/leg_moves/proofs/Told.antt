-- What is promised of a move and of a way: they are told by the relation of moves alone.
--     moved_is, still_is      the answer where a move leads on, and where none does
--     stood_is, never_is      the answer where so many moves come to a stand, and where none do
--     move_number, way_number its number is 0 in both
--     move_told, way_told     the promises
-- Assumes nothing.
use mathlib.Core.Path.{◌≡◌, refl, sym, ap, subst, ◌∙◌}
use mathlib.Core.Bool.{Bool, true, false, true≢false, cond}
use mathlib.Core.Logic.{◌↔◌}
use mathlib.Core.List.{List}
use Prim.Native.Nat.{ℕ, suc, ◌+◌, ◌≤◌, ◌<◌}
use native.Mathlib.Numerals.{add-one}
use native.Mathlib.Omega.{arith}
use Rattle.flow_bits.specs.Byte.{is_goal, has_line_of_sight}
use Rattle.leg_journey.specs.Place.{Place, OnFloor, place_of, the_sector_in, the_cell_in, FloorMove, FloorWalk, stays, goes}
use Rattle.leg_journey.proofs.Places.{landed, whole_place}
use Rattle.leg_moves.specs.Moving.{ReadsGoal, ReadsSight, ReadsNeither, still_outcome, byte_at, Still, Next, moves_to, stands}
use Rattle.leg_moves.specs.Moving.{StandsAfter, StandsWhere, Way, stands_after, stands_never}
use Rattle.leg_moves.specs.Decided.{next, move_once, stands_once, few_moves, way}
use Rattle.leg_moves.specs.Answers.{accepted_move, move_of, move_from, stood, way_of, way_from}
use Rattle.leg_moves.specs.Promise.{MoveTold, WayTold}
use Rattle.leg_moves.proofs.Again.{comes_again, round_never}

-- a place of the floor has a sector and a cell of it
pub sector_below : (p : Place) → OnFloor p → the_sector_in p < 64
sector_below p on = omega (arith, on.row_on, on.column_on)

-- a place, from that of its sector and cell
pub back : (p : Place) → OnFloor p → place_of (the_sector_in p) (the_cell_in p) ≡ p
back p on = sym (whole_place p on)

module _ (sheet : List ℕ) where
  pub ends_on : {n : ℕ} {p q : Place} → OnFloor p → FloorWalk sheet n p q → OnFloor q
  ends_on on stays = on
  ends_on on (goes f w) = ends_on (landed f) w

  -- one walk, and a move more
  move_more : {n : ℕ} {p q r : Place} → FloorWalk sheet n p q → FloorMove sheet q r → FloorWalk sheet (suc n) p r
  move_more stays m = goes m stays
  move_more (goes f w) m = goes f (move_more w m)

  pub move_one : {n : ℕ} {p q r : Place} → FloorWalk sheet n p q → FloorMove sheet q r → FloorWalk sheet (n + 1) p r
  move_one {n} {p} {r = r} w m = subst (λ (k : ℕ). FloorWalk sheet k p r) (sym (add-one n)) (move_more w m)

  -- ---- the answers

  pub moved_is : {p q : Place} → FloorMove sheet p q → move_from sheet p ≡ accepted_move 1 q
  unfolding move_from
  moved_is {p} {q} m = go (next sheet p)
    where
      go : (n : Next sheet p) → move_of n ≡ accepted_move 1 q
      go (moves_to r w) = ap (accepted_move 1) (move_once sheet w m)
      go (stands o) = absurd (o q m)

  pub still_is : {p : Place} → Still sheet p → move_from sheet p ≡ accepted_move (still_outcome (byte_at sheet p)) p
  unfolding move_from
  still_is {p} o = go (next sheet p)
    where
      go : (n : Next sheet p) → move_of n ≡ accepted_move (still_outcome (byte_at sheet p)) p
      go (moves_to r w) = absurd (o r w)
      go (stands u) = refl

  pub move_number : (p : Place) → (move_from sheet p).number ≡ 0
  unfolding move_from
  move_number p = go (next sheet p)
    where
      go : (n : Next sheet p) → (move_of n).number ≡ 0
      go (moves_to r w) = refl
      go (stands u) = refl

  pub stood_is : {n : ℕ} {p : Place} (s : StandsAfter sheet n p) → way_from sheet p ≡ stood (still_outcome (byte_at sheet s.at)) n s.at
  unfolding way_from
  stood_is {n} {p} s = go (way sheet p)
    where
      go : (w : Way sheet p) → way_of w ≡ stood (still_outcome (byte_at sheet s.at)) n s.at
      go (stands_after m t) = let e = stands_once sheet t s in rw (e.0, e.1)
      go (stands_never o) = absurd (o n s)

  pub way_number : (p : Place) → (way_from sheet p).number ≡ 0
  unfolding way_from
  way_number p = go (way sheet p)
    where
      go : (w : Way sheet p) → (way_of w).number ≡ 0
      go (stands_after m t) = refl
      go (stands_never u) = refl

  pub never_is : {p : Place} → ((n : ℕ) → StandsAfter sheet n p → ⊥) → way_from sheet p ≡ stood 4 0 p
  unfolding way_from
  never_is {p} o = go (way sheet p)
    where
      go : (w : Way sheet p) → way_of w ≡ stood 4 0 p
      go (stands_after m t) = absurd (o m t)
      go (stands_never u) = refl

  -- a walk of more moves than any way from the floor that ends
  pub long_never : {n : ℕ} {p q : Place} → OnFloor p → n ≡ 6400 → FloorWalk sheet n p q → (m : ℕ) → StandsAfter sheet m p → ⊥
  long_never {n} on e w m s = go w s.walk s.still (omega (arith, few_moves sheet on s))
    where
      go : {i j : ℕ} {p q r : Place} → FloorWalk sheet i p q → FloorWalk sheet j p r → Still sheet r → j < i → ⊥
      go stays v o h = omega arith
      go (goes {q = q} f u) stays o h = o q f
      go (goes {q = q} f u) (goes {n = k} {r = r} g v) o h =
          go u (subst (λ (x : Place). FloorWalk sheet k x r) (move_once sheet g f) v) o (omega arith)

-- ---- by the byte of a place where a cart stands still

record StillTold (b o : ℕ) : Type 0 where
  goal : (o ≡ 2) ↔ ReadsGoal b
  sight : (o ≡ 3) ↔ ReadsSight b
  neither : (o ≡ 0) ↔ ReadsNeither b
  not_moved : o ≡ 1 → ⊥
  few : o ≤ 3

still_told : (b : ℕ) → StillTold b (still_outcome b)
still_told b = go (is_goal b) (has_line_of_sight b) refl refl
  where
    go : (g s : Bool) → is_goal b ≡ g → has_line_of_sight b ≡ s → StillTold b (cond g 2 (cond s 3 0))
    go true s e f = record {
      goal = (λ z. e, λ z. refl);
      sight = (λ z. absurd (omega arith), λ z. absurd (true≢false (sym e ∙ z.0)));
      neither = (λ z. absurd (omega arith), λ z. absurd (true≢false (sym e ∙ z.0)));
      not_moved = λ z. omega arith;
      few = omega arith;
    }
    go false true e f = record {
      goal = (λ z. absurd (omega arith), λ z. absurd (true≢false (sym z ∙ e)));
      sight = (λ z. (e, f), λ z. refl);
      neither = (λ z. absurd (omega arith), λ z. absurd (true≢false (sym f ∙ z.1)));
      not_moved = λ z. omega arith;
      few = omega arith;
    }
    go false false e f = record {
      goal = (λ z. absurd (omega arith), λ z. absurd (true≢false (sym z ∙ e)));
      sight = (λ z. absurd (omega arith), λ z. absurd (true≢false (sym z.1 ∙ f)));
      neither = (λ z. (e, f), λ z. refl);
      not_moved = λ z. omega arith;
      few = omega arith;
    }

-- ---- the promises

module _ (sheet : List ℕ) (p : Place) (on : OnFloor p) where
  pub move_told : MoveTold sheet p (move_from sheet p)
  unfolding move_from
  move_told = go (next sheet p)
    where
      go : (n : Next sheet p) → MoveTold sheet p (move_of n)
      go (moves_to q m) = record {
        moved = λ r. (λ e. subst (FloorMove sheet p) (whole_place q (landed m) ∙ e.1) m, λ w. (refl, back q (landed m) ∙ move_once sheet m w));
        arrived = (λ e. absurd (omega arith), λ z. absurd (z.0 q m));
        in_sight = (λ e. absurd (omega arith), λ z. absurd (z.0 q m));
        stopped = (λ e. absurd (omega arith), λ z. absurd (z.0 q m));
        outcomes = omega arith;
        keeps = λ h. absurd (h refl);
        sector_in = sector_below q (landed m);
        cell_in = omega arith;
      }
      go (stands o) =
          let t = still_told (byte_at sheet p) in
          record {
            moved = λ q. (λ e. absurd (t.not_moved e.0), λ w. absurd (o q w));
            arrived = (λ e. (o, t.goal.0 e), λ z. t.goal.1 z.1);
            in_sight = (λ e. (o, t.sight.0 e), λ z. t.sight.1 z.1);
            stopped = (λ e. (o, t.neither.0 e), λ z. t.neither.1 z.1);
            outcomes = t.few;
            keeps = λ h. back p on;
            sector_in = sector_below p on;
            cell_in = omega arith;
          }

  -- a way that ends, and what its byte there reads as
  module _ {n : ℕ} (s : StandsAfter sheet n p) where
    abbrev there : ℕ
    there = byte_at sheet s.at

    told : StillTold there (still_outcome there)
    told = still_told there

    same_byte : {m : ℕ} (t : StandsAfter sheet m p) → byte_at sheet t.at ≡ there
    same_byte t = ap (byte_at sheet) (stands_once sheet t s).1

    reads_so : {o : ℕ} (Kind : ℕ → Type 0) → (still_outcome there ≡ o) ↔ Kind there → (still_outcome there ≡ o) ↔ StandsWhere sheet Kind p
    reads_so Kind e = (
      λ z. record { moves = n; stands_there = s; reads = e.0 z },
      λ w. e.1 (subst Kind (same_byte w.stands_there) w.reads),
    )

    other : still_outcome there ≡ 4 → ⊥
    other e = omega (arith, e, told.few)

  -- and one that does not: no byte is come to
  none_where : {o : ℕ} (Kind : ℕ → Type 0) → ((n : ℕ) → StandsAfter sheet n p → ⊥) → (o ≡ 4 → ⊥) → (4 ≡ o) ↔ StandsWhere sheet Kind p
  none_where Kind u h = (λ e. absurd (h (sym e)), λ w. absurd (u w.moves w.stands_there))

  pub way_told : WayTold sheet p (way_from sheet p)
  unfolding way_from
  way_told = go (way sheet p)
    where
      go : (w : Way sheet p) → WayTold sheet p (way_of w)
      go (stands_after n s) =
          let at = back s.at (ends_on sheet on s.walk) in
          let t = told s in
          record {
            stands = λ m q. (
              λ (ends, (many, there)). subst (λ (x : Place). FloorWalk sheet m p x × Still sheet x) (sym at ∙ there)
                  (subst (λ (k : ℕ). FloorWalk sheet k p s.at) many s.walk, s.still),
              λ w. (let u = stands_once sheet s (record { at = q; walk = w.0; still = w.1 }) in (other s, (u.0, at ∙ u.1))),
            );
            arrived = reads_so s ReadsGoal t.goal;
            in_sight = reads_so s ReadsSight t.sight;
            stopped = reads_so s ReadsNeither t.neither;
            not_ever = (λ e. absurd (other s e), λ z. absurd (z n s));
            again = (λ e. absurd (other s e), λ a. absurd (round_never sheet p a n s));
            keeps = λ e. absurd (other s e);
            outcomes = omega (arith, t.few);
            not_moved = t.not_moved;
            few = few_moves sheet on s;
            sector_in = sector_below s.at (ends_on sheet on s.walk);
            cell_in = omega arith;
          }
      go (stands_never u) = record {
        stands = λ m q. (λ e. absurd (e.0 refl), λ w. absurd (u m (record { at = q; walk = w.0; still = w.1 })));
        arrived = none_where ReadsGoal u (λ e. omega (arith, e));
        in_sight = none_where ReadsSight u (λ e. omega (arith, e));
        stopped = none_where ReadsNeither u (λ e. omega (arith, e));
        not_ever = (λ e. u, λ z. refl);
        again = (λ e. comes_again sheet p on u, λ a. refl);
        keeps = λ e. (back p on, refl);
        outcomes = omega arith;
        not_moved = λ e. omega (arith, e);
        few = omega arith;
        sector_in = sector_below p on;
        cell_in = omega arith;
      }
