-- On the sheet of a planned leg a cart's moves are those of its journey (`LegArrives`, `LegArrivesAtGoal`).
--     walk_drives          moves by the sheet, one after the other, are what the calls answer
--     ended                where a journey ends, and the walk there
--     leg_driven           so many moves come into the goal's sector, and without sight to the goal
--     way_to_goal          and the way from there is answered with arrived, at the goal
-- Assumes nothing.
use mathlib.Core.Path.{◌≡◌, sym, ap, ap₂, subst, ◌∙◌}
use mathlib.Core.Bool.{Bool, true, false}
use mathlib.Core.List.{List}
use Prim.Native.Nat.{ℕ, zero, ◌%◌, ◌≤◌, ◌<◌}
use native.Mathlib.Omega.{arith}
use lib.ListN.{length}
use Rattle.route.specs.Step.{goal_of}
use Rattle.flow_arrows.specs.Arrows.{Reached}
use Rattle.step_list.specs.Steps.{step_of, steps_of}
use Rattle.leg_plan.specs.Leg.{planned}
use Rattle.leg_plan.specs.Promise.{sector_at, built_at}
use Rattle.leg_plan.proofs.Numbers.{Judged, accepted, ready}
use Rattle.leg_plan.proofs.Planned as plan
use Rattle.leg_journey.specs.Place.{Place, OnFloor, place_of, the_sector_in, the_cell_in, FloorWalk, stays, goes}
use Rattle.leg_journey.specs.Journey.{ReachedIn, Stops, Journey, ends, moves, crosses, NoZero, NoZeroFrom, LegArrives, LegArrivesAtGoal}
use Rattle.leg_journey.proofs.Places.{sector_in, cell_in, on_floor, landed}
use Rattle.leg_journey.proofs.Arrives.{leg_arrives, goal_arrives}
use Rattle.leg_moves.specs.declared.CartMove.{CartMove}
use Rattle.leg_moves.specs.declared.CartWay.{CartWay}
use Rattle.leg_moves.specs.Moving.{still_outcome, byte_at, Still}
use Rattle.leg_moves.specs.Answers.{move_from, move_answer, stood, way_from}
use Rattle.leg_moves.specs.Promise.{CartAccepted, Drives, rests, drives, LegSheet, DrivenIn, DrivenToGoal, LegDriven, WayToGoal}
use Rattle.leg_moves.proofs.Numbers.{good}
use Rattle.leg_moves.proofs.Told.{sector_below, back, ends_on, moved_is, still_is, stood_is}
use Rattle.leg_moves.proofs.Goal.{goal_in, goal_sector_in, goal_byte}

-- ---- moves one after the other

module _ (sheet : List ℕ) where
  taken_is : (sector cell : ℕ) → CartAccepted sheet sector cell → move_answer sheet sector cell ≡ move_from sheet (place_of sector cell)
  unfolding move_answer
  taken_is sector cell t = rw (good sheet sector cell t)

  module _ (full : length sheet ≡ 6400) where
    answer_is : (p : Place) → OnFloor p → move_answer sheet (the_sector_in p) (the_cell_in p) ≡ move_from sheet p
    answer_is p on =
        taken_is (the_sector_in p) (the_cell_in p) (record { full = full; sector_in = sector_below p on; cell_in = omega arith })
        ∙ ap (move_from sheet) (back p on)

    walk_drives : {n : ℕ} {p q : Place} → OnFloor p → FloorWalk sheet n p q → Drives sheet n (the_sector_in p) (the_cell_in p) (the_sector_in q) (the_cell_in q)
    walk_drives on stays = rests
    walk_drives {p = p} {q = q} on (goes {n = m} f w) =
        let e = answer_is p on ∙ moved_is sheet f in
        drives (ap (λ (a : CartMove). a.outcome) e)
        (subst (λ (a : CartMove). Drives sheet m a.sector a.cell (the_sector_in q) (the_cell_in q)) (sym e) (walk_drives (landed f) w))

-- ---- where a journey ends

module _ (sight : Bool) (floor : List ℕ) (steps : List (List ℕ)) (sheet : List ℕ) where
  record Ended (n : ℕ) (p : Place) : Type 0 where
    at : Place
    walk : FloorWalk sheet n p at
    reached : ReachedIn sight floor steps zero at
    stops : Stops sight floor steps zero (the_cell_in at)

  ended : {n k : ℕ} {p : Place} → Journey sight floor steps sheet n k p → Ended n p
  ended {p = p} (ends r a) = record { at = p; walk = stays; reached = r; stops = a }
  ended (moves o f r m j) = let e = ended j in record { at = e.at; walk = goes f e.walk; reached = e.reached; stops = e.stops }
  ended (crosses c f r j) = let e = ended j in record { at = e.at; walk = goes f e.walk; reached = e.reached; stops = e.stops }

-- ---- a planned leg

module _ (sight : Bool) (floor steps before sheet : List ℕ) (l : LegSheet sight floor steps before sheet) where
  judged : Judged floor steps before
  judged = (accepted sight floor steps before l.number).0

  sheet_is : sheet ≡ planned sight floor (steps_of steps) before
  sheet_is = l.is ∙ rw l.number

  sheet_full : length sheet ≡ 6400
  sheet_full =
      ap length sheet_is
      ∙ (plan.leg_planned sight floor steps before (ready judged) judged.sheet_full judged.ordered l.byte).same_length
      ∙ judged.sheet_full

  -- a cell of the sector of step k
  module _ (k : ℕ) (h : k < length (steps_of steps)) (x : ℕ) (g : x < 100) where
    abbrev sector : ℕ
    sector = sector_at (steps_of steps) k

    start_on : OnFloor (place_of sector x)
    start_on = on_floor sector x ((plan.fits sight floor steps before (ready judged) judged.sheet_full).in_floor k h) g

    -- a journey from there is so many calls
    journey_drives : {n : ℕ} (j : Journey sight floor (steps_of steps) sheet n k (place_of sector x))
        → Drives sheet n sector x (sector_at (steps_of steps) 0) (the_cell_in (ended sight floor (steps_of steps) sheet j).at)
    journey_drives j =
        let e = ended sight floor (steps_of steps) sheet j in
        let d = walk_drives sheet sheet_full start_on e.walk in
        rw (sector_in sector x g, cell_in sector x g, e.reached.in_sector) at d

-- ---- with sight: into the goal's sector

module _ (floor steps before sheet : List ℕ) (l : LegSheet true floor steps before sheet) where
  arrives : LegArrives floor (steps_of steps) sheet
  arrives =
      subst (LegArrives floor (steps_of steps)) (sym (sheet_is true floor steps before sheet l))
      (leg_arrives floor steps before (judged true floor steps before sheet l) l.byte)

  driven_in : (k : ℕ) → 1 ≤ k → k < length (steps_of steps) → NoZero floor (steps_of steps) k → (x : ℕ) → x < 100
      → Reached (built_at true floor (steps_of steps) k) x → DrivenIn floor (steps_of steps) sheet k x
  driven_in k f h o x g r =
      let a = arrives.arrives k f h o x g r in
      let e = ended true floor (steps_of steps) sheet a.2 in
      record {
        moves = a.0;
        few = a.1;
        journey = a.2;
        cell = the_cell_in e.at;
        inside = omega arith;
        reached = e.reached.reached;
        drives = journey_drives true floor steps before sheet l k h x g a.2;
      }

-- ---- without sight: to the goal

module _ (floor steps before sheet : List ℕ) (l : LegSheet false floor steps before sheet) (some : 0 < length (steps_of steps)) where
  abbrev leg : Judged floor steps before
  leg = judged false floor steps before sheet l

  -- the goal's sector and cell, and its place
  abbrev goal_sector : ℕ
  goal_sector = sector_at (steps_of steps) 0

  abbrev goal : ℕ
  goal = goal_of (step_of (steps_of steps) 0)

  abbrev goal_place : Place
  goal_place = place_of goal_sector goal

  goal_inside : goal < 100
  goal_inside = goal_in floor steps before leg l.byte some

  byte_is : byte_at sheet goal_place ≡ 0x70
  byte_is =
      ap (λ (s : List ℕ). byte_at s goal_place) (sheet_is false floor steps before sheet l)
      ∙ goal_byte floor steps before leg l.byte some

  goal_still : Still sheet goal_place
  goal_still q m = let a = ap (λ (b : ℕ). b % 16) byte_is in omega (arith, m.somewhere, a)

  goal_arrived : (move_answer sheet goal_sector goal).outcome ≡ 2
  goal_arrived =
      let taken : CartAccepted sheet goal_sector goal = record {
        full = sheet_full false floor steps before sheet l;
        sector_in = goal_sector_in floor steps before leg l.byte some;
        cell_in = goal_inside;
      } in
      ap (λ (a : CartMove). a.outcome) (taken_is sheet goal_sector goal taken ∙ still_is sheet goal_still) ∙ ap still_outcome byte_is

  arrives_at : LegArrivesAtGoal floor (steps_of steps) sheet
  arrives_at =
      subst (LegArrivesAtGoal floor (steps_of steps)) (sym (sheet_is false floor steps before sheet l))
      (goal_arrives floor steps before leg l.byte)

  -- from a reached cell of the sector of step k
  module _ (k : ℕ) (h : k < length (steps_of steps)) (o : NoZeroFrom 0 floor (steps_of steps) k) (x : ℕ) (g : x < 100)
      (r : Reached (built_at false floor (steps_of steps) k) x) where
    abbrev from : Place
    from = place_of (sector_at (steps_of steps) k) x

    -- the journey of `arrives`, and how many moves it has
    abbrev count : ℕ
    count = (arrives_at.arrives k h o x g r).0

    few_moves : count ≤ 1599
    few_moves = (arrives_at.arrives k h o x g r).2

    abbrev there : Journey false floor (steps_of steps) sheet count k from
    there = (arrives_at.arrives k h o x g r).3

    abbrev end : Ended false floor (steps_of steps) sheet count from
    end = ended false floor (steps_of steps) sheet there

    end_place : end.at ≡ goal_place
    end_place =
        sym (back end.at (ends_on sheet (start_on false floor steps before sheet l k h x g) end.walk))
        ∙ ap₂ place_of end.reached.in_sector end.stops

    driven_goal : DrivenToGoal floor (steps_of steps) sheet k x
    driven_goal = record {
      moves = count;
      few = few_moves;
      journey = there;
      drives =
          subst (Drives sheet count (sector_at (steps_of steps) k) x goal_sector) end.stops
          (journey_drives false floor steps before sheet l k h x g there);
      arrived = goal_arrived;
    }

    way_goal : way_from sheet from ≡ stood 2 count goal_place
    way_goal =
        stood_is sheet (record { at = goal_place; walk = subst (FloorWalk sheet count from) end_place end.walk; still = goal_still })
        ∙ rw byte_is

-- ---- the promises

pub leg_driven : (sheet : List ℕ) → LegDriven sheet
leg_driven sheet = record {
  into = λ floor steps before l. driven_in floor steps before sheet l;
  to_goal = λ floor steps before l k h. driven_goal floor steps before sheet l (omega arith) k h;
}

pub way_to_goal : (sheet : List ℕ) (sector cell : ℕ) (r : CartWay) → cell < 100 → r ≡ way_from sheet (place_of sector cell) → WayToGoal sheet sector cell r
way_to_goal sheet sector cell r g e = record {
  arrives = λ floor steps before l k h o s v.
      (let some : 0 < length (steps_of steps) = omega arith in
      let goalCell = goal_of (step_of (steps_of steps) 0) in
      let inside = goal_inside floor steps before sheet l some in
      let is = e ∙ ap (λ (t : ℕ). way_from sheet (place_of t cell)) s ∙ way_goal floor steps before sheet l some k h o cell g v in
      record {
        outcome_is = ap (λ (w : CartWay). w.outcome) is;
        few = omega (arith, ap (λ (w : CartWay). w.moves) is, few_moves floor steps before sheet l some k h o cell g v);
        sector_is = ap (λ (w : CartWay). w.sector) is ∙ sector_in (sector_at (steps_of steps) 0) goalCell inside;
        cell_is = ap (λ (w : CartWay). w.cell) is ∙ cell_in (sector_at (steps_of steps) 0) goalCell inside;
      });
}
