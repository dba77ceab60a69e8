-- All the way to the goal's sector (02, "Job 4"), and without sight to the goal: what is promised of following a planned leg's arrows.
-- Assumes nothing.
use Rattle.std.specs.Prelude.{◌≡◌, Bool, true, false, List, ℕ, zero, suc, ◌+◌, ◌*◌, ◌≤◌, ◌<◌, length, get_or}
use Rattle.route.specs.Step.{goal_of}
use Rattle.route.specs.Target.{WindowCell}
use Rattle.step_list.specs.Steps.{step_of}
use Rattle.flow_arrows.specs.Arrows.{built_cost, Reached, Cuts, PassesWall}
use Rattle.leg_plan.specs.Promise.{sector_at, costs_at, built_at, target_at}
use Rattle.leg_journey.specs.Place.{Place, place_of, the_sector_in, the_cell_in, FloorMove}

module _ (sight : Bool) (floor : List ℕ) (steps : List (List ℕ)) where
  -- a place is a reached cell of the sector of step k, steps being counted from 0: its built cost there is below 65535
  pub record ReachedIn (k : ℕ) (p : Place) : Type 0 where
    pub in_sector : the_sector_in p ≡ sector_at steps k
    pub reached : Reached (built_at sight floor steps k) (the_cell_in p)

  -- A move inside that sector: it goes to a cell of strictly lower built cost and does not cut between two walls (demand 3), and passes no wall
  -- diagonally (02, "Job 7").
  pub record MoveInside (k : ℕ) (p q : Place) : Type 0 where
    pub lower : built_cost (built_at sight floor steps k) (the_cell_in q) < built_cost (built_at sight floor steps k) (the_cell_in p)
    pub uncut : Cuts (costs_at floor steps k) (target_at sight floor steps k) (the_cell_in p) (the_cell_in q) → ⊥
    pub clear : PassesWall (costs_at floor steps k) (target_at sight floor steps k) (the_cell_in p) (the_cell_in q) → ⊥

  -- Where following in a sector stops. In the goal's sector, that of step 0: anywhere, or at the goal where it is planned without sight. In any other:
  -- at a counting cell of its window, from which a move crosses.
  abbrev pub StopsFirst : Bool → ℕ → Type 0
  StopsFirst true x = Unit
  StopsFirst false x = x ≡ goal_of (step_of steps zero)

  abbrev pub Stops : ℕ → ℕ → Type 0
  Stops zero x = StopsFirst sight x
  Stops (suc k) x = WindowCell (target_at sight floor steps (suc k)) x

  -- Followed from a place in the sector of step k, the arrows of a sheet come after so many moves, crossings counted, into the goal's sector, and
  -- without sight to the goal: there following ends.
  -- From a counting cell of the window a move crosses into a reached cell of the sector listed before; from any other cell it stays in its sector.
  pub data Journey (sheet : List ℕ) : ℕ → ℕ → Place → Type 0 where
    ends : {p : Place} → ReachedIn zero p → Stops zero (the_cell_in p) → Journey sheet zero zero p
    moves : {n k : ℕ} {p q : Place} → (Stops k (the_cell_in p) → ⊥) → FloorMove sheet p q → ReachedIn k q
        → MoveInside k p q → Journey sheet n k q → Journey sheet (suc n) k p
    crosses : {n k : ℕ} {p q : Place} → Stops (suc k) (the_cell_in p) → FloorMove sheet p q → ReachedIn k q
        → Journey sheet n k q → Journey sheet (suc n) (suc k) p

-- no cost 0 in the sectors that are walked through: those of steps `from` to k
abbrev pub NoZeroFrom : ℕ → List ℕ → List (List ℕ) → ℕ → Type 0
NoZeroFrom from floor steps k = (j : ℕ) → from ≤ j → j ≤ k → (x : ℕ) → x < 100 → 1 ≤ get_or (costs_at floor steps j) x 0

abbrev pub NoZero : List ℕ → List (List ℕ) → ℕ → Type 0
NoZero floor steps k = NoZeroFrom 1 floor steps k

module _ (floor : List ℕ) (steps : List (List ℕ)) where
  -- From every reached cell of every sector but the first step's, the arrows of the sheet, followed, come into the goal's sector in at most
  -- 1,500 moves.
  pub record LegArrives (sheet : List ℕ) : Type 0 where
    pub arrives : (k : ℕ) → 1 ≤ k → k < length steps → NoZero floor steps k → (x : ℕ) → x < 100 → Reached (built_at true floor steps k) x
        → (n : ℕ) × (n ≤ 1500) × Journey true floor steps sheet n k (place_of (sector_at steps k) x)

  -- Planned without sight: from every reached cell of every sector, the first step's too, they come to the goal, in at most 99 moves in each sector and
  -- one across each window. A leg has at most 16 steps, so these are never more than 1,599.
  pub record LegArrivesAtGoal (sheet : List ℕ) : Type 0 where
    pub arrives : (k : ℕ) → k < length steps → NoZeroFrom 0 floor steps k → (x : ℕ) → x < 100 → Reached (built_at false floor steps k) x
        → (n : ℕ) × (n ≤ 99 * (k + 1) + k) × (n ≤ 1599) × Journey false floor steps sheet n k (place_of (sector_at steps k) x)

-- by the sight of the goal, or without
abbrev pub Arrives : Bool → List ℕ → List (List ℕ) → List ℕ → Type 0
Arrives true floor ss after = LegArrives floor ss after
Arrives false floor ss after = LegArrivesAtGoal floor ss after
