-- From every reached cell of a leg's later sector the arrows lead into the goal's sector.
-- In each sector they lead to a counting cell of its window, in at most 99 moves (demand 3 for the leg, `ArrowsLead.leads`). There one more move
-- crosses into a reached cell of the sector before (`crossing`), and so on: at most 100 moves a step, and at most 15 steps have a window.
--     window_sector    a later step's sector, with no cost 0, is one that demand 3 speaks of
--     crossed          the arrow of a counting cell, as the sheet has it, crosses into a reached cell of the sector before
--     followed         from a cell of the sector to the window, across it, and on
--     leg_arrives      the theorem
--     goal_arrives     planned without sight they lead to the goal itself
-- Assumes nothing.
use mathlib.Core.Path.{◌≡◌, refl, sym, ap, subst, ◌∙◌}
use mathlib.Core.Bool.{Bool, true, false}
use mathlib.Core.List.{List}
use Prim.Native.Nat.{ℕ, zero, suc, ◌+◌, ◌*◌, ◌%◌, ◌≤◌, ◌<◌}
use native.Mathlib.Omega.{arith}
use lib.Bits.{bit_or}
use lib.ListN.{length, get_or}
use Rattle.route.specs.Step.{boundary_of, step_number}
use Rattle.route.specs.Target.{Target, WindowCell, EndCell, is_sightless, target_of}
use Rattle.route.proofs.Accepted.{accepted_list}
use Rattle.route.proofs.Targets.{goal_end, without_sightless}
use Rattle.route.proofs.Below.{same_at}
use Rattle.sectors.proofs.Floor as sectors
use Rattle.sectors.proofs.Floor.{across_sector}
use Rattle.sector.specs.Sector.{sector_field, sector_bytes}
use Rattle.sector.proofs.Planned.{sector_leads}
use Rattle.flow_byte.specs.New.{window_bits}
use Rattle.flow_arrows.specs.Arrows.{Reached, arrow, Leads, ends, moves, ArrowsLead}
use Rattle.flow_arrows.specs.Promise.{WindowSector}
use Rattle.flow_arrows.proofs.Lead.{window_flow}
use Rattle.leg_counting.specs.Counting.{counting_cells}
use Rattle.step_list.specs.Steps.{steps_of}
use Rattle.leg_plan.specs.Leg.{part, planned}
use Rattle.step_list.specs.Steps.{step_of}
use Rattle.leg_plan.specs.Promise.{sector_at, portal_at, costs_at, has_before, built_at, built_before, target_at, LegPlannedBy}
use Rattle.step_list.proofs.Steps.{steps_count}
use Rattle.leg_plan.proofs.Before.{first_goal, later_window, sector_before}
use Rattle.leg_plan.proofs.Numbers.{Judged, ready}
use Rattle.leg_plan.proofs.Planned as plan
use Rattle.leg_plan.proofs.Sheet.{built_is}
use Rattle.leg_journey.specs.Place.{Place, place_of, the_cell_in, FloorMove, Points}
use Rattle.leg_journey.specs.Journey as journey
use Rattle.leg_journey.specs.Journey.{ReachedIn, MoveInside, Stops, Journey, NoZeroFrom, LegArrives, LegArrivesAtGoal}
use Rattle.leg_journey.proofs.Places.{sector_in, cell_in, arrow_is, inside}
use Rattle.leg_journey.proofs.Crossing.{Landing, crossing}

-- bits of the low half, or-ed onto a window cell's flags, are the arrow
low_half : (b : ℕ) → b < 16 → bit_or 0x90 b % 16 ≡ b
low_half = same_at 16 (λ b. bit_or 0x90 b % 16) (λ b. b) refl

-- a leg of which nothing is refused; the costs of a floor are bytes
module _ (sight : Bool) (floor steps sheet : List ℕ) (j : Judged floor steps sheet) (bytes : (i : ℕ) → get_or floor i 0 ≤ 255) where
  -- its steps; the sheet that it leaves; of the step at a place its sector, its costs, its target, its built costs, and its part of the sheet
  abbrev ss : List (List ℕ)
  ss = steps_of steps

  abbrev after : List ℕ
  after = planned sight floor ss sheet

  abbrev sector : ℕ → ℕ
  sector k = sector_at ss k

  abbrev costs : ℕ → List ℕ
  costs k = costs_at floor ss k

  abbrev target : ℕ → Target
  target k = target_at sight floor ss k

  abbrev built : ℕ → List ℕ
  built k = built_at sight floor ss k

  abbrev written : ℕ → List ℕ
  written k = part after (sector k)

  -- what is known of them
  so : LegPlannedBy sight floor ss sheet after
  so = plan.leg_planned sight floor steps sheet (ready j) j.sheet_full j.ordered bytes

  good : (k : ℕ) → k < length ss → step_number (step_of ss k) ≡ 0
  good = plan.good sight floor steps sheet (ready j) j.sheet_full

  in_floor : (k : ℕ) → k < length ss → sector k < 64
  in_floor = (plan.fits sight floor steps sheet (ready j) j.sheet_full).in_floor

  -- a journey from cell x of the sector of step i, of at most n moves
  abbrev Arriving : ℕ → ℕ → ℕ → Type 0
  Arriving i n x = (m : ℕ) × (m ≤ n) × Journey sight floor ss after m i (place_of (sector i) x)

  reached_in : (i : ℕ) {x : ℕ} → x < 100 → Reached (built i) x → ReachedIn sight floor ss i (place_of (sector i) x)
  reached_in i {x} l r = record {
    in_sector = sector_in (sector i) x l;
    reached = subst (Reached (built i)) (sym (cell_in (sector i) x l)) r;
  }

  -- ---- a step that is planned without sight: a later one, or where the leg is, the first

  module _ (k : ℕ) (h : k < length ss) (no_zero : (x : ℕ) → x < 100 → 1 ≤ get_or (costs k) x 0) where
    full : length (costs k) ≡ 100
    full = plan.part_hundred floor (sector k) j.floor_full (in_floor k h)

    byte : (x : ℕ) → x < 100 → get_or (costs k) x 0 ≤ 255
    byte = plan.part_bytes floor (sector k) bytes

    led : is_sightless (target k) ≡ true → ArrowsLead (costs k) (target k) (built k) (written k)
    led e =
        subst (λ (b : List ℕ). ArrowsLead (costs k) (target k) b (written k)) (sym (built_is sight floor ss k))
        (subst (ArrowsLead (costs k) (target k) (sector_field (costs k) (target k)).field) (sym (so.written k h))
        (sector_leads (costs k) (target k) (portal_at ss k) full (plan.target_at_law sight floor steps sheet (ready j) j.sheet_full k h) (has_before k)
        (built_before sight floor ss k) e byte no_zero))

    -- what the sector's part of the sheet says at a cell, the sheet says at its place
    on_sheet : {x : ℕ} {q : Place} → x < 100 → Points (arrow (written k) x) (place_of (sector k) x) q → FloorMove after (place_of (sector k) x) q
    on_sheet {x} {q} l p = subst (λ (a : ℕ). Points a (place_of (sector k) x) q) (sym (arrow_is (sector k) x l after)) p

    -- from a cell to where the arrows end, and on
    module _ (stops : (x : ℕ) → Stops sight floor ss k x → EndCell (target k) x) (rest : ℕ)
        (on : (x : ℕ) → x < 100 → Reached (built k) x → EndCell (target k) x → Arriving k rest x) where
      followed : {n x : ℕ} → x < 100 → Reached (built k) x → Leads (costs k) (target k) (built k) (written k) n x → Arriving k (n + rest) x
      followed {x = x} l v (ends m) = let r = on x l v m in (r.0, omega (arith, r.1), r.2)
      followed {x = x} l v (moves {y = y} o m further) =
          let w : Reached (built k) y = omega (arith, m.lower) in
          let r = followed m.inside w further in
          let p = cell_in (sector k) x l in
          let q = cell_in (sector k) y m.inside in
          let away = inside (sector k) x y (in_floor k h) m.inside m.away in
          let kept : MoveInside sight floor ss k (place_of (sector k) x) (place_of (sector k) y) = record {
            lower = rw (p, q) m.lower;
            uncut = rw (p, q) m.uncut;
            clear = rw (p, q) ((so.demand3 k h).clear.past_no_wall x y l m.inside m.away);
          } in
          let no_stop : Stops sight floor ss k (the_cell_in (place_of (sector k) x)) → ⊥ = λ c. o (stops x (subst (Stops sight floor ss k) p c)) in
          (suc r.0, omega (arith, r.1), journey.moves no_stop (on_sheet l away) (reached_in k m.inside w) kept r.2)

      arriving_in : is_sightless (target k) ≡ true → (x : ℕ) → x < 100 → Reached (built k) x → Arriving k (99 + rest) x
      arriving_in e x l r =
          let d = (led e).leads x l r in
          let a = followed l r d.2 in
          (a.0, omega (arith, a.1, d.1), a.2)

  -- ---- a later step: that behind step k

  module _ (k : ℕ) (h : suc k < length ss) (no_zero : (x : ℕ) → x < 100 → 1 ≤ get_or (costs (suc k)) x 0) where
    -- its sector
    abbrev here : ℕ
    here = sector (suc k)

    window_sector : WindowSector (costs (suc k)) (target (suc k))
    window_sector = record {
      full = full (suc k) h no_zero;
      no_zero = no_zero;
      byte = byte (suc k) h no_zero;
      target_in = plan.target_at_law sight floor steps sheet (ready j) j.sheet_full (suc k) h;
      is_by_window = refl;
    }

    before : sectors.Arrives here (boundary_of (step_of ss (suc k))) (sector k)
    before = across_sector here (boundary_of (step_of ss (suc k))) (sector k) (sector_before ss j.faced k h)

    window_arrow : (x : ℕ) → x < 100 → WindowCell (target (suc k)) x → window_bits (portal_at ss (suc k)) true (built k) x < 16
        → arrow (written (suc k)) x ≡ window_bits (portal_at ss (suc k)) true (built k) x
    unfolding sector_bytes
    window_arrow x l m few =
        let cells = counting_cells (built k) (step_of ss (suc k)) in
        ap (λ (b : List ℕ). arrow b x) (so.written (suc k) h)
        ∙ ap (λ (b : ℕ). b % 16) (window_flow (costs (suc k)) cells window_sector (portal_at ss (suc k)) true (built k) x l m)
        ∙ low_half _ few

    crossed : (x : ℕ) → x < 100 → WindowCell (target (suc k)) x → Landing (built k) here (sector k) x (arrow (written (suc k)) x)
    crossed x l m =
        let c = crossing (step_of ss (suc k)) (built k) (good (suc k) h) (later_window ss j.ordered k h) here (sector k) before x m in
        subst (Landing (built k) here (sector k) x) (sym (window_arrow x l m c.lands.0)) c

    across : (rest : ℕ) → ((y : ℕ) → y < 100 → Reached (built k) y → Arriving k rest y)
        → (x : ℕ) → x < 100 → WindowCell (target (suc k)) x → Arriving (suc k) (rest + 1) x
    across rest on x l m =
        let c = crossed x l m in
        let r = on c.cell c.inside c.reached in
        let at : WindowCell (target (suc k)) (the_cell_in (place_of here x)) = subst (WindowCell (target (suc k))) (sym (cell_in here x l)) m in (
          suc r.0,
          omega (arith, r.1),
          journey.crosses at (on_sheet (suc k) h no_zero l c.lands.1) (reached_in k c.inside c.reached) r.2,
        )

  -- ---- step after step: `last` moves are enough in the goal's sector, of which the costs from step `from` on count

  module _ (from last : ℕ) (from_in : from ≤ 1)
      (first : 0 < length ss → NoZeroFrom from floor ss 0 → (x : ℕ) → x < 100 → Reached (built 0) x → Arriving 0 last x) where
    arriving : (k : ℕ) → k < length ss → NoZeroFrom from floor ss k → (x : ℕ) → x < 100 → Reached (built k) x → Arriving k (k * 100 + last) x
    arriving zero h o x l r = let a = first h o x l r in (a.0, omega (arith, a.1), a.2)
    arriving (suc k) h o x l r =
        let no_zero = o (suc k) (omega arith) (omega arith) in
        let on = arriving k (omega arith) (λ i f t. o i f (omega arith)) in
        let a = arriving_in (suc k) h no_zero (λ y s. s) (k * 100 + last + 1) (λ y g v m. across k h no_zero (k * 100 + last) on y g m) refl x l r in
        (a.0, omega (arith, a.1), a.2)

module _ (floor steps sheet : List ℕ) (j : Judged floor steps sheet) (bytes : (i : ℕ) → get_or floor i 0 ≤ 255) where
  -- with sight a journey ends where it comes into the goal's sector
  pub leg_arrives : LegArrives floor (steps_of steps) (planned true floor (steps_of steps) sheet)
  leg_arrives = record {
    arrives = λ k f h o x l r.
        (let a = arriving true floor steps sheet j bytes 1 0 (omega arith)
        (λ g n y m v. (zero, omega arith, journey.ends (reached_in true floor steps sheet j bytes zero m v) tt)) k h o x l r in
        let few = (accepted_list steps j.list).few in
        (a.0, omega (arith, a.1, steps_count steps), a.2));
  }

  -- without sight the arrows lead on there, to the goal
  goal_first : 0 < length (steps_of steps) → NoZeroFrom 0 floor (steps_of steps) 0 → (x : ℕ) → x < 100
      → Reached (built_at false floor (steps_of steps) 0) x → Arriving false floor steps sheet j bytes 0 99 x
  goal_first h o x l r =
      let s = sector_at (steps_of steps) 0 in
      let first = step_of (steps_of steps) 0 in
      let ends = goal_end first (first_goal (steps_of steps) j.ordered h) in
      arriving_in false floor steps sheet j bytes 0 h (o 0 (omega arith) (omega arith)) (λ y e. (ends y).1 e) 0
      (λ y g v m. (
        zero,
        omega arith,
        journey.ends (reached_in false floor steps sheet j bytes zero g v) (cell_in s y g ∙ (ends y).0 m),
      ))
      (without_sightless (target_of (step_of (steps_of steps) 0))) x l r

  pub goal_arrives : LegArrivesAtGoal floor (steps_of steps) (planned false floor (steps_of steps) sheet)
  goal_arrives = record {
    arrives = λ k h o x l r.
        (let a = arriving false floor steps sheet j bytes 0 99 (omega arith) goal_first k h o x l r in
        let few = (accepted_list steps j.list).few in
        (a.0, omega (arith, a.1), omega (arith, a.1, steps_count steps), a.2));
  }
