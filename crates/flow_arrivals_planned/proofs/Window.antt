-- In a sector planned without sight, with no cost 0, the arrows of every reached cell arrive: they lead to a window cell or to the goal (`arrows_led`),
-- whose byte reads as portal goal or as goal; and no byte on the way there does.
--     end_arrival         the byte of such a cell
--     leads_comes         where the arrows lead they come
--     no_fewer            and after no fewer moves
--     sightless_arrives   the theorem
--     window_arrives      the same of a sector left by a window
-- Assumes nothing.
use mathlib.Core.Path.{◌≡◌, refl, sym, ap, ◌∙◌}
use mathlib.Core.Bool.{Bool, true, false, true≢false}
use mathlib.Core.List.{List, map}
use Prim.Native.Nat.{ℕ, ◌≤◌, ◌<◌}
use native.Mathlib.Omega.{arith}
use lib.Bits.{bit_or}
use lib.ListN.{get_or}
use Rattle.utilities.specs.declared.CompassDir.{CompassDir}
use Rattle.utilities.specs.declared.CompassDir.TheVariants.{North, East, South, West, NorthEast, SouthEast, SouthWest, NorthWest, Zero}
use Rattle.utilities.specs.Lists.{below}
use Rattle.route.specs.declared.PortalWindow.{PortalWindow}
use Rattle.route.specs.Target.{Target, EndCell}
use Rattle.route.proofs.Below.{holds_at}
use Rattle.flow_byte.specs.New.{start_of}
use Rattle.flow_byte.specs.Look.{pointed}
use Rattle.flow_arrows.specs.Arrows.{Reached, arrow, Leads, ends, moves}
use Rattle.flow_arrows.specs.Promise.{SightlessSector, built_cells}
use Rattle.flow_arrows.proofs.Fall.{EndWord, at_portal, at_goal}
use Rattle.flow_arrows.proofs.CellBytes.{end_word_is}
use Rattle.flow_arrows.proofs.Moves.{away_once}
use Rattle.flow_arrows.proofs.Lead.{arrows_led, window_sightless, points_flow, end_flow}
use Rattle.sector.specs.Sector.{sector_bytes}
use Rattle.flow_arrivals.specs.Following.{is_arrival, Comes, there, further, ComesFirst}
use Rattle.flow_arrivals.specs.Arrivals.{moves_from}
use Rattle.flow_arrivals.proofs.Told.{told}
use Rattle.flow_arrivals_planned.specs.Promise.{WindowArrives, SightlessArrives}

-- bits below 0x20, or-ed onto 0x90
portal_arrival : (b : ℕ) → b < 32 → is_arrival (bit_or 0x90 b) ≡ true
portal_arrival b h = holds_at 32 (λ b. is_arrival (bit_or 0x90 b)) refl b h

-- and onto 0x70
goal_arrival : (b : ℕ) → b < 32 → is_arrival (bit_or 0x70 b) ≡ true
goal_arrival b h = holds_at 32 (λ b. is_arrival (bit_or 0x70 b)) refl b h

word_arrival : {w : ℕ} → EndWord w → (b : ℕ) → b < 32 → is_arrival (bit_or (start_of w) b) ≡ true
unfolding start_of
word_arrival at_portal b h = portal_arrival b h
word_arrival at_goal b h = goal_arrival b h

-- a direction without flags
pointed_on : (d : CompassDir) → is_arrival (pointed 0 d) ≡ false
unfolding pointed
pointed_on North = refl
pointed_on East = refl
pointed_on South = refl
pointed_on West = refl
pointed_on NorthEast = refl
pointed_on SouthEast = refl
pointed_on SouthWest = refl
pointed_on NorthWest = refl
pointed_on Zero = refl

module _ (costs : List ℕ) (target : Target) (portal : PortalWindow) (has : Bool) (previous : List ℕ) (w : SightlessSector costs target) where
  abbrev bytes : List ℕ
  bytes = sector_bytes costs target portal has previous

  end_arrival : (x : ℕ) → x < 100 → EndCell target x → is_arrival (get_or bytes x 0) ≡ true
  unfolding sector_bytes
  end_arrival x h m =
      let b = end_flow costs target w portal has previous x h m in
      ap is_arrival b.2 ∙ word_arrival (end_word_is target) b.0 b.1

  leads_comes : {n x : ℕ} → x < 100 → Leads costs target (built_cells costs target) bytes n x → Comes bytes n x
  leads_comes {x = x} h (ends m) = there (end_arrival x h m)
  leads_comes {x = x} h (moves o m rest) = further (record { leaves = h; away = m.away; enters = m.inside }) (leads_comes m.inside rest)

  -- the byte of a reached cell where they do not end is a direction, at which nothing arrives
  on_the_way : (x : ℕ) → x < 100 → Reached (built_cells costs target) x → (EndCell target x → ⊥) → is_arrival (get_or bytes x 0) ≡ false
  unfolding sector_bytes
  on_the_way x h r o =
      let b = points_flow costs target w.full w.target_in w.sightless w.byte portal has previous x h r o in
      ap is_arrival b.1 ∙ pointed_on b.0

  -- so they arrive after no fewer moves than those by which they lead
  no_fewer : {n m x : ℕ} → x < 100 → Reached (built_cells costs target) x → Leads costs target (built_cells costs target) bytes n x → Comes bytes m x → n ≤ m
  no_fewer h r (ends e) c = omega arith
  no_fewer {x = x} h r (moves o m rest) (there a) = absurd (true≢false (sym a ∙ on_the_way x h r o))
  no_fewer {x = x} h r (moves {y = y} o m rest) (further {y = z} f c) =
      let same : z ≡ y = away_once (arrow bytes x) x z y f.away m.away in
      let fewer = no_fewer m.inside (omega (arith, m.lower)) rest (rw same at c) in
      omega arith

  reached_leads : (x : ℕ) → x < 100 → Reached (built_cells costs target) x
      → (n : ℕ) × (n ≤ 99) × (Leads costs target (built_cells costs target) bytes n x × ComesFirst bytes n x)
  unfolding sector_bytes
  reached_leads x h r =
      let l = (arrows_led costs target w portal has previous).leads x h r in
      let first : ComesFirst bytes l.0 x = record { comes = leads_comes h l.2; no_fewer = λ m less c. (let k = no_fewer h r l.2 c in omega arith) } in
      (l.0, l.1, (l.2, first))

pub sightless_arrives : (sheet numbers : List ℕ) → numbers ≡ map (moves_from sheet) (below 100) → SightlessArrives sheet numbers
sightless_arrives sheet numbers answer = record {
  arrives = λ costs target portal has previous w e x h r.
      (let l = reached_leads costs target portal has previous w x h r in
      let n : get_or numbers x 0 ≡ l.0 = ((told sheet numbers answer).first x h l.0 (omega (arith, l.1))).1 (rw e l.2.1) in
      rw (n, e) l.2.0);
}

pub window_arrives : (sheet numbers : List ℕ) → numbers ≡ map (moves_from sheet) (below 100) → WindowArrives sheet numbers
window_arrives sheet numbers answer = record {
  arrives = λ costs target portal has previous w.
      (sightless_arrives sheet numbers answer).arrives costs target portal has previous (window_sightless costs target w);
}
