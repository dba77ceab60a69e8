-- A sure cell's arrow is the same on all floors with the same walls whose costs keep within the bounds.
--     points_at     where a look has come to a cell, or takes it, the arrow of the byte points there
--     chosen        the neighbour of a sure cell that the look comes to on each of the floors: the first window cell that it sees, and where it
--                   sees none the one of strictly least cost. No cell that nothing reaches ends the look before: where one permitted
--                   neighbour is reached, all are
-- Assumes nothing.
use mathlib.Core.Path.{◌≡◌, sym, ap, subst, ◌∙◌}
use mathlib.Core.Bool.{Bool, true, ◌||◌}
use mathlib.Core.Logic.{◌⊎◌, inl, inr}
use mathlib.Core.List.{List, Memᴰ}
use Prim.Native.Nat.{ℕ, ◌%◌, ◌^◌, ◌≤◌, ◌<◌}
use native.Mathlib.Omega.{arith}
use lib.ListN.{get_or}
use Rattle.utilities.specs.declared.CompassDir.{CompassDir}
use Rattle.utilities.specs.Compass.{all}
use Rattle.fields.specs.Cell.{cell_at}
use Rattle.fields.proofs.Steps.{stepped_cell}
use Rattle.route.specs.declared.PortalWindow.{PortalWindow}
use Rattle.route.specs.Target.{to_window, WindowCell}
use Rattle.integration_field.specs.Word.{low, is_goal, is_portal}
use Rattle.integration_walks.proofs.Ground.{among_mem, mem_among}
use Rattle.flow_byte.specs.Look.{Look, Looking, Taken, Ended, look_around, looked_byte, pointed, flow_build}
use Rattle.flow_byte.specs.New.{new_bytes}
use Rattle.flow_arrows.specs.Arrows.{arrow, Away}
use Rattle.flow_arrows.proofs.Fall.{is_in_law, in_among, Sector, value, Plain, NoWall, end_word_law}
use Rattle.flow_arrows.proofs.Around.{Sees, near_in, pointing_in, reached_there, reached_back}
use Rattle.flow_arrows.proofs.Look.{Takes, is_taking}
use Rattle.flow_arrows.proofs.Reached.{First, first_or_none, first_holds, first_same, LooksAt, takes_first, ends_least}
use Rattle.flow_arrows.proofs.Bytes.{pointed_is}
use Rattle.flow_arrows.proofs.Moves.{away}
use Rattle.flow_arrows.proofs.CellBytes.{plain_byte}
use Rattle.bounds_told.specs.Promise.{PermittedNeighbour, SureBy, is_by_window, by_costs}
use Rattle.bounds_told.proofs.Floors.{wall_known, taken_known}
use Rattle.bounds_told.proofs.Permitted.{permitted_sees, sees_permitted, same_sees}

-- ---- on one floor

module _ {costs window cells corners built : List ℕ} (s : Sector costs window cells corners built) (x : ℕ) (h : x < 100) where
  pub points_at : (portal : PortalWindow) (has : Bool) (previous : List ℕ) → Plain s x → get_or built x 0 < 2 ^ 16
      → (n : ℕ) → LooksAt built x n (look_around built x) → Away (arrow (flow_build built (new_bytes portal window built has previous)) x) x n
  points_at portal has previous p l n looks = go (look_around built x) (plain_byte s window (λ y i. in_among y window i) portal has previous x p l) looks
    where
      bytes : List ℕ
      bytes = flow_build built (new_bytes portal window built has previous)

      towards : (d : CompassDir) → get_or bytes x 0 ≡ pointed 0 d → Sees built x d n → Away (arrow bytes x) x n
      towards d e v =
          let a = stepped_cell (cell_at x) d (cell_at n) v.steps in
          subst (λ (b : ℕ). Away b x n) (sym (ap (λ (b : ℕ). b % 16) e ∙ (pointed_is d a.pointing).arrow_is)) (away d x n a)

      go : (l : Look) → get_or bytes x 0 ≡ looked_byte 0 l → LooksAt built x n l → Away (arrow bytes x) x n
      go (Looking best v) e q = towards best e q
      go (Taken d) e q = towards d e q
      go (Ended _) e q = absurd q

  -- where one that is seen is reached, all are
  all_reached : NoWall s x → (d : CompassDir) (n : ℕ) → Sees built x d n → value s n < 65535
      → (e : CompassDir) (m : ℕ) → Sees built x e m → low (get_or built m 0) < 65535
  all_reached o d n p v e m q = reached_there s x e m q (reached_back s x d n p o v)

  -- what is taken is a window cell, of cost 0
  taken_window : (n : ℕ) → n < 100 → (is_goal (get_or built n 0) || is_portal (get_or built n 0)) ≡ true → WindowCell (to_window window) n
  taken_window n l t = among_mem n window (in_among n window (sym (taken_known s n l) ∙ t))

  window_reached : (n : ℕ) → WindowCell (to_window window) n → value s n < 65535
  window_reached n w = omega (arith, ap low (end_word_law s n (mem_among n window w)))

  looks_first : NoWall s x → {d : CompassDir} → First (Takes built x) all d → (n : ℕ) → Sees built x d n → LooksAt built x n (look_around built x)
  looks_first o {d} f n v =
      let t = first_holds f in
      let r = all_reached o d t.0 t.1 (window_reached t.0 (taken_window t.0 (near_in t.1.to) t.2)) in
      rw (takes_first built x h r f) v

-- ---- on every floor with the same walls

-- a floor's built costs keep within the bounds
pub record Within (least greatest : List ℕ) {floor window cells corners on_floor : List ℕ} (t : Sector floor window cells corners on_floor) : Type 0 where
  pub from : (n : ℕ) → n < 100 → get_or least n 0 ≤ value t n
  pub to : (n : ℕ) → n < 100 → value t n ≤ get_or greatest n 0

module _ {floor window cells corners on_floor : List ℕ} (s : Sector floor window cells corners on_floor) (least greatest : List ℕ) (x : ℕ) (h : x < 100) where
  -- the neighbour that the look comes to
  pub record Chosen : Type 0 where
    pub direction : CompassDir
    pub neighbour : ℕ
    pub sees : Sees on_floor x direction neighbour
    pub by : SureBy on_floor (to_window window) least greatest x neighbour
    pub looks : {other on-other : List ℕ} (t : Sector other window cells corners on-other) → Within least greatest t → NoWall t x
        → LooksAt on-other x neighbour (look_around on-other x)

  seen_in : {d : CompassDir} {n : ℕ} → Sees on_floor x d n → Memᴰ d all
  seen_in {d} {n} v = pointing_in d (stepped_cell (cell_at x) d (cell_at n) v.steps).pointing

  module _ {other on-other : List ℕ} (t : Sector other window cells corners on-other) where
    to_sees : {d : CompassDir} {n : ℕ} → Sees on_floor x d n → Sees on-other x d n
    to_sees = same_sees on_floor on-other (λ n l. wall_known s n l ∙ sym (wall_known t n l)) x h

    from_sees : {d : CompassDir} {n : ℕ} → Sees on-other x d n → Sees on_floor x d n
    from_sees = same_sees on-other on_floor (λ n l. wall_known t n l ∙ sym (wall_known s n l)) x h

    to_takes : (d : CompassDir) → Takes on_floor x d → Takes on-other x d
    to_takes d (n, v, e) = let l = near_in v.to in (n, to_sees v, taken_known t n l ∙ sym (taken_known s n l) ∙ e)

    from_takes : (d : CompassDir) → Takes on-other x d → Takes on_floor x d
    from_takes d (n, v, e) = let l = near_in v.to in (n, from_sees v, taken_known s n l ∙ sym (taken_known t n l) ∙ e)

  chosen_first : (d : CompassDir) → First (Takes on_floor x) all d → Chosen
  chosen_first d f =
      let r = first_holds f in
      record {
        direction = d;
        neighbour = r.0;
        sees = r.1;
        by = is_by_window (sees_permitted on_floor x h (seen_in r.1) r.1) (taken_window s x h r.0 (near_in r.1.to) r.2);
        looks = λ t w o. looks_first t x h o (first_same (to_takes t) (from_takes t) f) r.0 (to_sees t r.1);
      }

  chosen_least : ((d : CompassDir) → Memᴰ d all → Takes on_floor x d → ⊥) → (n : ℕ) → (p : PermittedNeighbour on_floor x n) → get_or greatest n 0 < 65535
      → ((m : ℕ) → PermittedNeighbour on_floor x m → (m ≡ n → ⊥) → get_or greatest n 0 < get_or least m 0) → Chosen
  chosen_least none n p r o =
      let v = permitted_sees on_floor x h p in
      record {
        direction = p.way;
        neighbour = n;
        sees = v;
        by = by_costs p r o;
        looks = λ t w c.
            (let l = near_in v.to in
            ends_least _ x h (all_reached t x h c p.way n (to_sees t v) (omega (arith, w.to n l)))
            n
            (λ d m q e. (let k = near_in q.to in
            omega (arith, w.to n l, w.from m k, o m (sees_permitted on_floor x h (seen_in (from_sees t q)) (from_sees t q)) e)))
            p.way p.looked_at (to_sees t v) (λ d u. (let f = from_takes t d u in none d (seen_in f.1) f)));
      }

  pub chosen : (n : ℕ) → SureBy on_floor (to_window window) least greatest x n → Chosen
  chosen n b = go (first_or_none (Takes on_floor x) (is_taking on_floor x h) all) b
    where
      go : ((d : CompassDir) × First (Takes on_floor x) all d) ⊎ ((d : CompassDir) → Memᴰ d all → Takes on_floor x d → ⊥)
          → SureBy on_floor (to_window window) least greatest x n → Chosen
      go (inl f) b = chosen_first f.0 f.1
      go (inr none) (is_by_window p w) =
          let v = permitted_sees on_floor x h p in
          absurd (none p.way p.looked_at (n, v, taken_known s n (near_in v.to) ∙ is_in_law n window (mem_among n window w)))
      go (inr none) (by_costs p r o) = chosen_least none n p r o
