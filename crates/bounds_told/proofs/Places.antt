-- Permitted neighbours by rows and columns: a cell that an arrow can point at, no wall, and no wall passed on the way to it.
--     permitted_told    they are those that the look does not pass over
-- Assumes nothing.
use mathlib.Core.Path.{◌≡◌, refl, sym, subst, ◌∙◌}
use mathlib.Core.Bool.{Bool, true, false, true≢false}
use mathlib.Core.Logic.{◌↔◌}
use mathlib.Core.List.{List}
use Prim.Native.Nat.{ℕ, ◌%◌, ◌<◌}
use native.Mathlib.Omega.{arith}
use Rattle.fields.specs.Cell.{cell_at, index_of}
use Rattle.fields.proofs.Steps.{stepped_cell, index_of_cell}
use Rattle.route.specs.Target.{Target}
use Rattle.integration_field.specs.Diagonal.{wall_at, passes_wall}
use Rattle.integration_walks.specs.Walks.{Wall}
use Rattle.flow_bits.specs.Byte.{bits_of, dir_of}
use Rattle.flow_arrows.specs.Arrows.{Away}
use Rattle.flow_arrows.proofs.Around.{Sees, sees, near_in, pointing_in}
use Rattle.flow_arrows.proofs.Bytes.{pointed_is}
use Rattle.flow_arrows.proofs.Clear.{passes_told}
use Rattle.flow_arrows.proofs.Moves.{away, reads_so}
use Rattle.bounds_told.specs.Promise.{PermittedNeighbour, PermittedPlace}
use Rattle.bounds_told.proofs.Permitted.{permitted_sees, sees_permitted}

-- a test that does not hold
fails : (b : Bool) → (b ≡ true → ⊥) → b ≡ false
fails true n = absurd (n refl)
fails false n = refl

module _ (costs : List ℕ) (target : Target) (built : List ℕ) (walls : (x : ℕ) → x < 100 → (wall_at built x ≡ true) ↔ Wall costs target x)
    (x : ℕ) (h : x < 100) (n : ℕ) where
  to_place : PermittedNeighbour built x n → PermittedPlace costs target x n
  to_place p =
      let v = permitted_sees built x h p in
      let l = near_in v.to in
      let a = stepped_cell (cell_at x) p.way (cell_at n) p.arrives in
      record {
        way = bits_of p.way;
        way_in = omega (arith, (pointed_is p.way a.pointing).arrow_is);
        away = away p.way x n a;
        inside = l;
        no_wall = λ w. true≢false (sym ((walls n l).1 w) ∙ v.no_wall);
        no_wall_passed = λ q. true≢false (sym ((passes_told costs target built walls x n h l).1 q) ∙ v.open_way);
      }

  from_place_law : PermittedPlace costs target x n → PermittedNeighbour built x n
  from_place_law q =
      let d = dir_of q.way in
      let same : q.way % 16 ≡ q.way = omega (arith, q.way_in) in
      let e = reads_so q.way x n q.inside (subst (λ (b : ℕ). Away b x n) (sym same) q.away) in
      let w = fails (wall_at built n) (λ t. q.no_wall ((walls n q.inside).0 t)) in
      let o = fails (passes_wall built x n) (λ t. q.no_wall_passed ((passes_told costs target built walls x n h q.inside).0 t)) in
      let v : Sees built x d (index_of (cell_at n)) = sees built x h d (cell_at n) e (rw (index_of_cell n) w) (rw (index_of_cell n) o) in
      sees_permitted built x h (pointing_in d (stepped_cell (cell_at x) d (cell_at n) e).pointing) (rw (index_of_cell n) at v)

  pub permitted_told : PermittedNeighbour built x n ↔ PermittedPlace costs target x n
  permitted_told = (to_place, from_place_law)
