-- Permitted neighbours: the list of them, what a look sees, and what it does not pass over are the same.
--     permitted_sees, sees_permitted    a permitted neighbour is what a look sees in one of its directions
--     listed_told                       and the list has exactly these
--     same_sees                         fields with the same walls see the same
-- Assumes nothing.
use mathlib.Core.Path.{◌≡◌, refl, sym, ap, ◌∙◌}
use mathlib.Core.Bool.{Bool, true, false, true≢false, not}
use mathlib.Core.Logic.{◌⊎◌, inl, inr, ◌↔◌}
use mathlib.Core.List.Memᴰ
use mathlib.Core.List.{List, [], ◌∷◌, Memᴰ}
use Prim.Native.Nat.{ℕ, ◌+◌, ◌*◌, ◌/◌, ◌%◌, ◌^◌, ◌<◌}
use native.Mathlib.Omega.{arith}
use Rattle.utilities.specs.declared.CompassDir.{CompassDir}
use Rattle.utilities.specs.declared.CompassDir.TheVariants.{Zero}
use Rattle.utilities.specs.Compass.{all}
use Rattle.utilities.specs.Lists.{cons_if}
use Rattle.fields.specs.declared.FieldCell.{FieldCell}
use Rattle.std.specs.Prelude.{Option, Some, None}
use Rattle.fields.specs.Cell.{cell_at, index_of, stepped}
use Rattle.fields.proofs.Steps.{index_of_cell}
use Rattle.integration_field.specs.Diagonal.{wall_at, passes_wall}
use Rattle.flow_arrows.proofs.Around.{Sees, open_sees, sees_open, near_in}
use Rattle.flow_arrows.proofs.Look.{passes, sees_on}
use Rattle.flow_byte.specs.Look.{is_passed_over}
use Rattle.bounds_told.specs.Bounds.{cons_permitted, permitted_along, permitted_from}
use Rattle.bounds_told.specs.Promise.{PermittedNeighbour}

module _ (cells : List ℕ) (i : ℕ) (h : i < 100) where
  -- ---- as the promise tells it

  pub permitted_sees : {n : ℕ} → (p : PermittedNeighbour cells i n) → Sees cells i p.way n
  permitted_sees {n} p = go (is_passed_over cells i n) refl
    where
      none : is_passed_over cells i n ≡ true → (m : ℕ) → Sees cells i p.way m → ⊥
      none q m s =
          let same : cell_at m ≡ cell_at n = cc (s.steps, p.arrives) in
          let e : m ≡ n = sym (index_of_cell m) ∙ ap index_of same ∙ index_of_cell n in
          true≢false (sym q ∙ rw (← e) (sees_open s))

      go : (b : Bool) → is_passed_over cells i n ≡ b → Sees cells i p.way n
      go true q = absurd (p.not_passed (λ best value. passes cells i h p.way best value (none q)))
      go false q = rw (index_of_cell n) at (open_sees cells i h p.way (cell_at n) p.arrives (rw (index_of_cell n) q))

  pub sees_permitted : {d : CompassDir} {n : ℕ} → Memᴰ d all → Sees cells i d n → PermittedNeighbour cells i n
  sees_permitted {d} {n} m s = record { way = d; looked_at = m; arrives = s.steps; not_passed = λ p. sees_on cells i h d n s (p Zero (2 ^ 16)) }

  pub permitted_in : {n : ℕ} → PermittedNeighbour cells i n → n < 100
  permitted_in p = near_in (permitted_sees p).to

  -- ---- as the list has it

  -- in one of these directions the cell is seen
  abbrev SeenAlong : List CompassDir → ℕ → Type 0
  SeenAlong ds n = (d : CompassDir) × Memᴰ d ds × Sees cells i d n

  listed_seen : (ds : List CompassDir) (n : ℕ) → Memᴰ n (permitted_along cells i ds) → SeenAlong ds n
  unfolding permitted_along
  listed_seen [] n m = absurd (Memᴰ.not-nil m)
  listed_seen (d ∷ ds) n m = at_step (stepped (cell_at i) d) refl m (λ k. later (listed_seen ds n k))
    where
      later : SeenAlong ds n → SeenAlong (d ∷ ds) n
      later r = (r.0, Memᴰ.tail r.1, r.2)

      tested : (c : FieldCell) → stepped (cell_at i) d ≡ Some c → (b : Bool) → is_passed_over cells i (index_of c) ≡ b
          → Memᴰ n (cons_if (not b) (index_of c) (permitted_along cells i ds))
          → (Memᴰ n (permitted_along cells i ds) → SeenAlong (d ∷ ds) n) → SeenAlong (d ∷ ds) n
      tested c e true q k f = f k
      tested c e false q k f = found (Memᴰ.cases_cons k)
        where
          found : (n ≡ index_of c) ⊎ Memᴰ n (permitted_along cells i ds) → SeenAlong (d ∷ ds) n
          found (inl r) = (d, Memᴰ.head refl, rw r (open_sees cells i h d c e q))
          found (inr k) = f k

      at_step : (t : Option FieldCell) → stepped (cell_at i) d ≡ t → Memᴰ n (cons_permitted cells i t (permitted_along cells i ds))
          → (Memᴰ n (permitted_along cells i ds) → SeenAlong (d ∷ ds) n) → SeenAlong (d ∷ ds) n
      at_step (Some c) e k f = tested c e (is_passed_over cells i (index_of c)) refl k f
      at_step None e k f = f k

  kept : (t : Option FieldCell) (n : ℕ) (l : List ℕ) → Memᴰ n l → Memᴰ n (cons_permitted cells i t l)
  kept (Some c) n l m = go (is_passed_over cells i (index_of c))
    where
      go : (b : Bool) → Memᴰ n (cons_if (not b) (index_of c) l)
      go true = m
      go false = Memᴰ.tail m
  kept None n l m = m

  seen_listed : (ds : List CompassDir) (n : ℕ) (d : CompassDir) → Memᴰ d ds → Sees cells i d n → Memᴰ n (permitted_along cells i ds)
  unfolding permitted_along
  seen_listed [] n d m s = absurd (Memᴰ.not-nil m)
  seen_listed (e ∷ ds) n d m s = go (Memᴰ.cases_cons m) (λ k. seen_listed ds n d k s)
    where
      go : (d ≡ e) ⊎ Memᴰ d ds → (Memᴰ d ds → Memᴰ n (permitted_along cells i ds)) → Memᴰ n (permitted_along cells i (e ∷ ds))
      go (inl q) f =
          let at : stepped (cell_at i) e ≡ Some (cell_at n) = rw (← q) s.steps in
          rw (at, index_of_cell n, sees_open s) (Memᴰ.head refl)
      go (inr k) f = kept (stepped (cell_at i) e) n (permitted_along cells i ds) (f k)

  pub listed_told : (n : ℕ) → Memᴰ n (permitted_from cells i) ↔ PermittedNeighbour cells i n
  listed_told n = (
    λ m. (let r = listed_seen all n m in sees_permitted r.1 r.2),
    λ p. seen_listed all n p.way p.looked_at (permitted_sees p),
  )

-- ---- fields with the same walls

module _ (cells other : List ℕ) (same : (x : ℕ) → x < 100 → wall_at cells x ≡ wall_at other x) (i : ℕ) (h : i < 100) where
  same_way : (n : ℕ) → n < 100 → passes_wall cells i n ≡ passes_wall other i n
  unfolding passes_wall
  same_way n l = rw (same (i / 10 * 10 + n % 10) (omega arith), same (n / 10 * 10 + i % 10) (omega arith))

  pub same_sees : {d : CompassDir} {n : ℕ} → Sees cells i d n → Sees other i d n
  same_sees {n = n} s =
      let l = near_in s.to in
      record { steps = s.steps; to = s.to; no_wall = sym (same n l) ∙ s.no_wall; open_way = sym (same_way n l) ∙ s.open_way }

  pub same_permitted : {n : ℕ} → PermittedNeighbour cells i n → PermittedNeighbour other i n
  same_permitted p = sees_permitted other i h p.looked_at (same_sees (permitted_sees cells i h p))
