-- Three facts decide the positions: each is that of a corner with a walk arriving at the cell's built cost; they are closed under moves that
-- keep the built costs exact; and each corner that building left alone has at most its own.
--     walk_least      no corner before a cell's position has a walk arriving at its built cost
--     keeps_all       the positions that are kept are those of the definition
--     paid_for        where building changed a cell, a walk paid its cost
--     no_corners      an empty list of corners gives no cell a position
-- Assumes nothing.
use mathlib.Core.Path.{◌≡◌, refl, sym, ap, ◌∙◌}
use mathlib.Core.Bool.{Bool, true, false, true≢false, cond, ◌||◌}
use mathlib.Core.Logic.{◌⊎◌, inl, inr}
use mathlib.Core.List.Memᴰ
use mathlib.Core.List.{List, [], ◌∷◌, map, Memᴰ}
use Prim.Native.Nat.{ℕ, suc, ◌+◌, ◌<◌, ◌≤◌}
use native.Mathlib.Omega.{arith}
use native.Mathlib.Decide.{ℕ_discrete, dec_lt}
use borrow.Author.Tests.{eq-eqb}
use lib.ListN.{length, get_or, take, get_or-replicate}
use lib.Seq.{ext_get_or, get_or-take, length-take-le}
use Rattle.utilities.specs.Lists.{below}
use Rattle.utilities.proofs.Lists.{table_length, table_at}
use Rattle.fields.specs.Neighbours.{BesideAt}
use Rattle.fields.proofs.Beside.{beside_below}
use Rattle.integration_waves.specs.Walks.{start, move}
use Rattle.integration_field.specs.Word.{low, is_goal, is_los, is_impassable}
use Rattle.integration_field.specs.Listed.{Indexes, no_positions}
use Rattle.integration_field.specs.Walks.{MayEnter, Permitted}
use Rattle.integration_field.specs.Position.{is_unplaced, first_position, position_at, positions}
use Rattle.integration_field.specs.Promise.{Walked, Placed, Position}
use Rattle.integration_field.specs.Promise.Position.{earliest, none, unplaced}
use Rattle.integration_field.proofs.Position.{listed_at, walk_on, positions_told, position_one}
use Rattle.integration_positions.specs.Inner.{entered_from, kept_of, Lowered, BuiltFrom, BuiltOn, Decided}
use Rattle.integration_positions.proofs.Flooding.{least, lowered, entered_at, exact_back}

module _ (costs before corners built entered : List ℕ) (f : BuiltOn costs before corners built entered) where
  abbrev Now : ℕ → ℕ
  Now x = low (get_or built x 0)

  pub paid_for : Lowered costs before built
  paid_for x h n = (lowered costs before corners built entered f x n).paid

  -- a walk that arrives at the built cost of its cell, and enters it, comes from a cell at its built cost
  comes_exact : (k y x t : ℕ) → Permitted costs before corners k y t → MayEnter costs before corners x (t + get_or costs x 0) → BesideAt y x
      → Now x ≡ t + get_or costs x 0 → Now y ≡ t
  comes_exact k y x t p m b e = go (dec_lt (Now y) t) ((least costs before corners built entered f).none_below k y t p)
    where
      before_most : (k t : ℕ) → Permitted costs before corners k y t → t ≤ low (get_or before y 0)
      before_most k t (start c q) = omega arith
      before_most k t (move p b n q) = omega (arith, n.below)

      cheaper : Now y < t → (get_or built y 0 ≡ get_or before y 0) ⊎ Walked costs before corners y (get_or built y 0) → ⊥
      cheaper l (inl q) = absurd (omega (arith, ap low q, before_most k t p))
      cheaper l (inr w) =
          let s = get_or built y 0 + get_or costs x 0 in
          let same : Now y ≡ get_or built y 0 = omega (arith, w.lower) in
          let under : s < t + get_or costs x 0 = omega arith in
          let enters : MayEnter costs before corners x s =
          record { no_wall = m.no_wall; not_in_sight = m.not_in_sight; below = omega (arith, m.below) } in
          absurd (omega (arith, (least costs before corners built entered f).none_below (suc w.moves) x s (move w.walk b enters refl)))

      go : Dec (Now y < t) → Now y ≤ t → Now y ≡ t
      go (yes l) h = absurd (cheaper l ((least costs before corners built entered f).attained y))
      go (no l) h = omega arith

  module _ (places : List ℕ) (d : Decided costs before corners built entered places) where
    module _ (i : ℕ) (h : i < length corners) where
      abbrev corner : ℕ
      corner = get_or corners i 0

      only : (x : ℕ) → Memᴰ x (corner ∷ []) → x ≡ corner
      only x m = go (Memᴰ.cases_cons m)
        where
          go : (x ≡ corner) ⊎ Memᴰ x [] → x ≡ corner
          go (inl e) = e
          go (inr n) = absurd (Memᴰ.not-nil n)

      -- a cell that a walk stays put in was left alone
      left_alone : (x : ℕ) → x < 100 → Now x ≡ low (get_or before x 0) → get_or entered x 0 ≡ 65536
      unfolding entered_from
      left_alone x l e = go (ℕ_discrete (get_or built x 0) (get_or before x 0))
        where
          go : Dec (get_or built x 0 ≡ get_or before x 0) → get_or entered x 0 ≡ 65536
          go (yes q) = entered_at costs before corners built entered f x l ∙ rw (eq-eqb _ _ q)
          go (no q) = absurd (omega (arith, (lowered costs before corners built entered f x q).may.below))

      pub walk_least : (k x s : ℕ) → Permitted costs before (corner ∷ []) k x s → s ≡ Now x → get_or places x 0 ≤ i
      walk_least k x s (start c e) q =
          let w = only x c in
          let l : x < 100 = rw w (f.corners_in corner (listed_at corners i h)) in
          rw w (d.decided_sources i h (rw w at (left_alone x l (sym q ∙ e))))
      walk_least k x s (move {k = n} {y = y} {t = t} p b m e) q =
          let listed = listed_at corners i h in
          let enters : MayEnter costs before corners x (t + get_or costs x 0) =
          rw (← e) (record { no_wall = m.no_wall; not_in_sight = m.not_in_sight; below = m.below }) in
          let from : Now y ≡ t = comes_exact n y x t (walk_on costs before corners corner listed p) enters b (sym q ∙ e) in
          let in_both = beside_below y x b in
          let rest : get_or places y 0 ≤ i = walk_least n y t p (sym from) in
          let few = f.few_corners in
          let changed : get_or built x 0 ≡ get_or before x 0 → ⊥ = λ w. absurd (omega (arith, ap low w, m.below)) in
          let into : get_or entered x 0 ≡ Now y = exact_back costs before corners built entered f (Now y) x in_both.1 changed (omega arith) in
          omega (arith, d.decided_closed y x in_both.0 (λ w. absurd (omega arith)) b into)

    -- what a cell keeps is its position
    kept_position : (x : ℕ) → x < 100 → Position costs before corners built x (kept_of (get_or before x 0) (get_or places x 0))
    kept_position x h = go (is_impassable (get_or before x 0)) (is_los (get_or before x 0)) (is_goal (get_or before x 0)) refl refl refl
      where
        placed : Placed costs before corners x → Dec (get_or places x 0 ≡ 255) → Position costs before corners built x (get_or places x 0)
        placed s (yes e) = none s e (λ i l v. absurd (omega (arith, f.few_corners, walk_least i l v.0 x (Now x) v.1 refl)))
        placed s (no e) =
            let m = d.decided_mine x h e in
            let p = m.is_corner_of in
            earliest s p m.walk (λ i l v. absurd (omega (arith, walk_least i (omega arith) v.0 x (Now x) v.1 refl)))

        go : (a b c : Bool) → is_impassable (get_or before x 0) ≡ a → is_los (get_or before x 0) ≡ b → is_goal (get_or before x 0) ≡ c
            → Position costs before corners built x (cond (a || (b || c)) 255 (get_or places x 0))
        go true b c e g q = unplaced (λ p. true≢false (sym e ∙ p.no_wall)) refl
        go false true c e g q = unplaced (λ p. true≢false (sym g ∙ p.not_in_sight)) refl
        go false false true e g q = unplaced (λ p. true≢false (sym q ∙ p.no_goal)) refl
        go false false false e g q = placed (record { no_wall = e; not_in_sight = g; no_goal = q }) (ℕ_discrete (get_or places x 0) 255)

    pub keeps_all : map (λ x. kept_of (get_or before x 0) (get_or places x 0)) (below 100) ≡ positions costs before corners
    keeps_all = ext_get_or 0 (map kept (below 100)) (positions costs before corners) (long ∙ sym (table_length (position_at costs before corners) 100)) same
      where
        kept : ℕ → ℕ
        kept x = kept_of (get_or before x 0) (get_or places x 0)

        long : length (map kept (below 100)) ≡ 100
        long = table_length kept 100

        same : (x : ℕ) → x < length (map kept (below 100)) → get_or (map kept (below 100)) x 0 ≡ get_or (positions costs before corners) x 0
        same x l =
            let h : x < 100 = omega (arith, long) in
            let told : Position costs before corners built x (get_or (positions costs before corners) x 0) =
            rw f.is_built (positions_told costs before corners f.full f.corners_in x h) in
            table_at kept 0 100 x h ∙ position_one costs before corners built x _ _ (kept_position x h) told

-- ---- an empty list of corners

-- a cell holds no position, whatever it was before building
pub no_corners : (costs before corners : List ℕ) (count : ℕ) → count ≡ 0 → no_positions ≡ positions costs before (take count corners)
unfolding first_position
no_corners costs before corners count e = rw e (ext_get_or 0 no_positions (positions costs before []) (sym (table_length at 100)) same)
  where
    at : ℕ → ℕ
    at = position_at costs before []

    either : (b : Bool) → ◌≡◌ {A = ℕ} 255 (cond b 255 255)
    either true = refl
    either false = refl

    same : (x : ℕ) → x < 100 → get_or no_positions x 0 ≡ get_or (positions costs before []) x 0
    same x h = get_or-replicate 100 x 255 0 h ∙ either (is_unplaced (get_or before x 0)) ∙ sym (table_at at 0 100 x h)

-- ---- the field that a call is given

members_in : (l : List ℕ) → ((i : ℕ) → i < length l → get_or l i 0 < 100) → (x : ℕ) → Memᴰ x l → x < 100
members_in [] h x m = absurd (Memᴰ.not-nil m)
members_in (y ∷ l) h x m = go (Memᴰ.cases_cons m) (λ n. members_in l (λ i k. h (suc i) (omega arith)) x n)
  where
    go : (x ≡ y) ⊎ Memᴰ x l → (Memᴰ x l → x < 100) → x < 100
    go (inl e) rest = rw e (h 0 (omega arith))
    go (inr n) rest = rest n

pub given_corners : (corners : List ℕ) (count : ℕ) → Indexes 100 corners count → length (take count corners) ≡ count
given_corners corners count h = length-take-le count corners (omega (arith, h.full, h.count_in))

-- the field that the call is given, built
pub given : {costs before built corners : List ℕ} {count : ℕ} → BuiltFrom costs before built corners count → (entered : List ℕ)
    → entered ≡ map (λ x. entered_from (get_or costs x 0) (get_or before x 0) (get_or built x 0)) (below 100)
    → BuiltOn costs before (take count corners) built entered
given {corners = corners} {count = count} b entered e =
    let long = given_corners corners count b.listed in
    record {
      full = b.full;
      corners_in = members_in (take count corners) (λ i l.
          (let k : i < count = omega (arith, long) in rw (get_or-take count corners i 0 k) (b.listed.cells_in i k)));
      few_corners = omega (arith, long, b.listed.count_in);
      is_built = b.is_built;
      is_entered = e;
    }
