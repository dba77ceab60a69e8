-- Positions are those of the earliest corners (02, "Job 10").
--     walk_on           a walk from one corner is a walk from a list that has it
--     arrives_walk      building from a corner alone comes to a cell's built cost exactly where a walk from that corner does
--     positions_told    what is promised of the positions that the definition gives
--     position_one      a cell has no two positions
-- Assumes nothing.
use mathlib.Core.Path.{◌≡◌, refl, sym, ap, ◌∙◌}
use mathlib.Core.Bool.{Bool, true, false, true≢false, cond, ◌||◌}
use mathlib.Core.Logic.{◌⊎◌, inl, inr}
use mathlib.Core.List.Memᴰ
use mathlib.Core.List.{List, [], ◌∷◌, Memᴰ}
use Prim.Native.Nat.{ℕ, zero, suc, ◌+◌, ◌≤◌, ◌<◌}
use native.Mathlib.Omega.{arith}
use native.Mathlib.Decide.{dec_lt}
use borrow.Author.Tests.{ltb-true, ltb-false, eqb-true, eq-eqb}
use lib.Dec.{ltb, eqb}
use lib.ListN.{length, get_or}
use Rattle.utilities.proofs.Lists.{table_at}
use Rattle.integration_waves.specs.Walks.{start, move}
use Rattle.integration_field.specs.Word.{low, is_goal, is_los, is_impassable}
use Rattle.integration_field.specs.Build.{build}
use Rattle.integration_field.specs.Position.{built_from, arrives_from, first_position, position_at, positions}
use Rattle.integration_field.specs.Walks.{Permitted}
use Rattle.integration_field.specs.Promise.{Walked, LeastWalks, WalkFrom, Placed, Position, EarliestCorners}
use Rattle.integration_field.specs.Promise.Position.{earliest, none, unplaced}
use Rattle.integration_field.proofs.Least.{least_walks}

-- ---- lists

only_one : (x c : ℕ) → Memᴰ x (c ∷ []) → x ≡ c
only_one x c m = go (Memᴰ.cases_cons m)
  where
    go : (x ≡ c) ⊎ Memᴰ x [] → x ≡ c
    go (inl e) = e
    go (inr n) = absurd (Memᴰ.not-nil n)

pub listed_at : (l : List ℕ) (i : ℕ) → i < length l → Memᴰ (get_or l i 0) l
listed_at [] i h = absurd (omega arith)
listed_at (x ∷ l) zero h = Memᴰ.head refl
listed_at (x ∷ l) (suc i) h = Memᴰ.tail (listed_at l i (omega arith))

-- ---- the first that passes a test

-- position i + j is that of the first of the list that passes, or none passes and it is 255
data FirstAt (test : ℕ → Bool) (i : ℕ) (l : List ℕ) (p : ℕ) : Type 0 where
  found : (j : ℕ) → p ≡ i + j → j < length l → test (get_or l j 0) ≡ true → ((m : ℕ) → m < j → test (get_or l m 0) ≡ false) → FirstAt test i l p
  nothing : p ≡ 255 → ((m : ℕ) → m < length l → test (get_or l m 0) ≡ false) → FirstAt test i l p

first_at : (test : ℕ → Bool) (i : ℕ) (l : List ℕ) → FirstAt test i l (first_position test i l)
unfolding first_position
first_at test i [] = nothing refl (λ m h. absurd (omega arith))
first_at test i (c ∷ cs) = go (test c) refl (first_at test (suc i) cs)
  where
    earlier : test c ≡ false → (j : ℕ) → ((m : ℕ) → m < j → test (get_or cs m 0) ≡ false) → (m : ℕ) → m < suc j → test (get_or (c ∷ cs) m 0) ≡ false
    earlier e j h zero l = e
    earlier e j h (suc m) l = h m (omega arith)

    on : test c ≡ false → FirstAt test (suc i) cs (first_position test (suc i) cs) → FirstAt test i (c ∷ cs) (first_position test (suc i) cs)
    on e (found j q h t f) = found (suc j) (omega arith) (omega arith) t (earlier e j f)
    on e (nothing q f) = nothing q (earlier e (length cs) f)

    go : (b : Bool) → test c ≡ b → FirstAt test (suc i) cs (first_position test (suc i) cs) → FirstAt test i (c ∷ cs) (cond b i (first_position test (suc i) cs))
    go true e r = found 0 (omega arith) (omega arith) e (λ m h. absurd (omega arith))
    go false e r = on e r

-- ---- walks from one corner

module _ (costs cells corners : List ℕ) where
  -- a walk from one corner is a walk from a list that has it
  pub walk_on : (c : ℕ) → Memᴰ c corners → {k x s : ℕ} → Permitted costs cells (c ∷ []) k x s → Permitted costs cells corners k x s
  walk_on c m (start {x = x} i e) = start {x = x} (rw (only_one x c i) m) e
  walk_on c m (move p b h e) = move (walk_on c m p) b (record { no_wall = h.no_wall; not_in_sight = h.not_in_sight; below = h.below }) e

  module _ (full : length cells ≡ 100) (inside : (x : ℕ) → Memᴰ x corners → x < 100) where
    all : LeastWalks costs cells corners (build costs cells corners).cells
    all = least_walks costs cells corners full inside

    abbrev now : ℕ → ℕ
    now = built_from costs cells corners

    abbrev before : ℕ → ℕ
    before x = low (get_or cells x 0)

    -- a walk from the corner c alone, at the cell's built cost
    abbrev Arrives : ℕ → ℕ → Type 0
    Arrives c x = (k : ℕ) × Permitted costs cells (c ∷ []) k x (now x)

    -- a cell that building left as high as it was holds what it held
    left_alone : (x : ℕ) → before x ≤ now x → now x ≡ before x
    left_alone x h = go (all.attained x)
      where
        go : (get_or (build costs cells corners).cells x 0 ≡ get_or cells x 0) ⊎ Walked costs cells corners x (get_or (build costs cells corners).cells x 0)
            → now x ≡ before x
        go (inl e) = ap low e
        go (inr w) = absurd (omega (arith, w.lower))

    module _ (c : ℕ) (listed : Memᴰ c corners) where
      one : LeastWalks costs cells (c ∷ []) (build costs cells (c ∷ [])).cells
      one = least_walks costs cells (c ∷ []) full (λ x m. rw (only_one x c m) (inside c listed))

      abbrev alone : ℕ → ℕ
      alone = built_from costs cells (c ∷ [])

      -- a cell that building from c alone lowers ends a walk from c
      alone_walk : (x : ℕ) → alone x < before x → (k : ℕ) × Permitted costs cells (c ∷ []) k x (alone x)
      alone_walk x l = go (one.attained x)
        where
          go : (get_or (build costs cells (c ∷ [])).cells x 0 ≡ get_or cells x 0) ⊎ Walked costs cells (c ∷ []) x (get_or (build costs cells (c ∷ [])).cells x 0)
              → (k : ℕ) × Permitted costs cells (c ∷ []) k x (alone x)
          go (inl e) = absurd (omega (arith, ap low e))
          go (inr w) =
              let e : alone x ≡ get_or (build costs cells (c ∷ [])).cells x 0 = omega (arith, w.lower) in
              (w.moves, rw e w.walk)

      by_building : (x : ℕ) → now x < before x → alone x ≡ now x → Arrives c x
      by_building x l e = rw (← e) (alone_walk x (omega arith))

      by_staying : (x : ℕ) → before x ≤ now x → c ≡ x → Arrives c x
      by_staying x h e = (0, start (Memᴰ.head (sym e)) (left_alone x h))

      walk_builds : (x : ℕ) → now x < before x → Arrives c x → alone x ≡ now x
      walk_builds x l a =
          let below = one.none_below a.0 x (now x) a.1 in
          let w = alone_walk x (omega arith) in
          omega (arith, all.none_below w.0 x (alone x) (walk_on c listed w.1))

      walk_stays : (x : ℕ) → before x ≤ now x → Arrives c x → c ≡ x
      walk_stays x h a = go a.1
        where
          go : {k : ℕ} → Permitted costs cells (c ∷ []) k x (now x) → c ≡ x
          go (start m e) = sym (only_one x c m)
          go (move p b m e) = absurd (omega (arith, m.below))

      pub arrives_walk : (x : ℕ) → arrives_from costs cells corners c x ≡ true → Arrives c x
      unfolding arrives_from
      arrives_walk x = go (ltb (now x) (before x)) refl
        where
          go : (b : Bool) → ltb (now x) (before x) ≡ b → cond b (eqb (alone x) (now x)) (eqb c x) ≡ true → Arrives c x
          go true e h = by_building x (ltb-true (now x) (before x) e) (eqb-true (alone x) (now x) h)
          go false e h = by_staying x (ltb-false (now x) (before x) e) (eqb-true c x h)

      pub walk_arrives : (x : ℕ) → Arrives c x → arrives_from costs cells corners c x ≡ true
      unfolding arrives_from
      walk_arrives x a = go (ltb (now x) (before x)) refl
        where
          go : (b : Bool) → ltb (now x) (before x) ≡ b → cond b (eqb (alone x) (now x)) (eqb c x) ≡ true
          go true e = eq-eqb (alone x) (now x) (walk_builds x (ltb-true (now x) (before x) e) a)
          go false e = eq-eqb c x (walk_stays x (ltb-false (now x) (before x) e) a)

    -- ---- what is promised

    abbrev test : ℕ → ℕ → Bool
    test x c = arrives_from costs cells corners c x

    abbrev built : List ℕ
    built = (build costs cells corners).cells

    no_walk : (x i : ℕ) → i < length corners → test x (get_or corners i 0) ≡ false → WalkFrom costs cells corners i x (now x) → ⊥
    no_walk x i h e w = true≢false (sym (walk_arrives (get_or corners i 0) (listed_at corners i h) x w) ∙ e)

    placed_at : (x p : ℕ) → Placed costs cells corners x → FirstAt (test x) 0 corners p → Position costs cells corners built x p
    placed_at x p s (found j e h t f) =
        let q : j ≡ p = omega arith in
        rw (← q) (earliest s h (arrives_walk (get_or corners j 0) (listed_at corners j h) x t) (λ i l. no_walk x i (omega arith) (f i l)))
    placed_at x p s (nothing e f) = none s e (λ i l. no_walk x i l (f i l))

    position_at_law : (x : ℕ) → Position costs cells corners built x (position_at costs cells corners x)
    position_at_law x = go (is_impassable (get_or cells x 0)) (is_los (get_or cells x 0)) (is_goal (get_or cells x 0)) refl refl refl (first_at (test x) 0 corners)
      where
        go : (w s g : Bool) → is_impassable (get_or cells x 0) ≡ w → is_los (get_or cells x 0) ≡ s → is_goal (get_or cells x 0) ≡ g
            → FirstAt (test x) 0 corners (first_position (test x) 0 corners)
            → Position costs cells corners built x (cond (w || (s || g)) 255 (first_position (test x) 0 corners))
        go true s g e f h r = unplaced (λ p. true≢false (sym e ∙ p.no_wall)) refl
        go false true g e f h r = unplaced (λ p. true≢false (sym f ∙ p.not_in_sight)) refl
        go false false true e f h r = unplaced (λ p. true≢false (sym h ∙ p.no_goal)) refl
        go false false false e f h r = placed_at x _ (record { no_wall = e; not_in_sight = f; no_goal = h }) r

    pub positions_told : EarliestCorners costs cells corners built (positions costs cells corners)
    positions_told x h = rw (table_at (position_at costs cells corners) 0 100 x h) (position_at_law x)

  -- a cell has no two positions
  pub position_one : (built : List ℕ) (x p q : ℕ) → Position costs cells corners built x p → Position costs cells corners built x q → p ≡ q
  position_one built x p q (earliest s h w f) (earliest t i v g) = go (dec_lt p q) (dec_lt q p)
    where
      go : Dec (p < q) → Dec (q < p) → p ≡ q
      go (yes l) d = absurd (g p l w)
      go (no l) (yes m) = absurd (f q m v)
      go (no l) (no m) = omega arith
  position_one built x p q (earliest s h w f) (none t e n) = absurd (n p h w)
  position_one built x p q (earliest s h w f) (unplaced u e) = absurd (u s)
  position_one built x p q (none s e n) (earliest t i v g) = absurd (n q i v)
  position_one built x p q (none s e n) (none t r m) = e ∙ sym r
  position_one built x p q (none s e n) (unplaced u r) = e ∙ sym r
  position_one built x p q (unplaced u e) (earliest t i v g) = absurd (u t)
  position_one built x p q (unplaced u e) (none t r m) = e ∙ sym r
  position_one built x p q (unplaced u e) (unplaced v r) = e ∙ sym r
