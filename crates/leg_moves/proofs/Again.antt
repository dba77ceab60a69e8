-- A cart that never stands still comes again to a place where it was, and one that does never stands still.
-- Its moves lead on for ever; of the places at 6,401 numbers of moves two are the same, since a floor has 6,400.
--     repeated        of some numbers two are the same, or all differ
--     comes_again     the place, and the moves round
--     round_never     and the other way
-- Assumes nothing.
use mathlib.Core.Path.{◌≡◌, refl, sym, ap, subst, ◌∙◌}
use mathlib.Core.Logic.{◌⊎◌, inl, inr}
use mathlib.Core.List.{List}
use Prim.Native.Nat.{ℕ, zero, suc, ◌+◌, ◌-◌, ◌<◌}
use native.Mathlib.Decide.{ℕ_discrete}
use native.Mathlib.Omega.{arith}
use Rattle.flow_arrivals.specs.Decided.{AllDifferent, few}
use Rattle.leg_journey.specs.Place.{Place, OnFloor, FloorMove, FloorWalk, stays, goes}
use Rattle.leg_moves.specs.Moving.{Next, moves_to, stands, StandsAfter, ComesAgain}
use Rattle.leg_moves.specs.Decided.{next, move_once, stands_here, stands_further, later, stands_once}
use Rattle.leg_moves.specs.Decided.{passed, passed_on, index_in, index_below, index_once}

-- ---- numbers that are the same

record Same (m : ℕ) (f : ℕ → ℕ) : Type 0 where
  one : ℕ
  other : ℕ
  one_first : one < other
  inside : other < m
  same : f one ≡ f other

among : (m v : ℕ) (f : ℕ → ℕ) → ((i : ℕ) × (i < m) × (f i ≡ v)) ⊎ ((i : ℕ) → i < m → f i ≡ v → ⊥)
among zero v f = inr (λ i h e. absurd (omega arith))
among (suc m) v f = go (among m v f)
  where
    go : ((i : ℕ) × (i < m) × (f i ≡ v)) ⊎ ((i : ℕ) → i < m → f i ≡ v → ⊥) → ((i : ℕ) × (i < suc m) × (f i ≡ v)) ⊎ ((i : ℕ) → i < suc m → f i ≡ v → ⊥)
    go (inl t) = inl (t.0, omega (arith, t.1), t.2)
    go (inr u) =
        elim (ℕ_discrete (f m) v) [
          | yes e ↦ inl (m, omega arith, e)
          | no o ↦ inr (λ i h e. elim (ℕ_discrete i m) [ yes q ↦ o (ap f (sym q) ∙ e) | no q ↦ u i (omega arith) e ])
        ]

repeated : (m : ℕ) (f : ℕ → ℕ) → Same m f ⊎ AllDifferent m f
repeated zero f = inr (λ i j h l e. absurd (omega arith))
repeated (suc m) f = go (repeated m f) (among m (f m) f)
  where
    go : Same m f ⊎ AllDifferent m f → ((i : ℕ) × (i < m) × (f i ≡ f m)) ⊎ ((i : ℕ) → i < m → f i ≡ f m → ⊥) → Same (suc m) f ⊎ AllDifferent (suc m) f
    go (inl s) r = inl (record { one = s.one; other = s.other; one_first = s.one_first; inside = omega (arith, s.inside); same = s.same })
    go (inr d) (inl t) = inl (record { one = t.0; other = m; one_first = t.1; inside = omega arith; same = t.2 })
    go (inr d) (inr u) =
        inr (λ i j h l e. elim (ℕ_discrete j m) [ yes q ↦ u i (omega arith) (e ∙ ap f q) | no q ↦ d i j h (omega arith) e ])

-- ---- the moves of a cart that never stands still

module _ (sheet : List ℕ) where
  abbrev Never : Place → Type 0
  Never p = (n : ℕ) → StandsAfter sheet n p → ⊥

  record LeadsFurther (p : Place) : Type 0 where
    to : Place
    move : FloorMove sheet p to
    never : Never to

  further : (p : Place) → Never p → LeadsFurther p
  further p o = go (next sheet p)
    where
      go : Next sheet p → LeadsFurther p
      go (moves_to q f) = record { to = q; move = f; never = λ n s. o (suc n) (stands_further sheet f s) }
      go (stands u) = absurd (o zero (stands_here sheet u))

  far : (n : ℕ) (p : Place) → Never p → (q : Place) × FloorWalk sheet n p q
  far zero p o = (p, stays)
  far (suc n) p o =
      let m = further p o in
      let r = far n m.to m.never in
      (r.0, goes m.move r.1)

  -- a walk, cut after some of its moves
  cut : {n : ℕ} {p r : Place} (w : FloorWalk sheet n p r) (i k : ℕ) → i + k ≡ n
      → FloorWalk sheet i p (passed sheet w i) × FloorWalk sheet k (passed sheet w i) r
  unfolding passed
  cut {p = p} stays i k e =
      let none : zero ≡ i = omega arith in
      let rest : zero ≡ k = omega arith in
      (subst (λ (j : ℕ). FloorWalk sheet j p p) none stays, subst (λ (j : ℕ). FloorWalk sheet j p p) rest stays)
  cut {p = p} {r = r} (goes {n = m} f w) zero k e =
      let rest : suc m ≡ k = omega arith in
      (stays, subst (λ (j : ℕ). FloorWalk sheet j p r) rest (goes f w))
  cut (goes f w) (suc i) k e = let c = cut w i k (omega arith) in (goes f c.0, c.1)

  -- as many moves from a place come to the same place
  same_walk : {n : ℕ} {p q r : Place} → FloorWalk sheet n p q → FloorWalk sheet n p r → q ≡ r
  same_walk stays stays = refl
  same_walk {r = r} (goes f w) (goes {n = m} g v) = same_walk w (subst (λ (x : Place). FloorWalk sheet m x r) (move_once sheet g f) v)

  pub comes_again : (p : Place) → OnFloor p → Never p → ComesAgain sheet p
  comes_again p on o = go (repeated 6401 index)
    where
      long : (q : Place) × FloorWalk sheet 6400 p q
      long = far 6400 p o

      place : ℕ → Place
      place = passed sheet long.1

      index : ℕ → ℕ
      index i = index_in sheet (place i)

      place_on : (i : ℕ) → OnFloor (place i)
      place_on = passed_on sheet on long.1

      go : Same 6401 index ⊎ AllDifferent 6401 index → ComesAgain sheet p
      go (inr d) = absurd (omega (arith, few 6400 6401 index (λ i h. index_below sheet (place i) (place_on i)) d))
      go (inl s) =
          let i = s.one in
          let j = s.other in
          let up_to_lem = (cut long.1 j (6400 - j) (omega (arith, s.inside))).0 in
          let parts = cut up_to_lem i (j - i) (omega (arith, s.one_first)) in
          let there = (cut long.1 i (6400 - i) (omega (arith, s.one_first, s.inside))).0 in
          let back : place j ≡ place i = sym (index_once sheet (place i) (place j) (place_on i) (place_on j) s.same) in
          let count : j - i ≡ suc (j - i - 1) = omega (arith, s.one_first) in
          record {
            first = i;
            more = j - i - 1;
            at = place i;
            there = there;
            round =
                subst (λ (k : ℕ). FloorWalk sheet k (place i) (place i)) count
                (subst (FloorWalk sheet (j - i) (place i)) back
                (subst (λ (x : Place). FloorWalk sheet (j - i) x (place j)) (same_walk parts.0 there) parts.1));
          }

  -- ---- the other way

  -- where a cart stands still after some moves, it does after fewer from a place that it comes to
  behind : {k n : ℕ} {p q : Place} → FloorWalk sheet k p q → StandsAfter sheet n p → (m : ℕ) × (n ≡ k + m) × StandsAfter sheet m q
  behind {n} stays s = (n, omega arith, s)
  behind (goes f w) s =
      let l = later sheet f s in
      let b = behind w l.2 in
      (b.0, omega (arith, l.1, b.1), b.2)

  pub round_never : (p : Place) → ComesAgain sheet p → Never p
  round_never p a n s =
      let t = (behind a.there s).2 in
      let u = behind a.round t in
      omega (arith, u.1, (stands_once sheet t u.2).0)
