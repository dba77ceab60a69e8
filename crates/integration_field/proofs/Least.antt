-- Building finds the least walks, and counts its waves.
--     least_walks       what is promised of the built cells
--     waves_counted     what is promised of the count
--     rests_within      any number of waves from 99 on is enough
-- Assumes nothing.
use mathlib.Core.Path.{◌≡◌, refl, sym, ap, ◌∙◌}
use mathlib.Core.Bool.{true, false, not, true≢false, and-eq-true_iff}
use mathlib.Core.Logic.{◌⊎◌, inl, inr, ◌↔◌}
use mathlib.Core.List.Memᴰ
use mathlib.Core.List.{List, [], ◌∷◌, Memᴰ}
use Prim.Native.Nat.{ℕ, zero, suc, ◌+◌, ◌-◌, ◌≤◌, ◌<◌}
use native.Mathlib.Nat.{zero-add, suc-add, add-zero}
use native.Mathlib.Omega.{arith}
use native.Mathlib.Decide.{dec_lt}
use borrow.Author.Tests.{not-true}
use lib.ListN.{length, get_or, get_or-eq_default}
use lib.Seq.{ext_get_or}
use Rattle.fields.specs.Neighbours.{BesideAt}
use Rattle.integration_waves.specs.Walks.{start, move, Below}
use Rattle.integration_waves.specs.Waves.{Changed, Waves, Ends}
use Rattle.integration_waves.proofs.Least.{walk_into, fallen_walk}
use Rattle.integration_waves.proofs.End.{few, least, counted}
use Rattle.integration_field.specs.Word.{low, is_open, is_los, is_impassable}
use Rattle.integration_field.specs.Wave.{changed_from, Wave, next, wave_at}
use Rattle.integration_field.specs.Rest.{Rests}
use Rattle.integration_field.specs.Build.{is_empty, build}
use Rattle.integration_field.specs.Walks.{grid, MayEnter, Permitted}
use Rattle.integration_field.specs.Promise.{Walked, LeastWalks, value_at, OpenAt, Changes, Counted}
use Rattle.integration_field.proofs.Neighbours.{neighbour_beside, beside_neighbour}
use Rattle.integration_field.proofs.Offers.{Held, kept, written, held_le, held_open, Made, Offer, offers_made, offers_taken, differs_changed}
use Rattle.integration_field.proofs.Offers.{changed_differs}
use Rattle.integration_field.proofs.Settled.{Settled, settled, next_wave}

-- ---- lists

empty_none : (l : List ℕ) → is_empty l ≡ true → (x : ℕ) → Memᴰ x l → ⊥
unfolding is_empty
empty_none [] e x m = Memᴰ.not-nil m
empty_none (y ∷ l) e x m = true≢false (sym e)

some_one : (l : List ℕ) → is_empty l ≡ false → (x : ℕ) × Memᴰ x l
unfolding is_empty
some_one [] e = absurd (true≢false e)
some_one (x ∷ l) e = (x, Memᴰ.head refl)

no_members : (l : List ℕ) → ((x : ℕ) → Memᴰ x l → ⊥) → l ≡ []
no_members [] h = refl
no_members (x ∷ l) h = absurd (h x (Memᴰ.head refl))

-- ---- the waves of a field are waves

module _ (costs cells corners : List ℕ) where
  abbrev pub at : ℕ → List ℕ
  at k = (wave_at costs cells corners k).cells

  abbrev changed : ℕ → List ℕ
  changed k = (wave_at costs cells corners k).changed

  abbrev value : ℕ → ℕ → ℕ
  value = value_at costs cells corners

  abbrev Open : ℕ → Type 0
  Open = OpenAt costs cells corners

  abbrev pub Fell : ℕ → ℕ → Type 0
  Fell = Changed (grid costs cells corners) Open value

  first : at zero ≡ cells
  unfolding wave_at
  first = refl

  first_changed : changed zero ≡ corners
  unfolding wave_at
  first_changed = refl

  next_changed : (k : ℕ) → changed (suc k) ≡ changed_from 0 (at k) (at (suc k))
  unfolding wave_at next
  next_changed k = refl

  made : (k : ℕ) → Made (Offer costs (at k) (changed k)) (at k) (at (suc k))
  unfolding wave_at next
  made k = offers_made costs (at k) (changed k) (at k)

  pub as_long : (k : ℕ) → length (at k) ≡ length cells
  as_long zero = ap length first
  as_long (suc k) = (made k).size ∙ as_long k

  open_on : (k x : ℕ) → is_open (get_or (at k) x 0) ≡ is_open (get_or cells x 0)
  open_on zero x = rw first
  open_on (suc k) x = held_open ((made k).cell x) ∙ open_on k x

  -- a word that a wave changes falls
  differs_fell : (k x : ℕ) → (get_or (at (suc k)) x 0 ≡ get_or (at k) x 0 → ⊥) → Fell (suc k) x
  differs_fell k x h = go ((made k).cell x)
    where
      go : Held (Offer costs (at k) (changed k) x) (get_or (at k) x 0) (get_or (at (suc k)) x 0) → Fell (suc k) x
      go (kept e) = absurd (h e)
      go (written l o p) = omega arith

  fell_differs : (k x : ℕ) → Fell (suc k) x → get_or (at (suc k)) x 0 ≡ get_or (at k) x 0 → ⊥
  fell_differs k x c e = omega (arith, ap low e)

  fell_changed : (k x : ℕ) → Fell k x → Memᴰ x (changed k)
  fell_changed zero x c = rw first_changed c
  fell_changed (suc k) x c = rw (next_changed k) (rw (zero-add x) at (differs_changed 0 (at k) (at (suc k)) x (fell_differs k x c) (made k).size))

  changed_fell : (k x : ℕ) → Memᴰ x (changed k) → Fell k x
  changed_fell zero x m = rw first_changed at m
  changed_fell (suc k) x m =
      let r = changed_differs 0 (at k) (at (suc k)) x (rw (next_changed k) at m) in
      let q : x ≡ r.0 = omega (arith, r.1) in
      rw q (differs_fell k r.0 r.2)

  module _ (full : length cells ≡ 100) (inside : (x : ℕ) → Memᴰ x corners → x < 100) where
    fell_inside : (k x : ℕ) → Fell k x → x < 100
    fell_inside zero x c = inside x c
    fell_inside (suc k) x c =
        elim (dec_lt x 100) [ yes h ↦ h | no h ↦ absurd (omega (arith, ap low (get_or-eq_default (at k) 0 {n = x} (omega (arith, as_long k))))) ]

    relaxes : (k y x : ℕ) → Fell k y → BesideAt y x → Open x → value (suc k) x ≤ value k y + get_or costs x 0
    unfolding wave_at next
    relaxes k y x c b o = offers_taken costs (at k) (changed k) (at k) y x (fell_changed k y c) (beside_neighbour y x b) (open_on k x ∙ o)

    abbrev From : ℕ → ℕ → Type 0
    From k x = (y : ℕ) × Fell k y × BesideAt y x × Open x × (value (suc k) x ≡ value k y + get_or costs x 0)

    from : (k x : ℕ) → Fell (suc k) x → From k x
    from k x c = go ((made k).cell x)
      where
        go : Held (Offer costs (at k) (changed k) x) (get_or (at k) x 0) (get_or (at (suc k)) x 0) → From k x
        go (kept e) = absurd (omega (arith, ap low e))
        go (written l o p) =
            let d = changed_fell k p.origin p.listed in
            (p.origin, d, neighbour_beside p.origin (fell_inside k p.origin d) x p.neighbour, sym (open_on k x) ∙ o, omega (arith, p.sum))

    pub waves : Waves (grid costs cells corners) Open value
    waves = record { begins = λ x. rw first; falls = λ k x. held_le ((made k).cell x); relaxes = relaxes; offered = from }

    -- ---- the last wave

    abbrev n : ℕ
    n = (build costs cells corners).waves

    end : Settled costs cells corners 0 (build costs cells corners)
    end = settled costs cells corners

    pub built_at_law : (build costs cells corners).cells ≡ at n
    built_at_law = rw add-zero at end.is

    pub ends : Ends (grid costs cells corners) Open value n
    ends = record {
      each = λ i l. (let m = some_one (changed (suc i)) (rw add-zero at (end.each i l)) in (m.0, changed_fell (suc i) m.0 m.1));
      still = λ x c. empty_none (changed (suc n)) (rw add-zero at end.still) x (fell_changed (suc n) x c);
    }

    -- ---- words: one that a wave wrote has no flags, one that none did is as it was

    abbrev Was : ℕ → ℕ → Type 0
    Was k x = (get_or (at k) x 0 ≡ get_or cells x 0) ⊎ ((get_or (at k) x 0 ≡ value k x) × (get_or (at k) x 0 < low (get_or cells x 0)))

    was : (k x : ℕ) → Was k x
    was zero x = inl (rw first)
    was (suc k) x = go (was k x) ((made k).cell x)
      where
        go : Was k x → Held (Offer costs (at k) (changed k) x) (get_or (at k) x 0) (get_or (at (suc k)) x 0) → Was (suc k) x
        go (inl e) (kept q) = inl (q ∙ e)
        go (inr p) (kept q) = inr (rw q p.0, rw q p.1)
        go (inl e) (written l o p) = inr (omega arith, omega (arith, ap low e))
        go (inr r) (written l o p) = inr (omega arith, omega (arith, r.0, r.1))

    -- ---- the walks of the theory are the permitted ones

    entered : (x s : ℕ) → MayEnter costs cells corners x s → Below (grid costs cells corners) Open x s
    entered x s m = (rw (m.no_wall, m.not_in_sight), m.below)

    permitted : (x s : ℕ) → Below (grid costs cells corners) Open x s → MayEnter costs cells corners x s
    permitted x s p =
        let f = (and-eq-true_iff (not (is_impassable (get_or cells x 0))) (not (is_los (get_or cells x 0)))).0 p.0 in
        record { no_wall = not-true _ f.0; not_in_sight = not-true _ f.1; below = p.1 }

    few_waves : n ≤ 99
    few_waves = let h : n < 100 = few (grid costs cells corners) Open value waves 100 fell_inside n (omega arith) ends in omega arith

    attained : (x : ℕ) → (get_or (at n) x 0 ≡ get_or cells x 0) ⊎ Walked costs cells corners x (get_or (at n) x 0)
    attained x = go (was n x)
      where
        by : get_or (at n) x 0 ≡ value n x → get_or (at n) x 0 < low (get_or cells x 0) → (j : ℕ) → j ≤ n → Permitted costs cells corners j x (value n x)
            → Walked costs cells corners x (get_or (at n) x 0)
        by e l j h p = record { moves = j; few = omega (arith, few_waves); walk = rw e p; lower = l }

        go : Was n x → (get_or (at n) x 0 ≡ get_or cells x 0) ⊎ Walked costs cells corners x (get_or (at n) x 0)
        go (inl e) = inl e
        go (inr p) =
            let f = fallen_walk (grid costs cells corners) Open value waves n x (omega (arith, p.0, p.1)) in
            inr (by p.0 p.1 f.0 f.1
            (walk_into (grid costs cells corners) (Below (grid costs cells corners) Open) (MayEnter costs cells corners) permitted f.2))

    -- a walk that comes to less than the cell held before has entered it
    pub last_entered : (j x s : ℕ) → Permitted costs cells corners j x s → s < low (get_or cells x 0) → MayEnter costs cells corners x s
    last_entered j x s (start c e) l = absurd (omega arith)
    last_entered j x s (move p b m e) l = m

    stays : (x : ℕ) → ((s : ℕ) → MayEnter costs cells corners x s → ⊥) → get_or (at n) x 0 ≡ get_or cells x 0
    stays x h = go (attained x)
      where
        go : (get_or (at n) x 0 ≡ get_or cells x 0) ⊎ Walked costs cells corners x (get_or (at n) x 0) → get_or (at n) x 0 ≡ get_or cells x 0
        go (inl e) = e
        go (inr w) = absurd (h _ (last_entered w.moves x _ w.walk w.lower))

    pub least_walks : LeastWalks costs cells corners (build costs cells corners).cells
    least_walks = rw built_at_law (record {
      none_below = λ j x s p. least (grid costs cells corners) Open value waves n ends j x s
          (walk_into (grid costs cells corners) (MayEnter costs cells corners) (Below (grid costs cells corners) Open) entered p);
      attained = attained;
      walls_stay = λ x e. stays x (λ s m. true≢false (sym e ∙ m.no_wall));
      sight_stays = λ x e. stays x (λ s m. true≢false (sym e ∙ m.not_in_sight));
    })

    -- ---- the count

    abbrev Any : ℕ → Type 0
    Any k = Changes costs cells corners k

    fell_any : (i : ℕ) → ((x : ℕ) × Fell (suc i) x) → Any (suc i)
    fell_any i c = (c.0, fell_differs i c.0 c.1)

    any_fell : (i : ℕ) → Any (suc i) → (x : ℕ) × Fell (suc i) x
    any_fell i c = (c.0, differs_fell i c.0 c.1)

    numbered : (i : ℕ) → (i < n) ↔ ((x : ℕ) × Fell (suc i) x)
    numbered = counted (grid costs cells corners) Open value waves n ends

    exact : (k : ℕ) → Any k ↔ ((1 ≤ k) × (k ≤ n))
    exact zero = (λ c. absurd c, λ p. absurd (omega (arith, p.0)))
    exact (suc i) = (λ c. (omega arith, (numbered i).1 (any_fell i c)), λ p. fell_any i ((numbered i).0 p.1))

    -- a wave past the last leaves the cells as they are
    same_on : (d : ℕ) → at (suc (d + n)) ≡ at (d + n)
    same_on d = ext_get_or 0 (at (suc (d + n))) (at (d + n)) (made (d + n)).size (λ x l. go x ((made (d + n)).cell x))
      where
        go : (x : ℕ) → Held (Offer costs (at (d + n)) (changed (d + n)) x) (get_or (at (d + n)) x 0) (get_or (at (suc (d + n))) x 0)
            → get_or (at (suc (d + n))) x 0 ≡ get_or (at (d + n)) x 0
        go x (kept e) = e
        go x (written l o p) = absurd (let c : d + n < n = (numbered (d + n)).1 (x, omega arith) in omega arith)

    rests : (d : ℕ) → at (d + n) ≡ at n
    rests zero = rw zero-add
    rests (suc d) = rw suc-add (same_on d ∙ rests d)

    pub waves_counted : Counted costs cells corners (build costs cells corners).cells n
    waves_counted = rw built_at_law (record {
      are_waves = waves;
      by_value = λ k x. (differs_fell k x, fell_differs k x);
      exact = exact;
      at_most = few_waves;
      settled = λ k l. (let e : (k - n) + n ≡ k = omega arith in rw e at (rests (k - n)));
    })

    -- ---- any number of waves from 99 on is enough

    none_after : (k : ℕ) → n ≤ k → changed (suc k) ≡ []
    none_after k h = no_members (changed (suc k)) (λ x m. let c : k < n = (numbered k).1 (x, changed_fell (suc k) x m) in omega arith)

    rests_from : (m k : ℕ) (w : Wave) → w ≡ wave_at costs cells corners k → n ≤ m + k → Rests costs m w
    rests_from zero k w e h =
        ap (λ (u : Wave). (next costs u).changed) e
        ∙ ap (λ (u : Wave). u.changed) (next_wave costs cells corners k)
        ∙ none_after k (omega arith)
    rests_from (suc m) k w e h = rests_from m (suc k) (next costs w) (ap (next costs) e ∙ next_wave costs cells corners k) (omega arith)

    pub rests_within : (m : ℕ) → 99 ≤ m → Rests costs m (record { cells = cells; changed = corners })
    unfolding wave_at
    rests_within m h = rests_from m 0 (record { cells = cells; changed = corners }) refl (omega (arith, waves_counted.at_most))
