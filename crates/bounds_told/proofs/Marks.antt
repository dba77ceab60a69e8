-- Which cells are marked as sure: the test of a cell, and the same told by its walls, its window cells and its permitted neighbours.
--     some_told, every_told    the tests of a list
--     sure_told                the test of a cell holds exactly of a sure cell
--     same_sure                floors with the same walls have the same sure cells
-- Assumes nothing.
use mathlib.Core.Path.{◌≡◌, refl, sym, ap, ◌∙◌}
use mathlib.Core.Bool.{Bool, true, false, true≢false, not, ◌&&◌, ◌||◌, and-eq-true_iff, or-true}
use mathlib.Core.Logic.{◌⊎◌, inl, inr, ◌↔◌}
use mathlib.Core.List.Memᴰ
use mathlib.Core.List.{List, [], ◌∷◌, Memᴰ}
use Prim.Native.Nat.{ℕ, ◌<◌}
use native.Mathlib.Omega.{arith}
use native.Mathlib.Decide.{ℕ_discrete}
use lib.Dec.{ltb, eqb}
use lib.ListN.{get_or}
use borrow.Author.Tests.{ltb-true, lt-ltb, eqb-true, eq-eqb, not-true}
use Rattle.route.specs.Target.{to_window}
use Rattle.integration_field.specs.Word.{is_impassable}
use Rattle.integration_field.specs.Diagonal.{wall_at}
use Rattle.integration_field.proofs.Flags.{small_flag}
use Rattle.integration_walks.specs.Walks.{Wall}
use Rattle.integration_walks.proofs.Ground.{among_mem, mem_among}
use Rattle.flow_byte.specs.New.{is_in}
use Rattle.flow_arrows.proofs.Fall.{is_in_law, in_among, Sector, wall_word, by_kind}
use Rattle.bounds_told.specs.Bounds.{some_of, every_of, permitted_from, is_below_others, is_sure}
use Rattle.bounds_told.specs.Promise.{PermittedNeighbour, SureBy, is_by_window, by_costs, SureCell}
use Rattle.bounds_told.proofs.Floors.{wall_known}
use Rattle.bounds_told.proofs.Permitted.{listed_told, same_permitted}

-- ---- the tests of a list

module _ (p : ℕ → Bool) where
  -- an entry of a list that passes
  abbrev pub Passing : List ℕ → Type 0
  Passing l = (x : ℕ) × Memᴰ x l × (p x ≡ true)

  pub some_told : (l : List ℕ) → some_of p l ≡ true → Passing l
  some_told [] e = absurd (true≢false (sym e))
  some_told (y ∷ l) e = go (p y) refl e (some_told l)
    where
      go : (b : Bool) → p y ≡ b → (b || some_of p l) ≡ true → (some_of p l ≡ true → Passing l) → Passing (y ∷ l)
      go true q t f = (y, Memᴰ.head refl, q)
      go false q t f = let r = f t in (r.0, Memᴰ.tail r.1, r.2)

  pub told_some : (l : List ℕ) (x : ℕ) → Memᴰ x l → p x ≡ true → some_of p l ≡ true
  told_some [] x m e = absurd (Memᴰ.not-nil m)
  told_some (y ∷ l) x m e = go (Memᴰ.cases_cons m) (λ k. told_some l x k e)
    where
      go : (x ≡ y) ⊎ Memᴰ x l → (Memᴰ x l → some_of p l ≡ true) → (p y || some_of p l) ≡ true
      go (inl q) f = let h : p y ≡ true = rw (← q) e in rw h
      go (inr k) f = rw (f k) (or-true (p y))

  pub every_told : (l : List ℕ) → every_of p l ≡ true → (x : ℕ) → Memᴰ x l → p x ≡ true
  every_told [] e x m = absurd (Memᴰ.not-nil m)
  every_told (y ∷ l) e x m = go ((and-eq-true_iff (p y) (every_of p l)).0 e) (Memᴰ.cases_cons m) (λ t k. every_told l t x k)
    where
      go : (p y ≡ true) × (every_of p l ≡ true) → (x ≡ y) ⊎ Memᴰ x l → (every_of p l ≡ true → Memᴰ x l → p x ≡ true) → p x ≡ true
      go b (inl q) f = rw q b.0
      go b (inr k) f = f b.1 k

  pub told_every : (l : List ℕ) → ((x : ℕ) → Memᴰ x l → p x ≡ true) → every_of p l ≡ true
  told_every [] h = refl
  told_every (y ∷ l) h = rw (h y (Memᴰ.head refl)) (told_every l (λ x k. h x (Memᴰ.tail k)))

-- ---- the test of a cell

module _ {costs window cells corners built : List ℕ} (s : Sector costs window cells corners built) (x : ℕ) (h : x < 100) where
  -- a wall of the field is a wall of the sector
  pub wall_true : Wall costs (to_window window) x → wall_at built x ≡ true
  wall_true w = ap is_impassable (wall_word s x h w.impassable (λ a. w.not_window (among_mem x window a)))

  pub true_wall : wall_at built x ≡ true → Wall costs (to_window window) x
  true_wall t =
      by_kind s x h
      (λ a e. absurd (true≢false (sym t ∙ ap is_impassable e)))
      (λ c a e. record { impassable = c; not_goal = λ g. g; not_window = λ m. a (mem_among x window m) })
      (λ p l. absurd (true≢false (sym t ∙ small_flag (get_or built x 0) 25 (omega arith))))

  -- a test that does not hold
  fails : {b : Bool} → (b ≡ true → ⊥) → b ≡ false
  fails {b = true} n = absurd (n refl)
  fails {b = false} n = refl

  module _ (least greatest : List ℕ) where
    abbrev neighbours : List ℕ
    neighbours = permitted_from built x

    abbrev IsSureBy : ℕ → Type 0
    IsSureBy = SureBy built (to_window window) least greatest x

    -- the two ways to be sure, as tests
    abbrev has_window : Bool
    has_window = some_of (λ n. is_in n window) neighbours

    abbrev is_least : ℕ → Bool
    is_least n = ltb (get_or greatest n 0) 65535 && is_below_others least greatest neighbours n

    abbrev has_least : Bool
    has_least = some_of is_least neighbours

    others_below : (n : ℕ) → is_below_others least greatest neighbours n ≡ true
        → (m : ℕ) → PermittedNeighbour built x m → (m ≡ n → ⊥) → get_or greatest n 0 < get_or least m 0
    others_below n e m p o = go (eqb m n) refl (every_told _ neighbours e m ((listed_told built x h m).1 p))
      where
        go : (b : Bool) → eqb m n ≡ b → (b || ltb (get_or greatest n 0) (get_or least m 0)) ≡ true → get_or greatest n 0 < get_or least m 0
        go true q t = absurd (o (eqb-true m n q))
        go false q t = ltb-true (get_or greatest n 0) (get_or least m 0) t

    below_others : (n : ℕ) → ((m : ℕ) → PermittedNeighbour built x m → (m ≡ n → ⊥) → get_or greatest n 0 < get_or least m 0)
        → is_below_others least greatest neighbours n ≡ true
    below_others n o = told_every _ neighbours (λ m k. go m (ℕ_discrete m n) ((listed_told built x h m).0 k))
      where
        go : (m : ℕ) → Dec (m ≡ n) → PermittedNeighbour built x m → (eqb m n || ltb (get_or greatest n 0) (get_or least m 0)) ≡ true
        go m (yes q) p = rw (eq-eqb m n q)
        go m (no q) p = rw (lt-ltb (get_or greatest n 0) (get_or least m 0) (o m p q)) (or-true (eqb m n))

    test_by : (has_window || has_least) ≡ true → (n : ℕ) × IsSureBy n
    test_by e = go has_window refl e
      where
        go : (b : Bool) → has_window ≡ b → (b || has_least) ≡ true → (n : ℕ) × IsSureBy n
        go true q t =
            let r = some_told _ neighbours q in
            (r.0, is_by_window ((listed_told built x h r.0).0 r.1) (among_mem r.0 window (in_among r.0 window r.2)))
        go false q t =
            let r = some_told _ neighbours t in
            let n = r.0 in
            let b = (and-eq-true_iff (ltb (get_or greatest n 0) 65535) (is_below_others least greatest neighbours n)).0 r.2 in
            (n, by_costs ((listed_told built x h n).0 r.1) (ltb-true (get_or greatest n 0) 65535 b.0) (others_below n b.1))

    by_test : (n : ℕ) → IsSureBy n → (has_window || has_least) ≡ true
    by_test n (is_by_window p w) = rw (told_some _ neighbours n ((listed_told built x h n).1 p) (is_in_law n window (mem_among n window w)))
    by_test n (by_costs p r o) =
        let e : is_least n ≡ true = rw (lt-ltb (get_or greatest n 0) 65535 r, below_others n o) in
        rw (told_some is_least neighbours n ((listed_told built x h n).1 p) e) (or-true has_window)

    pub sure_told : (is_sure built window least greatest x ≡ true) ↔ SureCell built (to_window window) least greatest costs x
    unfolding is_sure
    sure_told = (
      λ e.
          (let a = (and-eq-true_iff (not (wall_at built x) && not (is_in x window)) (has_window || has_least)).0 e in
          let b = (and-eq-true_iff (not (wall_at built x)) (not (is_in x window))).0 a.0 in
          let r = test_by a.1 in
          record {
            no_wall = λ w. true≢false (sym (wall_true w) ∙ not-true (wall_at built x) b.0);
            no_window = λ w. true≢false (sym (is_in_law x window (mem_among x window w)) ∙ not-true (is_in x window) b.1);
            neighbour = r.0;
            by = r.1;
          }),
      λ c.
          (let w : wall_at built x ≡ false = fails (λ t. c.no_wall (true_wall t)) in
          let i : is_in x window ≡ false = fails (λ t. c.no_window (among_mem x window (in_among x window t))) in
          rw (w, i, by_test c.neighbour c.by)),
    )

-- ---- floors with the same walls

module _ {a b window cells corners on-a on-b : List ℕ} (s : Sector a window cells corners on-a) (t : Sector b window cells corners on-b)
    (least greatest : List ℕ) (x : ℕ) (h : x < 100) where
  same_flag : (n : ℕ) → n < 100 → wall_at on-a n ≡ wall_at on-b n
  same_flag n l = wall_known s n l ∙ sym (wall_known t n l)

  pub to_other : {n : ℕ} → PermittedNeighbour on-a x n → PermittedNeighbour on-b x n
  to_other p = same_permitted on-a on-b same_flag x h p

  back : {n : ℕ} → PermittedNeighbour on-b x n → PermittedNeighbour on-a x n
  back p = same_permitted on-b on-a (λ n l. sym (same_flag n l)) x h p

  same_by : (n : ℕ) → SureBy on-a (to_window window) least greatest x n → SureBy on-b (to_window window) least greatest x n
  same_by n (is_by_window p w) = is_by_window (to_other p) w
  same_by n (by_costs p r o) = by_costs (to_other p) r (λ m q e. o m (back q) e)

  pub same_sure : SureCell on-a (to_window window) least greatest a x → SureCell on-b (to_window window) least greatest b x
  same_sure c = record {
    no_wall = λ w. c.no_wall (true_wall s x h (same_flag x h ∙ wall_true t x h w));
    no_window = c.no_window;
    neighbour = c.neighbour;
    by = same_by c.neighbour c.by;
  }
