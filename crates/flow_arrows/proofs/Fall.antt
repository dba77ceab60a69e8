-- The built costs of a sector without sight, whose listed corners start at 0, be they window cells or the goal: they fall from every reached cell
-- to these, where arrows end, and spread to every cell beside a reached one.
--     zero_stays  a cell of value 0 keeps its word when a field is built
--     window_ends, corner_ends    a field started with a window, and one started with a goal without sight, are such a sector's
--     by_kind     a cell's built word is that of a cell where arrows end, a wall's, or a cost alone
--     falls       beside a reached cell that is none of these lies one of lower cost, from which its own cost is made
--     entered_from_law    with costs of 0 too, one of no higher cost
--     rank        how many cells cost less than a cell: at most 99
--     bounded     a reached cell costs at most 254 for each of the at most 99 moves of a walk into it, so 25,146 at most
--     spreads     beside a reached cell every cell but a wall is reached: the sum stays below 65535. It asks for no cost from 1 on
-- Assumes nothing.
use mathlib.Core.Path.{◌≡◌, refl, sym, ap, ◌∙◌}
use mathlib.Core.Bool.{Bool, true, false, true≢false, ◌||◌, or-true}
use mathlib.Core.Logic.{◌⊎◌, inl, inr}
use mathlib.Core.List.{List, [], ◌∷◌}
use Prim.Native.Nat.{ℕ, zero, suc, ◌+◌, ◌*◌, ◌^◌, ◌≤◌, ◌<◌}
use native.Mathlib.Omega.{arith}
use lib.Dec.{leb, eqb}
use lib.ListN.{get_or}
use borrow.Author.Tests.{le-leb, lt-leb, eqb-true, eq-eqb}
use Rattle.fields.specs.Neighbours.{BesideAt}
use Rattle.fields.proofs.Beside.{beside_below}
use Rattle.integration_waves.specs.Walks.{start, move}
use Rattle.integration_waves.proofs.Count.{bit, count, count_le, count_more, leb_grows}
use Rattle.integration_field.specs.Word.{low, is_los, is_impassable}
use Rattle.integration_field.specs.Walks.{Permitted}
use Rattle.integration_field.specs.Promise.{Walked, LeastWalks}
use Rattle.integration_started.specs.StartedCell.{Among, WindowStarted, CornerStarted}
use Rattle.integration_walks.proofs.Ground.{among_mem, mem_among}
use Rattle.flow_byte.specs.New.{is_in}

-- ---- a list has an entry

pub is_in_law : (x : ℕ) (l : List ℕ) → Among x l → is_in x l ≡ true
is_in_law x [] (i, h, e) = absurd (omega arith)
is_in_law x (y ∷ l) (zero, h, e) = rw (eq-eqb y x e)
is_in_law x (y ∷ l) (suc i, h, e) = rw (is_in_law x l (i, omega arith, e)) (or-true (eqb y x))

pub in_among : (x : ℕ) (l : List ℕ) → is_in x l ≡ true → Among x l
in_among x [] e = absurd (true≢false (sym e))
in_among x (y ∷ l) e = go (eqb y x) refl e (λ t. in_among x l t)
  where
    go : (b : Bool) → eqb y x ≡ b → (b || is_in x l) ≡ true → (is_in x l ≡ true → Among x l) → Among x (y ∷ l)
    go true q t f = (0, omega arith, eqb-true y x q)
    go false q t f = let r = f t in (suc r.0, omega (arith, r.1), r.2)

pub not_in : (x : ℕ) (l : List ℕ) → (Among x l → ⊥) → is_in x l ≡ false
not_in x l a = go (is_in x l) refl
  where
    go : (b : Bool) → is_in x l ≡ b → b ≡ false
    go true e = absurd (a (in_among x l e))
    go false e = refl

-- ---- what building leaves

pub zero_stays : {costs cells corners built : List ℕ} → LeastWalks costs cells corners built → (x : ℕ) → low (get_or cells x 0) ≡ 0
    → get_or built x 0 ≡ get_or cells x 0
zero_stays {costs} {cells} {corners} {built} l x z = go (l.attained x)
  where
    go : (get_or built x 0 ≡ get_or cells x 0) ⊎ Walked costs cells corners x (get_or built x 0) → get_or built x 0 ≡ get_or cells x 0
    go (inl e) = e
    go (inr w) = absurd (omega (arith, w.lower))

-- ---- a sector without sight, started and built

-- the word of a cell where arrows end: a portal's, or the goal's
pub data EndWord : ℕ → Type 0 where
  at_portal : EndWord 0x80000
  at_goal : EndWord 0x20000

end_low : {w : ℕ} → EndWord w → low w ≡ 0
end_low at_portal = refl
end_low at_goal = refl

pub end_open : {w : ℕ} → EndWord w → is_impassable w ≡ false
end_open at_portal = refl
end_open at_goal = refl

-- what such a field is started as: the cells where arrows end are listed in order, and have that word; walls; and all others as they were
pub record EndsStarted (costs ends : List ℕ) (word : ℕ) (cells corners : List ℕ) : Type 0 where
  pub list : corners ≡ ends
  pub end_cell : (i : ℕ) → Among i ends → get_or cells i 0 ≡ word
  pub wall_cell : (i : ℕ) → i < 100 → get_or costs i 0 ≡ 255 → (Among i ends → ⊥) → get_or cells i 0 ≡ 0x200FFFF
  pub other_cell : (i : ℕ) → i < 100 → (get_or costs i 0 ≡ 255 → ⊥) → (Among i ends → ⊥) → get_or cells i 0 ≡ 65535
  pub no_sight : (i : ℕ) → i < 100 → is_los (get_or cells i 0) ≡ false

pub window_ends : {costs window cells corners : List ℕ} → WindowStarted costs window cells corners → EndsStarted costs window 0x80000 cells corners
window_ends w = record { list = w.list; end_cell = w.portal_cell; wall_cell = w.wall_cell; other_cell = w.other_cell; no_sight = w.no_sight }

alone : {x n : ℕ} → Among x (n ∷ []) → x ≡ n
alone (zero, h, e) = sym e
alone (suc i, h, e) = absurd (omega arith)

pub corner_ends : {costs cells corners : List ℕ} {goal : ℕ} → CornerStarted costs goal cells corners
    → EndsStarted costs (goal ∷ []) 0x20000 cells corners
corner_ends {cells = cells} {goal = goal} g = record {
  list = g.list;
  end_cell = λ i a. rw (alone a) g.goal_stays.goal_cell;
  wall_cell = λ i h c n. g.wall_cell i h c (λ e. n (0, omega arith, sym e));
  other_cell = λ i h c n. g.other_cell i h c (λ e. n (0, omega arith, sym e));
  no_sight = g.no_sight;
}

pub record EndSector (costs ends : List ℕ) (word : ℕ) (cells corners built : List ℕ) : Type 0 where
  pub started : EndsStarted costs ends word cells corners
  pub word_is : EndWord word
  pub least : LeastWalks costs cells corners built
  pub cost_to : (x : ℕ) → x < 100 → get_or costs x 0 ≤ 255

-- a window sector
abbrev pub Sector : List ℕ → List ℕ → List ℕ → List ℕ → List ℕ → Type 0
Sector costs window cells corners built = EndSector costs window 0x80000 cells corners built

module _ {costs ends : List ℕ} {word : ℕ} {cells corners built : List ℕ} (s : EndSector costs ends word cells corners built) where
  pub word_low : low word ≡ 0
  word_low = end_low s.word_is

  abbrev pub value : ℕ → ℕ
  value x = low (get_or built x 0)

  -- a cell that is neither wall nor one where arrows end
  pub record Plain (x : ℕ) : Type 0 where
    pub inside : x < 100
    pub no_end : Among x ends → ⊥
    pub no_wall : get_or costs x 0 ≡ 255 → ⊥

  pub end_word_law : (x : ℕ) → Among x ends → get_or built x 0 ≡ word
  end_word_law x a = let was = s.started.end_cell x a in zero_stays s.least x (ap low was ∙ word_low) ∙ was

  pub wall_word : (x : ℕ) → x < 100 → get_or costs x 0 ≡ 255 → (Among x ends → ⊥) → get_or built x 0 ≡ 0x200FFFF
  wall_word x h c a = let was = s.started.wall_cell x h c a in s.least.walls_stay x (ap is_impassable was) ∙ was

  plain_word : (x : ℕ) → Plain x → get_or cells x 0 ≡ 65535
  plain_word x p = s.started.other_cell x p.inside p.no_wall p.no_end

  plain_small : (x : ℕ) → Plain x → get_or built x 0 < 2 ^ 16
  plain_small x p = go (s.least.attained x)
    where
      go : (get_or built x 0 ≡ get_or cells x 0) ⊎ Walked costs cells corners x (get_or built x 0) → get_or built x 0 < 2 ^ 16
      go (inl e) = omega (arith, e, plain_word x p)
      go (inr w) = omega (arith, w.lower)

  -- a cell's built word is that of a cell where arrows end, a wall's, or a cost alone
  pub by_kind : {P : Type 0} (x : ℕ) → x < 100 → (Among x ends → get_or built x 0 ≡ word → P)
      → (get_or costs x 0 ≡ 255 → (Among x ends → ⊥) → get_or built x 0 ≡ 0x200FFFF → P) → (Plain x → get_or built x 0 < 2 ^ 16 → P) → P
  by_kind {P} x h at-end at_wall at_plain = go (is_in x ends) refl (eqb (get_or costs x 0) 255) refl
    where
      go : (a : Bool) → is_in x ends ≡ a → (b : Bool) → eqb (get_or costs x 0) 255 ≡ b → P
      go true p b q = at-end (in_among x ends p) (end_word_law x (in_among x ends p))
      go false p true q =
          let a : Among x ends → ⊥ = λ i. true≢false (sym (is_in_law x ends i) ∙ p) in
          let c = eqb-true (get_or costs x 0) 255 q in
          at_wall c a (wall_word x h c a)
      go false p false q =
          let plain : Plain x = record {
            inside = h;
            no_end = λ i. true≢false (sym (is_in_law x ends i) ∙ p);
            no_wall = λ e. true≢false (sym (eq-eqb (get_or costs x 0) 255 e) ∙ q);
          } in
          at_plain plain (plain_small x plain)

  -- ---- walks into reached cells

  -- a permitted walk of at most 99 moves comes to what the cell holds
  abbrev Arrived : ℕ → Type 0
  Arrived x = (k : ℕ) × Permitted costs cells corners k x (value x) × (k ≤ 99)

  walk_into : (x : ℕ) → x < 100 → value x < 65535 → Arrived x
  walk_into x h r =
      by_kind x h
      (λ a e. (
        zero,
        start {x = x} {s = value x} (rw s.started.list (among_mem x ends a)) (omega (arith, ap low e, ap low (s.started.end_cell x a))),
        omega arith,
      ))
      (λ c a e. absurd (omega (arith, ap low e)))
      (λ p l. plain p l (s.least.attained x))
    where
      plain : Plain x → get_or built x 0 < 2 ^ 16 → (get_or built x 0 ≡ get_or cells x 0) ⊎ Walked costs cells corners x (get_or built x 0) → Arrived x
      plain p l (inl e) = absurd (omega (arith, ap low e, ap low (plain_word x p)))
      plain p l (inr w) = let e : value x ≡ get_or built x 0 = omega arith in (w.moves, rw e w.walk, w.few)

  -- one move more
  enters : (y x : ℕ) → Arrived y → BesideAt y x → Plain x → value y + get_or costs x 0 < 65535 → value x ≤ value y + get_or costs x 0
  enters y x w b p l =
      let e = plain_word x p in
      s.least.none_below (suc w.0) x (value y + get_or costs x 0) (move w.1 b (record {
        no_wall = ap is_impassable e;
        not_in_sight = ap is_los e;
        below = omega (arith, ap low e);
      }) refl)

  -- ---- falling

  -- a cell of lower cost beside x
  pub record Lower (x : ℕ) : Type 0 where
    pub cell : ℕ
    pub inside : cell < 100
    pub beside : BesideAt cell x
    pub lower : value cell < value x
    pub exact : value x ≤ value cell + get_or costs x 0

  -- a cell beside x, of a cost below b
  pub record Beside (b x : ℕ) : Type 0 where
    pub cell : ℕ
    pub inside : cell < 100
    pub beside : BesideAt cell x
    pub below : value cell < b

  pub lower_beside : {x : ℕ} → Lower x → Beside (value x) x
  lower_beside l = record { cell = l.cell; inside = l.inside; beside = l.beside; below = l.lower }

  -- with any costs, one of no higher cost
  pub entered_from_law : (x : ℕ) → Plain x → value x < 65535 → Beside (suc (value x)) x
  entered_from_law x p r = go (walk_into x p.inside r)
    where
      back : {k : ℕ} → (t : ℕ) → t ≡ value x → Permitted costs cells corners k x t → Beside (suc (value x)) x
      back t q (start c e) = absurd (p.no_end (mem_among x ends (rw s.started.list at c)))
      back t q (move {k = j} {y = y} {t = u} w b m e) =
          let least = s.least.none_below j y u w in
          record { cell = y; inside = (beside_below y x b).0; beside = b; below = omega arith }

      go : Arrived x → Beside (suc (value x)) x
      go w = back (value x) refl w.1

  -- with no cost 0
  pub falls : ((x : ℕ) → x < 100 → 1 ≤ get_or costs x 0) → (x : ℕ) → Plain x → value x < 65535 → Lower x
  falls cost-from x p r = go (walk_into x p.inside r)
    where
      back : {k : ℕ} → (t : ℕ) → t ≡ value x → Permitted costs cells corners k x t → Lower x
      back t q (start c e) = absurd (p.no_end (mem_among x ends (rw s.started.list at c)))
      back t q (move {k = j} {y = y} {t = u} w b m e) =
          let least = s.least.none_below j y u w in
          let c = cost-from x p.inside in
          let i = (beside_below y x b).0 in
          let l : value y < value x = omega arith in
          record {
            cell = y;
            inside = i;
            beside = b;
            lower = l;
            exact = enters y x (walk_into y i (omega arith)) b p (omega arith);
          }

      go : Arrived x → Lower x
      go w = back (value x) refl w.1

  -- ---- how many cells cost less

  -- with each move to a lower cell there is one less; no cell is lower than itself
  pub rank : ℕ → ℕ
  rank x = count 100 (λ z. leb (suc (value z)) (value x))

  pub rank_less : (x y : ℕ) → y < 100 → value y < value x → rank y < rank x
  unfolding rank
  rank_less x y h l =
      count_more 100 (λ z. leb (suc (value z)) (value y)) (λ z. leb (suc (value z)) (value x))
      (λ z. leb_grows (suc (value z)) (suc (value z)) (value y) (value x) (omega arith) (omega arith)) y h
      (rw (lt-leb (suc (value y)) (value y) (omega arith), le-leb (suc (value y)) (value x) l) (omega arith))

  pub rank_few : (x : ℕ) → x < 100 → rank x ≤ 99
  unfolding rank
  rank_few x h =
      let l = count_more 100 (λ z. leb (suc (value z)) (value x)) (λ z. true) (λ z. most (leb (suc (value z)) (value x))) x h
      (rw (lt-leb (suc (value x)) (value x) (omega arith)) (omega arith)) in
      omega (arith, count_le 100 (λ z. true))
    where
      most : (b : Bool) → bit b ≤ 1
      most true = omega arith
      most false = omega arith

  -- ---- spreading

  -- what a walk enters is no wall, so that it costs at most 254
  entered_cost : (x : ℕ) → x < 100 → is_impassable (get_or cells x 0) ≡ false → (Among x ends → ⊥) → get_or costs x 0 ≤ 254
  entered_cost x h f a =
      let no_wall : get_or costs x 0 ≡ 255 → ⊥ = λ c. true≢false (sym (ap is_impassable (s.started.wall_cell x h c a)) ∙ f) in
      omega (arith, s.cost_to x h, no_wall)

  bounded : (k x t : ℕ) → Permitted costs cells corners k x t → t ≤ 254 * k
  bounded k x t (start c e) = omega (arith, word_low, ap low (s.started.end_cell x (mem_among x ends (rw s.started.list at c))))
  bounded k x t (move {k = i} {y = y} {t = u} w b m e) =
      let at-end : Among x ends → ⊥ = λ a. absurd (omega (arith, m.below, word_low, ap low (s.started.end_cell x a))) in
      omega (arith, bounded i y u w, entered_cost x (beside_below y x b).1 m.no_wall at-end)

  -- a cell that is no wall
  abbrev pub NoWall : ℕ → Type 0
  NoWall x = is_impassable (get_or built x 0) ≡ false

  pub spreads : (y x : ℕ) → BesideAt y x → value y < 65535 → NoWall x → value x < 65535
  spreads y x b v n =
      let y-in = (beside_below y x b).0 in
      by_kind x (beside_below y x b).1 (λ a e. omega (arith, word_low, ap low e)) (λ c a e. absurd (true≢false (sym (ap is_impassable e) ∙ n)))
      (λ p q.
      let c : get_or costs x 0 ≤ 254 = omega (arith, s.cost_to x p.inside, p.no_wall) in
      let w = walk_into y y-in v in
      let m = bounded w.0 y (value y) w.1 in
      omega (arith, enters y x w b p (omega (arith, w.2))))
