-- A started field, once built, has the least walks.
-- Assumes nothing.
use mathlib.Core.Path.{◌≡◌, refl, sym, ap, ◌∙◌}
use mathlib.Core.Bool.{Bool, true, false, true≢false}
use mathlib.Core.Logic.{◌⊎◌, inl, inr}
use mathlib.Core.List.{List, Memᴰ}
use Prim.Native.Nat.{ℕ, suc, ◌+◌, ◌<◌, ◌≤◌}
use native.Mathlib.Omega.{arith}
use native.Mathlib.Decide.{dec_lt}
use lib.ListN.{get_or}
use Rattle.fields.specs.Neighbours.{BesideAt}
use Rattle.fields.proofs.Beside.{beside_below}
use Rattle.integration_waves.specs.Walks.{start, move}
use Rattle.integration_field.specs.Word.{low, is_impassable}
use Rattle.integration_field.specs.Walks.{MayEnter, Permitted}
use Rattle.integration_field.specs.Promise.{LeastWalks, Walked}
use Rattle.integration_walks.specs.Walks.{InSight, Enterable, StartedWalk, StartedLeast}

module _ (costs cells corners : List ℕ) (Wall Goal : ℕ → Type 0) where
  -- what a started field is, as far as walks go: walls have the flag and nothing else has, the goal holds the value 0,
  -- and every cell that may be entered is listed or holds 65535
  pub record Ground : Type 0 where
    pub wall_flag : (x : ℕ) → Wall x → is_impassable (get_or cells x 0) ≡ true
    pub flag_wall : (x : ℕ) → x < 100 → is_impassable (get_or cells x 0) ≡ true → Wall x
    pub goal_zero : (x : ℕ) → Goal x → low (get_or cells x 0) ≡ 0
    pub listed_or_unset : (x : ℕ) → Enterable costs cells corners Wall Goal x → Memᴰ x corners ⊎ (low (get_or cells x 0) ≡ 65535)

  module _ (g : Ground) where
    -- a flag that is not set
    unset : (b : Bool) → (b ≡ true → ⊥) → b ≡ false
    unset true h = absurd (h refl)
    unset false h = refl

    -- a walk by hand is a walk of the started field
    as_started : {k x s : ℕ} → Permitted costs cells corners k x s → StartedWalk costs cells corners Wall Goal k x s
    as_started (start c e) = start c e
    as_started (move {y = y} {x = x} {s = s} p b m e) =
        move (as_started p) b (record {
          inside = (beside_below y x b).1;
          no_wall = λ w. true≢false (sym (g.wall_flag x w) ∙ m.no_wall);
          not_in_sight = λ l. true≢false (sym l ∙ m.not_in_sight);
          no_goal = λ h. absurd (omega (arith, g.goal_zero x h, m.below));
        }) e

    -- Into the cell goes a walk by hand that comes to no more, or the sum is one that no value exceeds.
    abbrev NoMore : ℕ → ℕ → Type 0
    NoMore x s = ((k : ℕ) × (t : ℕ) × Permitted costs cells corners k x t × (t ≤ s)) ⊎ (65535 ≤ s)

    -- one more move: from a walk by hand into y that comes to t, into the cell x beside it
    moved : (k y x t : ℕ) → Permitted costs cells corners k y t → BesideAt y x → Enterable costs cells corners Wall Goal x → NoMore x (t + get_or costs x 0)
    moved k y x t p b o = go (dec_lt (t + get_or costs x 0) (low (get_or cells x 0))) (g.listed_or_unset x o)
      where
        enters : t + get_or costs x 0 < low (get_or cells x 0) → MayEnter costs cells corners x (t + get_or costs x 0)
        enters h = record { no_wall = unset _ (λ e. o.no_wall (g.flag_wall x o.inside e)); not_in_sight = unset _ o.not_in_sight; below = h }

        go : Dec (t + get_or costs x 0 < low (get_or cells x 0)) → Memᴰ x corners ⊎ (low (get_or cells x 0) ≡ 65535) → NoMore x (t + get_or costs x 0)
        go (yes h) l = inl (suc k, t + get_or costs x 0, move p b (enters h) refl, omega arith)
        go (no h) (inl c) = inl (0, low (get_or cells x 0), start c refl, omega arith)
        go (no h) (inr e) = inr (omega arith)

    -- so each walk of the started field is met by one by hand, or comes to 65535
    met : (k x s : ℕ) → StartedWalk costs cells corners Wall Goal k x s → NoMore x s
    met k x s (start c e) = inl (0, s, start c e, omega arith)
    met k x s (move {k = j} {y = y} {t = t} p b o e) = go (met j y t p)
      where
        more : (r : ℕ) → r ≤ t → NoMore x (r + get_or costs x 0) → NoMore x s
        more r h (inl q) = inl (q.0, q.1, q.2, omega (arith, q.3))
        more r h (inr l) = inr (omega arith)

        go : NoMore y t → NoMore x s
        go (inl q) = more q.1 q.3 (moved q.0 y x q.1 q.2 b o)
        go (inr l) = inr (omega arith)

    module _ (built : List ℕ) (least : LeastWalks costs cells corners built) where
      low_below : (w : ℕ) → low w ≤ 65535
      low_below w = omega arith

      not_above : (x : ℕ) → low (get_or built x 0) ≤ low (get_or cells x 0)
      not_above x = go (least.attained x)
        where
          go : (get_or built x 0 ≡ get_or cells x 0) ⊎ Walked costs cells corners x (get_or built x 0) → low (get_or built x 0) ≤ low (get_or cells x 0)
          go (inl e) = omega (arith, ap low e)
          go (inr w) = omega (arith, w.lower)

      none_below : (k x s : ℕ) → StartedWalk costs cells corners Wall Goal k x s → low (get_or built x 0) ≤ s
      none_below k x s p = go (met k x s p)
        where
          go : NoMore x s → low (get_or built x 0) ≤ s
          go (inl q) = omega (arith, least.none_below q.0 x q.1 q.2, q.3)
          go (inr l) = omega (arith, low_below (get_or built x 0))

      abbrev Attained : ℕ → Type 0
      Attained x = (low (get_or built x 0) ≡ low (get_or cells x 0)) ⊎ ((k : ℕ) × StartedWalk costs cells corners Wall Goal k x (low (get_or built x 0)))

      attained : (x : ℕ) → Attained x
      attained x = go (least.attained x)
        where
          go : (get_or built x 0 ≡ get_or cells x 0) ⊎ Walked costs cells corners x (get_or built x 0) → Attained x
          go (inl e) = inl (ap low e)
          go (inr w) = let e : low (get_or built x 0) ≡ get_or built x 0 = omega (arith, w.lower) in inr (w.moves, rw e (as_started w.walk))

      goal_stays : (x : ℕ) → Goal x → get_or built x 0 ≡ get_or cells x 0
      goal_stays x h = go (least.attained x)
        where
          go : (get_or built x 0 ≡ get_or cells x 0) ⊎ Walked costs cells corners x (get_or built x 0) → get_or built x 0 ≡ get_or cells x 0
          go (inl e) = e
          go (inr w) = absurd (omega (arith, g.goal_zero x h, w.lower))

      others_stay : (x : ℕ) → Wall x ⊎ (InSight cells x ⊎ Goal x) → get_or built x 0 ≡ get_or cells x 0
      others_stay x (inl w) = least.walls_stay x (g.wall_flag x w)
      others_stay x (inr (inl l)) = least.sight_stays x l
      others_stay x (inr (inr h)) = goal_stays x h

      unwalked : (x : ℕ) → Attained x → ((k s : ℕ) → StartedWalk costs cells corners Wall Goal k x s → ⊥) → low (get_or built x 0) ≡ low (get_or cells x 0)
      unwalked x (inl e) h = e
      unwalked x (inr w) h = absurd (h w.0 (low (get_or built x 0)) w.1)

      pub started_least : StartedLeast costs cells corners Wall Goal built
      started_least = record {
        not_above = λ x o. not_above x;
        none_below = none_below;
        attained = λ x o. attained x;
        others_stay = others_stay;
        unwalked_stays = λ x o. unwalked x (attained x);
      }
