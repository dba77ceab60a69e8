-- What a started cell is, as far as walks go.
--     goal_ground, window_ground, corner_ground    of a field started with a goal, with a window, and with a goal without sight
-- Assumes nothing.
use mathlib.Core.Path.{◌≡◌}
use mathlib.Core.Logic.{◌⊎◌, inl, inr, ⊎_elim}
use mathlib.Core.List.Memᴰ
use mathlib.Core.List.{List, [], ◌∷◌, Memᴰ}
use Prim.Native.Nat.{ℕ, ◌<◌}
use native.Mathlib.Omega.{arith}
use native.Mathlib.Decide.{dec_lt, ℕ_discrete}
use lib.ListN.{get_or, length, get_or-eq_default}
use Rattle.route.specs.Target.{to_goal, to_window, to_corner, GoalCell}
use Rattle.route.proofs.Targets.{at_place, place_of}
use Rattle.integration_field.specs.Word.{low}
use Rattle.integration_started.specs.StartedCell.{Among, SightCell, in_sight, corner, unseen, GoalStarted, WindowStarted, CornerStarted}
use Rattle.integration_started.proofs.Words.{corner_flags, seen_flags}
use Rattle.integration_walks.specs.Walks.{Wall, Enterable}
use Rattle.integration_walks.proofs.Started.{Ground}

-- ---- a list has an entry, by its place and by membership

pub among_mem : (x : ℕ) (l : List ℕ) → Among x l → Memᴰ x l
among_mem x l a = at_place l a.0 x a.1 a.2

pub mem_among : (x : ℕ) (l : List ℕ) → Memᴰ x l → Among x l
mem_among x l m = place_of l x m

pub is_mem : (x : ℕ) (l : List ℕ) → Dec (Memᴰ x l)
is_mem x [] = no Memᴰ.not-nil
is_mem x (y ∷ l) = go (ℕ_discrete x y) (is_mem x l)
  where
    go : Dec (x ≡ y) → Dec (Memᴰ x l) → Dec (Memᴰ x (y ∷ l))
    go (yes e) d = yes (Memᴰ.head e)
    go (no h) (yes m) = yes (Memᴰ.tail m)
    go (no h) (no n) = no (λ m. ⊎_elim h n (Memᴰ.cases_cons m))

-- a cost other than 0 is one of the sector's
cost_inside : (costs : List ℕ) (x : ℕ) → length costs ≡ 100 → get_or costs x 0 ≡ 255 → x < 100
cost_inside costs x n e = elim (dec_lt x 100) [ yes h ↦ h | no h ↦ absurd (omega (arith, get_or-eq_default costs 0 {n = x} (omega arith))) ]

module _ (costs : List ℕ) (full : length costs ≡ 100) (cells corners : List ℕ) where
  module _ (goal : ℕ) (g : GoalStarted costs goal cells corners) where
    abbrev GoalWall : ℕ → Type 0
    GoalWall = Wall costs (to_goal goal)

    abbrev IsGoal : ℕ → Type 0
    IsGoal = GoalCell (to_goal goal)

    wall_word : (x : ℕ) → GoalWall x → get_or cells x 0 ≡ 0x200FFFF
    wall_word x w = g.wall_cell x (cost_inside costs x full w.impassable) w.impassable w.not_goal

    not_dear : (x : ℕ) → Enterable costs cells corners GoalWall IsGoal x → get_or costs x 0 ≡ 255 → ⊥
    not_dear x o e = o.no_wall (record { impassable = e; not_goal = o.no_goal; not_window = λ m. absurd (Memᴰ.not-nil m) })

    pub goal_ground : Ground costs cells corners GoalWall IsGoal
    goal_ground = record {
      wall_flag = λ x w. rw (wall_word x w);
      flag_wall = λ x h e. (let w = g.wall_only x h e in record { impassable = w.0; not_goal = w.1; not_window = λ m. absurd (Memᴰ.not-nil m) });
      goal_zero = λ x q. rw (q, g.goal_stays.goal_cell);
      listed_or_unset = λ x o. go x o (g.other_cell x o.inside (not_dear x o) o.no_goal);
    }
      where
        go : (x : ℕ) → Enterable costs cells corners GoalWall IsGoal x → SightCell (get_or cells x 0) → Memᴰ x corners ⊎ (low (get_or cells x 0) ≡ 65535)
        go x o (in_sight v p q e) = absurd (o.not_in_sight (rw e (seen_flags v (omega arith)).los_is))
        go x o (corner v q e) = inl (among_mem x corners (g.blocked_listed x o.inside (rw e (corner_flags v (omega arith)).blocked_is)))
        go x o (unseen e) = inr (rw e)

  module _ (window : List ℕ) (g : WindowStarted costs window cells corners) where
    abbrev WindowWall : ℕ → Type 0
    WindowWall = Wall costs (to_window window)

    abbrev NoGoal : ℕ → Type 0
    NoGoal = GoalCell (to_window window)

    no_window : (x : ℕ) → (Memᴰ x window → ⊥) → Among x window → ⊥
    no_window x h a = h (among_mem x window a)

    pub window_ground : Ground costs cells corners WindowWall NoGoal
    window_ground = record {
      wall_flag = λ x w. rw (g.wall_cell x (cost_inside costs x full w.impassable) w.impassable (no_window x w.not_window));
      flag_wall = λ x h e. (let w = g.wall_only x h e in record {
        impassable = w.0;
        not_goal = λ q. q;
        not_window = λ q. absurd (w.1 (mem_among x window q));
      });
      goal_zero = λ x q. absurd q;
      listed_or_unset = λ x o. go x o (is_mem x window);
    }
      where
        go : (x : ℕ) → Enterable costs cells corners WindowWall NoGoal x → Dec (Memᴰ x window) → Memᴰ x corners ⊎ (low (get_or cells x 0) ≡ 65535)
        go x o (yes m) = inl (rw g.list m)
        go x o (no n) =
            inr (rw (g.other_cell x o.inside
            (λ e. o.no_wall (record { impassable = e; not_goal = o.no_goal; not_window = λ m. absurd (n m) })) (no_window x n)))

  module _ (goal : ℕ) (g : CornerStarted costs goal cells corners) where
    abbrev CornerWall : ℕ → Type 0
    CornerWall = Wall costs (to_corner goal)

    abbrev IsCorner : ℕ → Type 0
    IsCorner = GoalCell (to_corner goal)

    pub corner_ground : Ground costs cells corners CornerWall IsCorner
    corner_ground = record {
      wall_flag = λ x w. rw (g.wall_cell x (cost_inside costs x full w.impassable) w.impassable w.not_goal);
      flag_wall = λ x h e. (let w = g.wall_only x h e in record { impassable = w.0; not_goal = w.1; not_window = λ m. absurd (Memᴰ.not-nil m) });
      goal_zero = λ x q. rw (q, g.goal_stays.goal_cell);
      listed_or_unset = λ x o. inr (rw (g.other_cell x o.inside
          (λ e. o.no_wall (record { impassable = e; not_goal = o.no_goal; not_window = λ m. absurd (Memᴰ.not-nil m) })) o.no_goal));
    }
