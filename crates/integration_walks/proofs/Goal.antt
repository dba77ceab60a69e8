-- A field started with a goal and without sight, once built, tells the goal's costs and positions.
-- A walk by hand is a walk from the goal. Conversely each cell into which a walk from the goal leads has a walk by hand of at most 99 moves, which
-- comes to 99 times 254 at most: so one more move stays below 65535, and the next cell has one too.
--     goal_costs        the costs are the least walks from the goal
--     goal_positions    and every reached cell but the goal has position 0
-- Assumes nothing.
use mathlib.Core.Path.{◌≡◌, refl, sym, ap, ◌∙◌}
use mathlib.Core.Bool.{true, true≢false, false≢true}
use mathlib.Core.Logic.{◌⊎◌, inl, inr, ⊎_elim}
use mathlib.Core.List.Memᴰ
use mathlib.Core.List.{List, [], ◌∷◌, Memᴰ}
use Prim.Native.Nat.{ℕ, zero, suc, ◌+◌, ◌*◌, ◌<◌, ◌≤◌}
use native.Mathlib.Omega.{arith}
use native.Mathlib.Decide.{ℕ_discrete}
use lib.ListN.{get_or}
use Rattle.fields.specs.Neighbours.{BesideAt}
use Rattle.fields.proofs.Beside.{beside_below}
use Rattle.integration_waves.specs.Walks.{start, move}
use Rattle.integration_field.specs.Word.{low, is_los, is_goal, is_impassable}
use Rattle.integration_field.specs.Walks.{MayEnter, Permitted}
use Rattle.integration_field.specs.Promise.{LeastWalks, Walked, Placed, Position, earliest, none, unplaced, EarliestCorners}
use Rattle.integration_started.specs.StartedCell.{CornerStarted}
use Rattle.integration_walks.specs.Goal.{Open, GoalWalk, begins, enters, GoalCosts, GoalPositions}

module _ (costs : List ℕ) (goal : ℕ) (cells : List ℕ) (s : CornerStarted costs goal cells (goal ∷ []))
    (byte : (x : ℕ) → x < 100 → get_or costs x 0 ≤ 255) where
  abbrev corners : List ℕ
  corners = goal ∷ []

  goal_low : low (get_or cells goal 0) ≡ 0
  goal_low = rw s.goal_stays.goal_cell

  corner_is : (x : ℕ) → Memᴰ x corners → x ≡ goal
  corner_is x m = ⊎_elim (λ e. e) (λ n. absurd (Memᴰ.not-nil n)) (Memᴰ.cases_cons m)

  -- what a walk by hand enters is open ..
  opened : (y x : ℕ) {t : ℕ} → BesideAt y x → MayEnter costs cells corners x t → Open costs goal x
  opened y x {t} b m =
      let not_goal : x ≡ goal → ⊥ = λ e. absurd (omega (arith, m.below, ap (λ (z : ℕ). low (get_or cells z 0)) e, goal_low)) in
      let inside = (beside_below y x b).1 in
      record {
        inside = inside;
        no_wall = λ w. false≢true (sym m.no_wall ∙ ap is_impassable (s.wall_cell x inside w not_goal));
        not_goal = not_goal;
      }

  -- .. and what is open may be entered below 65535
  may_enter : (x t : ℕ) → Open costs goal x → t < 65535 → MayEnter costs cells corners x t
  may_enter x t o h =
      let e = s.other_cell x o.inside o.no_wall o.not_goal in
      record { no_wall = rw e; not_in_sight = rw e; below = rw e h }

  by_hand : {k x t : ℕ} → Permitted costs cells corners k x t → GoalWalk costs goal x t
  by_hand {x = x} (start c e) =
      let g = corner_is x c in
      let z = e ∙ ap (λ (y : ℕ). low (get_or cells y 0)) g ∙ goal_low in
      rw (g, z) begins
  by_hand (move {y = y} {x = x} p b m e) = rw e (enters (by_hand p) b (opened y x b m))

  bounded : {k x t : ℕ} → Permitted costs cells corners k x t → t ≤ 254 * k
  bounded {x = x} (start c e) = omega (arith, e, ap (λ (y : ℕ). low (get_or cells y 0)) (corner_is x c), goal_low)
  bounded (move {y = y} {x = x} p b m e) =
      let o = opened y x b m in
      let dear : get_or costs x 0 ≤ 254 = not_dear (get_or costs x 0) (byte x o.inside) o.no_wall in
      omega (arith, bounded p, e, dear)
    where
      not_dear : (c : ℕ) → c ≤ 255 → (c ≡ 255 → ⊥) → c ≤ 254
      not_dear c h n = elim (ℕ_discrete c 255) [ yes e ↦ absurd (n e) | no m ↦ omega arith ]

  module _ (built : List ℕ) (least : LeastWalks costs cells corners built) where
    abbrev cost : ℕ → ℕ
    cost x = low (get_or built x 0)

    -- Into cell x goes a walk by hand at the cost that it holds, which is small, and no more than s.
    pub record Reaches (x t : ℕ) : Type 0 where
      pub count : ℕ
      pub walk : Permitted costs cells corners count x (cost x)
      pub few : cost x ≤ 25146
      pub no_more : cost x ≤ t

    -- a cell that changed holds a walk of at most 99 moves, each of which pays 254 at most
    changed : (x t : ℕ) → cost x ≤ t → Walked costs cells corners x (get_or built x 0) → Reaches x t
    changed x t h w =
        let e : cost x ≡ get_or built x 0 = omega (arith, w.lower) in
        let p = rw (← e) at w.walk in
        record { count = w.moves; walk = p; few = omega (arith, bounded p, w.few); no_more = h }

    -- the goal stays as it was
    at_goal : (get_or built goal 0 ≡ get_or cells goal 0) ⊎ Walked costs cells corners goal (get_or built goal 0) → cost goal ≡ 0
    at_goal (inl e) = ap low e ∙ goal_low
    at_goal (inr w) = absurd (omega (arith, w.lower, goal_low))

    -- a walk by hand into an open cell, below 65535, is met by one at the cost that it holds
    met : (x k t : ℕ) → Open costs goal x → Permitted costs cells corners k x t → t < 65535 → Reaches x t
    met x k t o p h = go (least.attained x)
      where
        below : cost x ≤ t
        below = least.none_below k x t p

        go : (get_or built x 0 ≡ get_or cells x 0) ⊎ Walked costs cells corners x (get_or built x 0) → Reaches x t
        go (inl e) = absurd (omega (arith, ap low (e ∙ s.other_cell x o.inside o.no_wall o.not_goal), below))
        go (inr w) = changed x t below w

    -- so each cell into which a walk from the goal leads has one
    reaches : {x t : ℕ} → GoalWalk costs goal x t → Reaches x t
    reaches begins =
        let e = at_goal (least.attained goal) in
        record { count = 0; walk = start (Memᴰ.head refl) (e ∙ sym goal_low); few = omega (arith, e); no_more = omega (arith, e) }
    reaches (enters {y = y} {x = x} {s = t} w b o) =
        let r = reaches w in
        let dear = byte x o.inside in
        let small : cost y + get_or costs x 0 < 65535 = omega (arith, r.few, dear) in
        let q = met x (suc r.count) (cost y + get_or costs x 0) o (move r.walk b (may_enter x (cost y + get_or costs x 0) o small) refl) small in
        record { count = q.count; walk = q.walk; few = q.few; no_more = omega (arith, q.no_more, r.no_more) }

    -- a cell that is as it was, and not the goal, holds 65535
    unset : (x : ℕ) → x < 100 → (x ≡ goal → ⊥) → low (get_or cells x 0) ≡ 65535
    unset x h n = elim (ℕ_discrete (get_or costs x 0) 255) [ yes e ↦ ap low (s.wall_cell x h e n) | no f ↦ ap low (s.other_cell x h f n) ]

    unwalked : (x : ℕ) → x < 100 → ((t : ℕ) → GoalWalk costs goal x t → ⊥) → cost x ≡ 65535
    unwalked x h n = go (least.attained x)
      where
        go : (get_or built x 0 ≡ get_or cells x 0) ⊎ Walked costs cells corners x (get_or built x 0) → cost x ≡ 65535
        go (inl e) = ap low e ∙ unset x h (λ g. n 0 (rw g begins))
        go (inr w) = absurd (n _ (by_hand w.walk))

    pub goal_costs : GoalCosts costs goal built
    goal_costs = record {
      goal_free = at_goal (least.attained goal);
      none_below = λ x t w. (reaches w).no_more;
      attained = λ x t w. (let r = reaches w in (by_hand r.walk, omega (arith, r.few)));
      unwalked = unwalked;
    }

    -- ---- positions
    goal_flag : is_goal (get_or cells goal 0) ≡ true
    goal_flag = rw s.goal_stays.goal_cell

    -- a walk by hand comes to less than 65535, since it ends in the goal or where it arrives below the value before
    below_all : {k x t : ℕ} → Permitted costs cells corners k x t → t < 65535
    below_all {x = x} (start c e) = omega (arith, e, ap (λ (y : ℕ). low (get_or cells y 0)) (corner_is x c), goal_low)
    below_all (move {x = x} p b m e) = omega (arith, m.below)

    -- a reached cell but the goal was no wall, not in sight and not flagged, and a walk by hand leads into it
    placed : (x : ℕ) → x < 100 → cost x < 65535 → (x ≡ goal → ⊥) → Placed costs cells corners x
    placed x h r n = elim (ℕ_discrete (get_or costs x 0) 255) [
      | yes e ↦ (let w = s.wall_cell x h e n in absurd (omega (arith, ap low (least.walls_stay x (ap is_impassable w) ∙ w))))
      | no f ↦ (let e = s.other_cell x h f n in record { no_wall = ap is_impassable e; not_in_sight = ap is_los e; no_goal = ap is_goal e })
    ]

    led_into : (x : ℕ) → x < 100 → cost x < 65535 → (x ≡ goal → ⊥) → (k : ℕ) × Permitted costs cells corners k x (cost x)
    led_into x h r n = go (least.attained x)
      where
        go : (get_or built x 0 ≡ get_or cells x 0) ⊎ Walked costs cells corners x (get_or built x 0) → (k : ℕ) × Permitted costs cells corners k x (cost x)
        go (inl e) = absurd (omega (arith, ap low e ∙ unset x h n))
        go (inr w) = let q = changed x (cost x) (omega arith) w in (q.count, q.walk)

    the_goal : (p : ℕ) → p < 1 → get_or corners p 0 ≡ goal
    the_goal zero h = refl
    the_goal (suc p) h = absurd (omega arith)

    module _ (x : ℕ) (h : x < 100) (p : ℕ) where
      at_reached : cost x < 65535 → (x ≡ goal → ⊥) → Position costs cells corners built x p → p ≡ 0
      at_reached r n (earliest pl f w first) = omega arith
      at_reached r n (none pl e f) = absurd (f 0 (omega arith) (led_into x h r n))
      at_reached r n (unplaced u e) = absurd (u (placed x h r n))

      at_other : (x ≡ goal) ⊎ (65535 ≤ cost x) → Position costs cells corners built x p → p ≡ 255
      at_other (inl g) (earliest pl f w first) = absurd (true≢false (sym goal_flag ∙ ap (λ (y : ℕ). is_goal (get_or cells y 0)) (sym g) ∙ pl.no_goal))
      at_other (inr r) (earliest pl f w first) = absurd (omega (arith, below_all (rw (the_goal p f) at w.1)))
      at_other o (none pl e f) = e
      at_other o (unplaced u e) = e

    pub goal_positions : (positions : List ℕ) → EarliestCorners costs cells corners built positions → GoalPositions costs goal built positions
    goal_positions positions told = record {
      reached = λ x h r n. at_reached x h (get_or positions x 0) r n (told x h);
      others = λ x h o. at_other x h (get_or positions x 0) o (told x h);
    }
