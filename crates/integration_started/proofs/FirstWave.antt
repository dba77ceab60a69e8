-- The first wave spreads from the goal alone, and after it no wall can make the goal a corner.
--
-- A wave cell that meets a wall makes the cell beside the wall a corner, where both side cells are free. The goal G would become one like this:
--
--     H f    H hides G: it stands diagonally to G, with the wall # between them, and f is free. If H were a wave cell, sight from H would meet #
--     # G    and try the side of f and G. Turned and mirrored, there are eight such squares.
--
-- But H is never a wave cell. In the first wave sight from G meets the same wall # and tries the side of f and H. Since f is free, H becomes a corner,
-- unless it is a wall itself. A corner is BLOCKED, stays so, and is never queued. And the one cell of the first wave is G, which is no such H.
--     Hides           a cell H, with the directions from H to # and from # to G
--     hides_even      H is an even number of steps from G: the cells that the first wave queues are an odd number away
--     first_keeps     what holds throughout the first wave
--     around          what one of its four directions brings about holds at its end
--     first_blocks    the first wave leaves H BLOCKED
-- How many cells the first wave meets stands in FirstMet.
-- Assumes nothing.
use mathlib.Core.Path.{◌≡◌, refl, sym, ◌∙◌, ap, subst}
use mathlib.Core.Bool.{Bool, true, false, cond}
use mathlib.Core.List.{List, [], ◌∷◌}
use mathlib.Core.Logic.{inl, inr, ⊎_elim}
use Prim.Native.Nat.{ℕ, suc, ◌+◌, ◌<◌, ◌/◌, ◌%◌}
use native.Mathlib.Omega.{arith}
use borrow.Author.Tests.{eq-eqb}
use lib.ListN.{length, get_or}
use Rattle.utilities.specs.declared.CompassDir.{CompassDir}
use Rattle.utilities.specs.declared.CompassDir.TheVariants.{North, East, South, West}
use Rattle.utilities.specs.Compass.{orthogonal, opposite, lower_side}
use Rattle.fields.specs.declared.FieldCell.{FieldCell}
use Rattle.std.specs.Prelude.{Some}
use Rattle.fields.specs.Cell.{Inside, cell_at, index_of, stepped}
use Rattle.fields.proofs.Steps.{stepped_cell, step_back, index_below, index_of_cell, cell_inside, cell_of_index}
use Rattle.integration_field.specs.Word.{is_blocked}
use Rattle.integration_field.specs.Diagonal.{wall_at, passes_wall}
use Rattle.integration_started.specs.Sight.{Sight, corner_word, listed, marked, stopped, line_marked, extended, side_tried}
use Rattle.integration_started.specs.Sight.{wall_met, spread_to, spread_towards, spread_around}
use Rattle.integration_started.specs.Lines.{Lines}
use Rattle.utilities.proofs.Count.{Each, at_set}
use Rattle.integration_started.proofs.Words.{corner_flags}
use Rattle.integration_started.proofs.Kept.{Found, Keeps, kept_marked, kept_line, kept_side, kept_towards}
use Rattle.integration_started.proofs.Sides.{is_side, Sideways, by_side, square, odd, side_opposite, side_sideways, sideways_back, sideways_away}
use Rattle.integration_started.proofs.Wave.{is_met, Free, Wave, wave_keeps}

-- marked or BLOCKED before, a cell is BLOCKED
marked_blocked : (value n : ℕ) (s : Sight) → n < length s.cells → value < 0x10000 → is_blocked (get_or (marked value n s).cells n 0) ≡ true
unfolding marked
marked_blocked value n s h v = go (is_blocked (get_or s.cells n 0)) refl
  where
    go : (b : Bool) → is_blocked (get_or s.cells n 0) ≡ b → is_blocked (get_or (cond b s (listed value n s)).cells n 0) ≡ true
    go true e = e
    go false e = at_set (λ x. is_blocked x ≡ true) s.cells n (corner_word value) n h (λ q. (corner_flags value v).blocked_is) (λ q. absurd (q refl))

other_order : (a b c d : ℕ) → (a + b + c + d) % 2 ≡ 1 → (c + d + a + b) % 2 ≡ 1
other_order a b c d e = omega arith

-- no cell at all
abbrev pub Never : ℕ → Type 0
Never n = ⊥

module _ (goal : ℕ) (walls : ℕ → Bool) where
  -- cell c is an H: `way` leads from it to the wall cell, and `side` from the wall cell to the goal
  pub record Hides (c : ℕ) : Type 0 where
    pub way : CompassDir
    pub wall_cell : FieldCell
    pub side : CompassDir
    pub free_cell : FieldCell
    pub is_side_law : is_side way ≡ true
    pub found : Found walls c way wall_cell side free_cell (cell_at goal)

  -- a corner is found beside the wall: one step from the wall cell
  corner_step : (from : ℕ) (d : CompassDir) (wall : FieldCell) (side : CompassDir) (a corner : FieldCell) → Found walls from d wall side a corner
      → stepped wall side ≡ Some corner
  corner_step from d wall side a corner f =
      ap (λ (y : FieldCell). stepped y side) (sym (cell_of_index wall (stepped_cell (cell_at from) d wall f.ahead).within)) ∙ f.cornered

  -- where the corner that is found is the goal, the wave cell hides it
  pub goal_hidden : (from : ℕ) (d : CompassDir) (wall : FieldCell) (side : CompassDir) (a corner : FieldCell) → is_side d ≡ true
      → Found walls from d wall side a corner → index_of corner ≡ goal → Hides from
  goal_hidden from d wall side a corner is_side_law f is-goal =
      let inside = (stepped_cell wall side corner (corner_step from d wall side a corner f)).within in
      let same : corner ≡ cell_at goal = sym (cell_of_index corner inside) ∙ ap cell_at is-goal in
      record {
        way = d;
        wall_cell = wall;
        side = side;
        free_cell = a;
        is_side_law = is_side_law;
        found = subst (λ (y : FieldCell). Found walls from d wall side a y) same f;
      }

  -- a cell an odd number of steps from the goal
  abbrev pub Odd : ℕ → Type 0
  Odd n = (n % 10 + n / 10 + goal % 10 + goal / 10) % 2 ≡ 1

  module _ (c : ℕ) (h : Hides c) where
    side_side : is_side h.side ≡ true
    side_side = side_sideways h.way h.side h.is_side_law h.found.sideways

    to_goal : stepped h.wall_cell h.side ≡ Some (cell_at goal)
    to_goal = corner_step c h.way h.wall_cell h.side h.free_cell (cell_at goal) h.found

    pub hides_even : Odd c → ⊥
    hides_even is_odd =
        let to-wall = odd h.way (cell_at c) h.wall_cell h.is_side_law h.found.ahead in
        let from-wall = odd h.side h.wall_cell (cell_at goal) side_side to_goal in
        omega arith

    hides_not_goal : c ≡ goal → ⊥
    hides_not_goal same =
        sideways_away (cell_at c) h.wall_cell h.way h.side h.is_side_law h.found.sideways h.found.ahead
        (to_goal ∙ ap (λ (n : ℕ). Some (cell_at n)) (sym same))

  -- the first wave, in which cells `Kept` stay BLOCKED and cells `Met` stay met
  abbrev pub First : (ℕ → Type 0) → (ℕ → Type 0) → Sight → Type 0
  First Kept Met = Wave goal walls 1 Odd Kept Met

  -- at a place of the first wave: these cells are BLOCKED, and those are met
  pub first_with : (Kept Met : ℕ → Type 0) (t : Sight) → First Never Never t → ((c : ℕ) → Kept c → is_blocked (get_or t.cells c 0) ≡ true)
      → ((c : ℕ) → Met c → is_met (get_or t.cells c 0) ≡ true) → First Kept Met t
  first_with Kept Met t p blocked met = record {
    sound = p.sound;
    met_least = p.met_least;
    met_queued = p.met_queued;
    all_next = p.all_next;
    stays = λ c inside. blocked c;
    stays_met = λ c inside. met c;
  }

  module _ (corner_line : ℕ → List ℕ) (lines : Lines goal corner_line) where
    abbrev IsGoal : ℕ → Type 0
    IsGoal n = n ≡ goal

    -- the first wave draws no line from the goal
    away : (from : ℕ) (d : CompassDir) (wall : FieldCell) (side : CompassDir) (a corner : FieldCell) → IsGoal from → is_side d ≡ true
        → Found walls from d wall side a corner → index_of corner ≡ goal → ⊥
    away from d wall side a corner from-goal is_side_law f is-goal = hides_not_goal from (goal_hidden from d wall side a corner is_side_law f is-goal) from-goal

    -- what it queues is one step from the goal
    next : (Kept : ℕ → Type 0) (from : ℕ) (d : CompassDir) (n : FieldCell) → IsGoal from → is_side d ≡ true → stepped (cell_at from) d ≡ Some n
        → walls (index_of n) ≡ false → (Kept (index_of n) → ⊥) → Odd (index_of n)
    next Kept from d n from-goal is_side_law step free not-kept =
        let apart = subst (λ (m : ℕ). (m % 10 + m / 10 + n.column + n.row) % 2 ≡ 1) from-goal (odd d (cell_at from) n is_side_law step) in
        let is-n = cell_of_index n (stepped_cell (cell_at from) d n step).within in
        subst (λ (m : FieldCell). (m.column + m.row + goal % 10 + goal / 10) % 2 ≡ 1) (sym is-n)
        (other_order (goal % 10) (goal / 10) n.column n.row apart)

    pub first_keeps : (Kept Met : ℕ → Type 0) → Keeps corner_line 1 walls IsGoal (Free goal walls) (First Kept Met)
    first_keeps Kept Met = wave_keeps goal walls corner_line lines 1 1 (omega arith) (omega arith) (omega arith) IsGoal Odd Kept Met away (next Kept)

    -- sight goes from the goal in one direction
    abbrev pub spread : CompassDir → Sight → Sight
    spread d s = spread_towards corner_line 1 goal d (stepped (cell_at goal) d) s

    spread_keeps : (Kept Met : ℕ → Type 0) (d : CompassDir) (s : Sight) → is_side d ≡ true → First Kept Met s → First Kept Met (spread d s)
    spread_keeps Kept Met d s is_side_law p = kept_towards (first_keeps Kept Met) goal refl d s is_side_law p

    pub around : (Kept Met : ℕ → Type 0) (d : CompassDir) → is_side d ≡ true → ((t : Sight) → First Never Never t → First Kept Met (spread d t))
        → (s : Sight) → First Never Never s → First Kept Met (spread_around corner_line 1 goal orthogonal s)
    unfolding spread_around
    around Kept Met d is_side_law brings s p =
        let before = spread_keeps Never Never in
        let later = spread_keeps Kept Met in
        let s₁ = spread North s in
        let s₂ = spread East s₁ in
        let s₃ = spread South s₂ in
        let p₁ = before North s refl p in
        let p₂ = before East s₁ refl p₁ in
        let p₃ = before South s₂ refl p₂ in
        by_side (λ e. ((t : Sight) → First Never Never t → First Kept Met (spread e t)) → First Kept Met (spread West s₃))
        (λ north. later West s₃ refl (later South s₂ refl (later East s₁ refl (north s p))))
        (λ east. later West s₃ refl (later South s₂ refl (east s₁ p₁)))
        (λ south. later West s₃ refl (south s₂ p₂))
        (λ west. west s₃ p₃)
        d is_side_law brings

    -- The cell c is an H of the drawing and no wall: the first wave makes it a corner.
    module _ (c : ℕ) (c-in : c < 100) (h : Hides c) (free : walls c ≡ false) where
      abbrev Only : ℕ → Type 0
      Only m = m ≡ c

      -- the goal's steps in the drawing: to the wall, to the free cell, and from the wall to c
      wall_inside : Inside h.wall_cell
      wall_inside = (stepped_cell (cell_at c) h.way h.wall_cell h.found.ahead).within

      sees_wall : stepped (cell_at goal) (opposite h.side) ≡ Some h.wall_cell
      sees_wall = step_back h.wall_cell h.side (cell_at goal) wall_inside (to_goal c h)

      sees_free : stepped (cell_at goal) (opposite h.way) ≡ Some h.free_cell
      sees_free =
          step_back h.free_cell h.way (cell_at goal) (stepped_cell (cell_at c) h.side h.free_cell h.found.beside).within
          (square h.way h.side (cell_at c) h.wall_cell h.free_cell (cell_at goal) h.found.ahead (to_goal c h) h.found.beside)

      sees_this : stepped (cell_at (index_of h.wall_cell)) (opposite h.way) ≡ Some (cell_at c)
      sees_this =
          ap (λ (y : FieldCell). stepped y (opposite h.way)) (cell_of_index h.wall_cell wall_inside)
          ∙ step_back (cell_at c) h.way h.wall_cell (cell_inside c c-in) h.found.ahead

      -- c is marked: the first cell of its own line
      mark_blocks : (t : Sight) → First Never Never t → First Only Never (marked (1 + 1 + 0) c t)
      mark_blocks t p =
          let after = marked (1 + 1 + 0) c t in
          let blocked : is_blocked (get_or after.cells c 0) ≡ true = marked_blocked (1 + 1 + 0) c t (omega (arith, p.sound.room.full)) (omega arith) in
          first_with Only Never after
          (kept_marked (first_keeps Never Never) (1 + 1 + 0) c t p (c-in, hides_not_goal c h) (omega arith) (p.sound.same c ∙ free))
          (λ m is_c. subst (λ (i : ℕ). is_blocked (get_or after.cells i 0) ≡ true) (sym is_c) blocked) (λ m never. absurd never)

      open_way : (t : Sight) → First Never Never t → stopped t.cells c c ≡ false
      unfolding passes_wall
      open_way t p = rw (p.sound.same c, free, eq-eqb (c / 10) (c / 10) refl)

      -- the rest of the line, the other side of the wall and the other directions keep it marked
      line_blocks : (t : Sight) → First Never Never t → First Only Never (extended corner_line 1 c t)
      unfolding extended line_marked
      line_blocks t p = go (corner_line c) refl
        where
          go : (l : List ℕ) → corner_line c ≡ l → First Only Never (line_marked 1 0 c l t)
          go [] is-l = absurd (omega (arith, lines.begun c c-in, ap length is-l))
          go (n ∷ ns) is-l =
              let n-is : n ≡ c = ap (λ (l : List ℕ). get_or l 0 0) (sym is-l) ∙ lines.begins c c-in in
              let frees : Each (Free goal walls) (n ∷ ns) =
              subst (Each (Free goal walls)) is-l (λ i k. (lines.inside c c-in i k, lines.past c c-in (hides_not_goal c h) i k)) in
              subst (λ (m : ℕ). First Only Never (line_marked 1 0 c (m ∷ ns) t)) (sym n-is)
              (rw (open_way t p)
              (kept_line (first_keeps Only Never) ns 1 c (marked (1 + 1 + 0) c t) (mark_blocks t p)
              (λ i k. frees (suc i) (omega arith))
              (omega (arith, lines.short c c-in, ap length is-l))))

      abbrev try : CompassDir → Sight → Sight
      try side t = side_tried corner_line 1 goal (index_of h.wall_cell) side t

      side_blocks : (t : Sight) → First Never Never t → First Only Never (try (opposite h.way) t)
      unfolding side_tried
      side_blocks t p =
          let beside-goal : wall_at t.cells (index_of h.free_cell) ≡ false = p.sound.same (index_of h.free_cell) ∙ h.found.beside_free in
          let beside_wall : wall_at t.cells (index_of (cell_at c)) ≡ false = p.sound.same (index_of (cell_at c)) ∙ ap walls (index_of_cell c) ∙ free in
          rw (sees_free, sees_this, beside-goal, beside_wall, index_of_cell c) (line_blocks t p)

      -- the goal's way to the wall
      abbrev ahead : CompassDir
      ahead = opposite h.side

      is_ahead : is_side ahead ≡ true
      is_ahead = side_opposite h.side (side_side c h)

      keeps_side : (Kept : ℕ → Type 0) (side : CompassDir) (t : Sight) → Sideways ahead side → First Kept Never t → First Kept Never (try side t)
      keeps_side Kept = kept_side (first_keeps Kept Never) goal ahead h.wall_cell refl is_ahead sees_wall h.found.wall

      -- both sides of the wall are tried, the lower one first, and that of c is one of them
      wall_blocks : (t : Sight) → First Never Never t → First Only Never (wall_met corner_line 1 goal (index_of h.wall_cell) ahead t)
      unfolding wall_met
      wall_blocks t p =
          let lower = lower_side ahead in
          ⊎_elim
          (λ (first : opposite h.way ≡ lower).
          keeps_side Only (opposite lower) (try lower t) (inr refl) (subst (λ (side : CompassDir). First Only Never (try side t)) first (side_blocks t p)))
          (λ (second : opposite h.way ≡ opposite lower).
          subst (λ (side : CompassDir). First Only Never (try side (try lower t))) second
          (side_blocks (try lower t) (keeps_side Never lower t (inl refl) p)))
          (sideways_back h.way h.side h.is_side_law h.found.sideways)

      spread_blocks : (t : Sight) → First Never Never t → First Only Never (spread ahead t)
      unfolding spread_to
      spread_blocks t p =
          rw (sees_wall, p.sound.at_wall (index_of h.wall_cell) (index_below h.wall_cell wall_inside) h.found.wall) (wall_blocks t p)

      pub first_blocks : (s : Sight) → First Never Never s → is_blocked (get_or (spread_around corner_line 1 goal orthogonal s).cells c 0) ≡ true
      first_blocks s p = (around Only Never ahead is_ahead spread_blocks s p).stays c c-in refl
