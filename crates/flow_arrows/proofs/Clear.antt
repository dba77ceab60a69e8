-- Arrows pass no wall diagonally, in every sector (02, "Job 7").
-- A look comes to no direction, or to that of a cell that it sees, and it passes over whatever the diagonal rule bars. Goals, cells in sight and
-- walls have no direction. The arrow of a window cell goes over the edge that the window lies on, so that it leads to no cell of the sector.
--     walls_told      the walls of the built field are those of document 01
--     passes_told     and the diagonal rule on it is document 02's, told by rows and columns
--     cuts_pass       what cuts between two walls passes one
--     window_leaves   the bits of a window cell point out of the sector
--     arrows_clear    every arrow that leads to a cell of the sector is a look's, and so clear of walls
--     target_on       a step's window cells lie on the edge of its boundary
-- Assumes nothing.
use mathlib.Core.Path.{◌≡◌, refl, sym, ap, subst, ◌∙◌}
use mathlib.Core.Bool.{Bool, true, false, true≢false, cond, not, ◌&&◌, ◌||◌, or-true}
use mathlib.Core.Logic.{◌⊎◌, inl, inr, ◌↔◌}
use mathlib.Core.List.Memᴰ
use mathlib.Core.List.{List, Memᴰ}
use Prim.Native.Nat.{ℕ, ◌+◌, ◌-◌, ◌*◌, ◌/◌, ◌%◌, ◌<◌}
use native.Mathlib.Omega.{arith}
use lib.Dec.{leb, eqb}
use lib.Bits.{bit_or}
use lib.ListN.{length, get_or}
use borrow.Author.Tests.{eqb-false}
use Rattle.utilities.specs.declared.CompassDir.{CompassDir}
use Rattle.utilities.specs.declared.CompassDir.TheVariants.{North, East, South, West, NorthEast, SouthEast, SouthWest, NorthWest, Zero}
use Rattle.utilities.specs.Lists.{below}
use Rattle.fields.specs.Cell.{cell_at}
use Rattle.fields.proofs.Steps.{stepped_cell}
use Rattle.route.specs.declared.PortalWindow.{PortalWindow}
use Rattle.route.specs.Window.{stride, on_edge, edge, between, cells_between}
use Rattle.route.specs.Step.{goal_of, first_of, last_of, boundary_of, is_window, window_cells, portal_of}
use Rattle.route.specs.Target.{Target, to_goal, to_window, to_corner, window_of, GoalCell, WindowCell, TargetIn, target_of}
use Rattle.route.proofs.Cells.{by_edge}
use Rattle.route.proofs.Selected.{selected_from}
use Rattle.integration_field.specs.Word.{low, is_los, is_goal, is_portal, is_impassable}
use Rattle.integration_field.specs.Diagonal.{wall_at, passes_wall}
use Rattle.integration_field.specs.Listed.{list_of}
use Rattle.integration_field.specs.Promise.{Walked, LeastWalks}
use Rattle.integration_field.proofs.Flags.{small_flag}
use Rattle.integration_started.specs.Started.{started}
use Rattle.integration_started.proofs.Started.{started_field}
use Rattle.integration_walks.specs.Walks.{Wall}
use Rattle.integration_walks.proofs.Started.{Ground}
use Rattle.integration_walks.proofs.Ground.{among_mem}
use Rattle.integration_walks.proofs.Promise.{started_ground, started_walks}
use Rattle.flow_byte.specs.Look.{Look, Looking, Taken, Ended, looked_byte, look_around, pointed, built_byte, flow_build}
use Rattle.flow_bits.specs.Byte as byte
use Rattle.flow_bits.specs.Byte.{bits_of}
use Rattle.flow_byte.specs.New.{is_in, start_of, facing_bits, facing_value, unless_end, facing_choice, window_bits, new_byte, new_bytes}
use Rattle.flow_arrows.specs.Arrows.{arrow, Away, Cuts, PassesWall, ClearArrows}
use Rattle.flow_arrows.specs.Promise.{built_cells}
use Rattle.flow_arrows.proofs.Fall.{in_among, zero_stays}
use Rattle.flow_arrows.proofs.Around.{Sees, differ}
use Rattle.flow_arrows.proofs.Look.{Toward, Aims, aims}
use Rattle.flow_arrows.proofs.Moves.{away, away_once}
use Rattle.flow_arrows.proofs.Bytes.{side_bits, made_byte, portal_byte}

-- ---- the diagonal rule, by the walls of document 01

pub cuts_pass : {costs : List ℕ} {target : Target} {a b : ℕ} → Cuts costs target a b → PassesWall costs target a b
cuts_pass c = record { other_row = c.other_row; other_column = c.other_column; wall_beside = inl c.wall_in_row }

module _ (costs : List ℕ) (target : Target) (built : List ℕ) (walls : (x : ℕ) → x < 100 → (wall_at built x ≡ true) ↔ Wall costs target x) where
  pub passes_told : (a b : ℕ) → a < 100 → b < 100 → (passes_wall built a b ≡ true) ↔ PassesWall costs target a b
  unfolding passes_wall
  passes_told a b h l = (told (eqb (a / 10) (b / 10)) (eqb (a % 10) (b % 10)) (wall_at built in_row) (wall_at built in_column) refl refl refl refl, bars)
    where
      in_row : ℕ
      in_row = a / 10 * 10 + b % 10

      in_column : ℕ
      in_column = b / 10 * 10 + a % 10

      told : (p q r s : Bool) → eqb (a / 10) (b / 10) ≡ p → eqb (a % 10) (b % 10) ≡ q → wall_at built in_row ≡ r → wall_at built in_column ≡ s
          → ((not p && not q) && (r || s)) ≡ true → PassesWall costs target a b
      told true q r s e f g i t = absurd (true≢false (sym t))
      told false true r s e f g i t = absurd (true≢false (sym t))
      told false false true s e f g i t = record {
        other_row = eqb-false (a / 10) (b / 10) e;
        other_column = eqb-false (a % 10) (b % 10) f;
        wall_beside = inl ((walls in_row (omega arith)).0 g);
      }
      told false false false true e f g i t = record {
        other_row = eqb-false (a / 10) (b / 10) e;
        other_column = eqb-false (a % 10) (b % 10) f;
        wall_beside = inr ((walls in_column (omega arith)).0 i);
      }
      told false false false false e f g i t = absurd (true≢false (sym t))

      either : Wall costs target in_row ⊎ Wall costs target in_column → (wall_at built in_row || wall_at built in_column) ≡ true
      either (inl w) = rw ((walls in_row (omega arith)).1 w)
      either (inr w) = rw ((walls in_column (omega arith)).1 w) (or-true (wall_at built in_row))

      bars : PassesWall costs target a b → passes_wall built a b ≡ true
      bars p = rw (differ (a / 10) (b / 10) p.other_row, differ (a % 10) (b % 10) p.other_column, either p.wall_beside)

-- ---- bytes that have no look

-- a byte with 0x10 or all of 0xE0, and no direction
record Still (b : ℕ) : Type 0 where
  kept : (byte.is_pathable b || byte.is_impassable b) ≡ true
  no_way : b % 16 ≡ 0

-- the first byte of a cell that is no window cell
first_still : (w : ℕ) → (bit_or (start_of w) 0 ≡ 0) ⊎ Still (bit_or (start_of w) 0)
unfolding start_of
first_still w = go (is_goal w) (is_portal w) (is_los w) (is_impassable w)
  where
    of : Bool → Bool → Bool → Bool → ℕ
    of g p l i = bit_or (cond g 0x70 (cond p 0x90 (cond l 0x30 (cond i 0xE0 0)))) 0

    go : (g p l i : Bool) → (of g p l i ≡ 0) ⊎ Still (of g p l i)
    go true p l i = inr (record { kept = refl; no_way = refl })
    go false true l i = inr (record { kept = refl; no_way = refl })
    go false false true i = inr (record { kept = refl; no_way = refl })
    go false false false true = inr (record { kept = refl; no_way = refl })
    go false false false false = inl refl

-- ---- bytes of a look

-- the arrow that a direction is or-ed on as, onto nothing or onto 0xE0
record ArrowOf (d : CompassDir) : Type 0 where
  alone : pointed 0 d % 16 ≡ bits_of d
  ended : pointed 0xE0 d % 16 ≡ bits_of d

arrow_of : (d : CompassDir) → ArrowOf d
unfolding pointed
arrow_of North = record { alone = refl; ended = refl }
arrow_of East = record { alone = refl; ended = refl }
arrow_of South = record { alone = refl; ended = refl }
arrow_of West = record { alone = refl; ended = refl }
arrow_of NorthEast = record { alone = refl; ended = refl }
arrow_of SouthEast = record { alone = refl; ended = refl }
arrow_of SouthWest = record { alone = refl; ended = refl }
arrow_of NorthWest = record { alone = refl; ended = refl }
arrow_of Zero = record { alone = refl; ended = refl }

module _ (cells : List ℕ) (x y : ℕ) (h : x < 100) where
  -- what a look sees in some direction
  abbrev InView : Type 0
  InView = (d : CompassDir) × Sees cells x d y

  toward : (d : CompassDir) → Toward cells x h d → Away (bits_of d) x y → InView
  toward d (inl z) w = absurd (omega (arith, w.somewhere, ap bits_of z))
  toward d (inr (n, s)) w =
      let same = away_once (bits_of d) x y n w (away d x n (stepped_cell (cell_at x) d (cell_at n) s.steps)) in
      (d, subst (Sees cells x d) (sym same) s)

  look_view : (l : Look) → Aims cells x h l → Away (looked_byte 0 l % 16) x y → InView
  look_view (Looking best v) a w = toward best a (rw (arrow_of best).alone at w)
  look_view (Taken d) a w = toward d a (rw (arrow_of d).alone at w)
  look_view (Ended best) a w = toward best a (rw (arrow_of best).ended at w)

-- ---- bytes of window cells

-- no cell of the sector lies where a side's bits, alone or with those along its edge, point from a cell of that edge
module _ (x y : ℕ) (l : y < 100) where
  abbrev Leaves : CompassDir → Type 0
  Leaves side = (a b : Bool) → Away (bit_or 0x90 (side_bits a b side) % 16) x y → ⊥

  north : x / 10 ≡ 0 → Leaves North
  north u true b w = omega (arith, w.rows)
  north u false true w = omega (arith, w.rows)
  north u false false w = omega (arith, w.rows)

  east : x % 10 ≡ 9 → Leaves East
  east u true b w = omega (arith, w.columns)
  east u false true w = omega (arith, w.columns)
  east u false false w = omega (arith, w.columns)

  south : x / 10 ≡ 9 → Leaves South
  south u true b w = omega (arith, w.rows)
  south u false true w = omega (arith, w.rows)
  south u false false w = omega (arith, w.rows)

  west : x % 10 ≡ 0 → Leaves West
  west u true b w = omega (arith, w.columns)
  west u false true w = omega (arith, w.columns)
  west u false false w = omega (arith, w.columns)

  side_leaves : (side : CompassDir) → on_edge side x ≡ true → Leaves side
  side_leaves side on = by_edge Leaves side x on north east south west

  pub window_leaves : (portal : PortalWindow) (has : Bool) (previous : List ℕ) → on_edge portal.boundary x ≡ true
      → Away (bit_or 0x90 (window_bits portal has previous x) % 16) x y → ⊥
  unfolding window_bits facing_choice facing_bits
  window_leaves portal has previous on =
      go (not has || eqb portal.start portal.end) (leb straight lower && leb straight higher) (leb lower straight && leb lower higher)
    where
      side : CompassDir
      side = portal.boundary

      straight : ℕ
      straight = facing_value previous side x

      lower : ℕ
      lower = unless_end (eqb x portal.start) (facing_value previous side (x - stride side))

      higher : ℕ
      higher = unless_end (eqb x portal.end) (facing_value previous side (x + stride side))

      go : (t a b : Bool) → Away (bit_or 0x90 (cond t (bits_of side) (side_bits a b side)) % 16) x y → ⊥
      go true a b = side_leaves side on true b
      go false a b = side_leaves side on a b

-- ---- a sector, started and built

-- the window cells of a target lie on the edge of a window's boundary
abbrev pub OnEdge : PortalWindow → Target → Type 0
OnEdge portal target = (x : ℕ) → WindowCell target x → on_edge portal.boundary x ≡ true

-- a window cell's built word
portal_word : (costs : List ℕ) (target : Target) → length costs ≡ 100 → TargetIn target → (x : ℕ) → is_in x (window_of target) ≡ true
    → get_or (built_cells costs target) x 0 ≡ 0x80000
portal_word costs (to_goal goal) full inside x e = absurd (true≢false (sym e))
portal_word costs (to_corner goal) full inside x e = absurd (true≢false (sym e))
portal_word costs (to_window window) full inside x e =
    let was = (started_field costs full (to_window window) inside).cells_are.portal_cell x (in_among x window e) in
    zero_stays (started_walks costs (to_window window) full inside) x (ap low was) ∙ was

module _ (costs : List ℕ) (target : Target) (full : length costs ≡ 100) (inside : TargetIn target) where
  abbrev cells : List ℕ
  cells = (started costs target).field

  abbrev corners : List ℕ
  corners = list_of (started costs target)

  abbrev built : List ℕ
  built = built_cells costs target

  least : LeastWalks costs cells corners built
  least = started_walks costs target full inside

  ground : Ground costs cells corners (Wall costs target) (GoalCell target)
  ground = started_ground costs target full inside

  pub walls_told : (x : ℕ) → x < 100 → (wall_at built x ≡ true) ↔ Wall costs target x
  walls_told x h = (λ t. go t (least.attained x), λ w. let f = ground.wall_flag x w in ap is_impassable (least.walls_stay x f) ∙ f)
    where
      go : wall_at built x ≡ true → (get_or built x 0 ≡ get_or cells x 0) ⊎ Walked costs cells corners x (get_or built x 0) → Wall costs target x
      go t (inl e) = ground.flag_wall x h (sym (ap is_impassable e) ∙ t)
      go t (inr w) = absurd (true≢false (sym t ∙ small_flag (get_or built x 0) 25 (omega (arith, w.lower))))

  module _ (portal : PortalWindow) (on : OnEdge portal target) (has : Bool) (previous : List ℕ) where
    abbrev window : List ℕ
    window = window_of target

    abbrev bytes : List ℕ
    bytes = flow_build built (new_bytes portal window built has previous)

    window_byte : (x : ℕ) → x < 100 → is_in x window ≡ true → get_or bytes x 0 ≡ bit_or 0x90 (window_bits portal has previous x)
    window_byte x h e = portal_byte portal window built has previous x h e (portal_word costs target full inside x e)

    other_byte : (x : ℕ) → x < 100 → is_in x window ≡ false → get_or bytes x 0 ≡ built_byte built x (bit_or (start_of (get_or built x 0)) 0)
    unfolding new_byte
    other_byte x h e = made_byte portal window built has previous x h ∙ rw e

    -- an arrow that leads to a cell of the sector is a look's, which sees that cell
    in_view : (x y : ℕ) (h : x < 100) → y < 100 → Away (arrow bytes x) x y → InView built x y h
    unfolding built_byte
    in_view x y h l w = go (is_in x window) refl
      where
        first : ℕ
        first = bit_or (start_of (get_or built x 0)) 0

        looks : is_in x window ≡ false → (first ≡ 0) ⊎ Still first → InView built x y h
        looks e (inl z) =
            let b : get_or bytes x 0 ≡ looked_byte 0 (look_around built x) = other_byte x h e ∙ ap (built_byte built x) z in
            look_view built x y h (look_around built x) (aims built x h) (subst (λ (n : ℕ). Away (n % 16) x y) b w)
        looks e (inr s) =
            let b : get_or bytes x 0 ≡ first = other_byte x h e ∙ rw s.kept in
            absurd (omega (arith, w.somewhere, ap (λ (n : ℕ). n % 16) b, s.no_way))

        go : (b : Bool) → is_in x window ≡ b → InView built x y h
        go true e =
            absurd (window_leaves x y l portal has previous (on x (among_mem x window (in_among x window e)))
            (subst (λ (n : ℕ). Away (n % 16) x y) (window_byte x h e) w))
        go false e = looks e (first_still (get_or built x 0))

    pub arrows_clear : ClearArrows costs target bytes
    arrows_clear = record {
      past_no_wall = λ x y h l w p.
          (let seen = (in_view x y h l w).1 in true≢false (sym ((passes_told costs target built walls_told x y h l).1 p) ∙ seen.open_way));
      onto_no_wall = λ x y h l w p. (let seen = (in_view x y h l w).1 in true≢false (sym ((walls_told y l).1 p) ∙ seen.no_wall));
    }

-- ---- a step's window

pub window_on : (step : List ℕ) (x : ℕ) → Memᴰ x (window_cells step) → on_edge (boundary_of step) x ≡ true
unfolding cells_between edge
window_on step x m =
    let side = boundary_of step in
    let e = (selected_from (between (first_of step) (last_of step)) (edge side) x m).0 in
    (selected_from (on_edge side) (below 100) x e).1

pub target_on : (step : List ℕ) → OnEdge (portal_of step) (target_of step)
unfolding target_of
target_on step x = go (is_window step)
  where
    go : (b : Bool) → WindowCell (cond b (to_window (window_cells step)) (to_goal (goal_of step))) x → on_edge (boundary_of step) x ≡ true
    go true m = window_on step x m
    go false m = absurd (Memᴰ.not-nil m)
