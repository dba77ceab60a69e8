-- What is promised of bounds and of sure cells, of the definitions.
--     cost_bounds, sure_marks      all that is promised, for two floors with a from-to in each cell and a target that is a window
--     portals                      the window cells of a built field are those flagged as portals
-- Assumes nothing.
use mathlib.Core.Path.{◌≡◌, sym, subst, ◌∙◌}
use mathlib.Core.Bool.{Bool, true, false, true≢false}
use mathlib.Core.List.{List}
use mathlib.Core.Logic.{◌↔◌}
use Prim.Native.Nat.{ℕ, ◌≤◌, ◌<◌}
use native.Mathlib.Omega.{arith}
use lib.ListN.{length, get_or}
use Rattle.fields.specs.Cell.{cell_at}
use Rattle.fields.proofs.Steps.{stepped_cell}
use Rattle.route.specs.declared.PortalWindow.{PortalWindow}
use Rattle.route.specs.Target.{Target, to_goal, to_window, to_corner, window_of, by_window, TargetIn, WindowIn}
use Rattle.integration_field.specs.declared.IntegrationField.{IntegrationField}
use Rattle.integration_field.specs.Word.{is_portal}
use Rattle.integration_field.specs.Listed.{list_of}
use Rattle.integration_field.proofs.Flags.{small_flag}
use Rattle.integration_started.specs.Started.{started}
use Rattle.integration_walks.proofs.Ground.{among_mem, mem_among}
use Rattle.flow_bits.specs.Byte.{bits_of}
use Rattle.flow_byte.specs.New.{is_in, new_bytes}
use Rattle.flow_byte.specs.Look.{flow_build}
use Rattle.flow_arrows.specs.Arrows.{built_cost, arrow, Away}
use Rattle.flow_arrows.specs.Promise.{built_cells}
use Rattle.flow_arrows.proofs.Fall.{Sector, by_kind}
use Rattle.flow_arrows.proofs.Around.{near_in}
use Rattle.utilities.proofs.Lists.{table_at}
use Rattle.flow_arrows.proofs.Bytes.{pointed_is}
use Rattle.flow_arrows.proofs.Moves.{away, away_bits}
use Rattle.flow_arrows.proofs.CellBytes.{window_sector}
use Rattle.bounds_told.specs.Bounds.{costs_on, is_sure, sure_on}
use Rattle.bounds_told.specs.Promise.{FloorBetween, CostBounds, SureCell, SureArrow, SureMarks}
use Rattle.bounds_told.proofs.Floors.{started_same, not_dearer, reached_too, portal_known}
use Rattle.bounds_told.proofs.Places.{permitted_told}
use Rattle.bounds_told.proofs.Marks.{true_wall, wall_true, sure_told, same_sure}
use Rattle.bounds_told.proofs.Sure.{points_at, Within, Chosen, chosen}

-- two floors of bytes with a from-to in each cell
pub record Ranged (low high : List ℕ) : Type 0 where
  pub low_full : length low ≡ 100
  pub high_full : length high ≡ 100
  pub ordered : (x : ℕ) → x < 100 → get_or low x 0 ≤ get_or high x 0
  pub one_wall : (x : ℕ) → x < 100 → get_or high x 0 ≡ 255 → get_or low x 0 ≡ 255
  pub byte : (x : ℕ) → x < 100 → get_or high x 0 ≤ 255

module _ (low high window : List ℕ) (r : Ranged low high) (window_in : WindowIn window) where
  abbrev target : Target
  target = to_window window

  abbrev least : List ℕ
  least = costs_on low target

  abbrev greatest : List ℕ
  greatest = costs_on high target

  low_between : FloorBetween low high low
  low_between = record { full = r.low_full; not_below = λ x h. omega arith; not_above = λ x h. omega (arith, r.ordered x h, r.byte x h) }

  high_between : FloorBetween low high high
  high_between = record { full = r.high_full; not_below = λ x h. omega (arith, r.ordered x h); not_above = λ x h. omega (arith, r.byte x h) }

  -- ---- a floor between

  module _ (costs : List ℕ) (b : FloorBetween low high costs) where
    -- it has the low floor's walls
    wall_low : (x : ℕ) → x < 100 → get_or costs x 0 ≡ 255 → get_or low x 0 ≡ 255
    wall_low x h e = r.one_wall x h (omega (arith, b.not_above x h, r.byte x h))

    wall_here : (x : ℕ) → x < 100 → get_or low x 0 ≡ 255 → get_or costs x 0 ≡ 255
    wall_here x h e = omega (arith, b.not_below x h, b.not_above x h, r.byte x h)

    -- so that it starts the same field
    sector_on : Sector costs window (started low target).field (list_of (started low target)) (built_cells costs target)
    sector_on =
        subst (λ (f : IntegrationField). Sector costs window f.field (list_of f) (built_cells costs target))
        (started_same costs low b.full r.low_full wall_low wall_here window)
        (window_sector costs window b.full window_in (λ x h. omega (arith, b.not_above x h, r.byte x h)))

  sector_low : Sector low window (started low target).field (list_of (started low target)) (built_cells low target)
  sector_low = sector_on low low_between

  -- ---- the bounds

  least_at : (x : ℕ) → x < 100 → get_or least x 0 ≡ built_cost (built_cells low target) x
  least_at x h = table_at (built_cost (built_cells low target)) 0 100 x h

  greatest_at : (x : ℕ) → x < 100 → get_or greatest x 0 ≡ built_cost (built_cells high target) x
  greatest_at x h = table_at (built_cost (built_cells high target)) 0 100 x h

  within : (costs : List ℕ) (b : FloorBetween low high costs) → Within least greatest (sector_on costs b)
  within costs b = record {
    from = λ x h. rw (least_at x h) (not_dearer low costs _ _ b.not_below _ _ sector_low.least (sector_on costs b).least x);
    to = λ x h. rw (greatest_at x h) (not_dearer costs high _ _ b.not_above _ _ (sector_on costs b).least (sector_on high high_between).least x);
  }

  bounded : CostBounds low high target least greatest
  bounded = record {
    within = λ costs b x h. (let w = within costs b in (w.from x h, w.to x h));
    low_between = low_between;
    least_met = λ x h. sym (least_at x h);
    high_between = high_between;
    greatest_met = λ x h. sym (greatest_at x h);
    reached_all = λ costs other b c x h v. reached_too (sector_on costs b) (sector_on other c) x h v;
  }

  -- ---- sure cells

  sure_at : (x : ℕ) → x < 100 → get_or (sure_on low high target) x false ≡ is_sure (built_cells low target) window least greatest x
  sure_at x h = table_at (is_sure (built_cells low target) window least greatest) false 100 x h

  abbrev SureLow : ℕ → Type 0
  SureLow x = SureCell (built_cells low target) target least greatest low x

  exact : (costs : List ℕ) → FloorBetween low high costs → (x : ℕ) → x < 100
      → (get_or (sure_on low high target) x false ≡ true) ↔ SureCell (built_cells costs target) target least greatest costs x
  exact costs b x h =
      let t = sure_told sector_low x h least greatest in (
        λ e. same_sure sector_low (sector_on costs b) least greatest x h (t.0 (sym (sure_at x h) ∙ e)),
        λ c. sure_at x h ∙ t.1 (same_sure (sector_on costs b) sector_low least greatest x h c),
      )

  module _ (portal : PortalWindow) where
    abbrev bytes_on : List ℕ → Bool → List ℕ → List ℕ
    bytes_on costs has previous = flow_build (built_cells costs target) (new_bytes portal window (built_cells costs target) has previous)

    -- on a floor between, the arrow points at the neighbour that is chosen on the low one
    points : (x : ℕ) (h : x < 100) → SureLow x → (k : Chosen sector_low least greatest x h)
        → (costs : List ℕ) (b : FloorBetween low high costs) (has : Bool) (previous : List ℕ) → Away (arrow (bytes_on costs has previous) x) x k.neighbour
    points x h c k costs b has previous =
        let s = sector_on costs b in
        by_kind s x h
        (λ a e. absurd (c.no_window (among_mem x window a)))
        (λ w a e. absurd (c.no_wall (record { impassable = wall_low costs b x h w; not_goal = λ g. g; not_window = λ m. a (mem_among x window m) })))
        (λ p l.
        let no_wall = small_flag (get_or (built_cells costs target) x 0) 25 (omega arith) in
        points_at s x h portal has previous p l k.neighbour (k.looks s (within costs b) no_wall))

    sure_arrow : (x : ℕ) → x < 100 → SureLow x → SureArrow low high target bytes_on least greatest x
    sure_arrow x h c =
        let k = chosen sector_low least greatest x h c.neighbour c.by in
        let d = k.direction in
        let a = stepped_cell (cell_at x) d (cell_at k.neighbour) k.sees.steps in
        let few : bits_of d < 16 = omega (arith, (pointed_is d a.pointing).arrow_is) in
        record {
          neighbour = k.neighbour;
          inside = near_in k.sees.to;
          by = k.by;
          way = bits_of d;
          away = away d x k.neighbour a;
          same = λ costs b has previous.
              away_bits (arrow (bytes_on costs has previous) x) (bits_of d) x k.neighbour (omega arith) few (points x h c k costs b has previous)
              (away d x k.neighbour a);
        }

    marks : SureMarks low high target bytes_on least greatest (sure_on low high target)
    marks = record {
      exact = exact;
      arrows = λ x h e. sure_arrow x h ((sure_told sector_low x h least greatest).0 (sym (sure_at x h) ∙ e));
      places = λ costs b x h n.
          (let s = sector_on costs b in
          permitted_told costs target (built_cells costs target) (λ y l. (true_wall s y l, wall_true s y l)) x h n);
    }

-- ---- for a target that is a window

pub cost_bounds : (low high : List ℕ) (target : Target) → Ranged low high → TargetIn target → by_window target ≡ true
    → CostBounds low high target (costs_on low target) (costs_on high target)
cost_bounds low high (to_goal goal) r i w = absurd (true≢false (sym w))
cost_bounds low high (to_corner goal) r i w = absurd (true≢false (sym w))
cost_bounds low high (to_window window) r i w = bounded low high window r i

pub sure_marks : (low high : List ℕ) (target : Target) → Ranged low high → TargetIn target → by_window target ≡ true → (portal : PortalWindow)
    → SureMarks low high target
    (λ costs has previous. flow_build (built_cells costs target) (new_bytes portal (window_of target) (built_cells costs target) has previous))
    (costs_on low target) (costs_on high target) (sure_on low high target)
sure_marks low high (to_goal goal) r i w portal = absurd (true≢false (sym w))
sure_marks low high (to_corner goal) r i w portal = absurd (true≢false (sym w))
sure_marks low high (to_window window) r i w portal = marks low high window r i portal

-- the window cells are those flagged as portals
pub portals : (costs : List ℕ) (target : Target) → length costs ≡ 100 → TargetIn target → by_window target ≡ true
    → ((x : ℕ) → x < 100 → get_or costs x 0 ≤ 255) → (n : ℕ) → n < 100 → is_portal (get_or (built_cells costs target) n 0) ≡ is_in n (window_of target)
portals costs (to_goal goal) full i w byte n h = absurd (true≢false (sym w))
portals costs (to_corner goal) full i w byte n h = absurd (true≢false (sym w))
portals costs (to_window window) full i w byte n h = portal_known (window_sector costs window full i byte) n h
