-- The counting cells of a step that is not refused are those that its bytes, rows and columns say.
--     straight_facing, facing_straight    the cell that faces an edge cell is the one straight across
--     pairs                               two cells of one edge: what is next to what
--     told, so                            a window cell counts exactly if a value that it compares is below 65535
--     counting_told                       the list has the cells that count
--     one_straight                        of a window of one cell, straight alone decides
-- Assumes nothing.
use mathlib.Core.Path.{◌≡◌, refl, sym, subst, ◌∙◌}
use mathlib.Core.Bool.{Bool, true, false, true≢false, ◌||◌}
use mathlib.Core.Logic.{◌⊎◌, inl, inr, ◌↔◌}
use mathlib.Core.List.{List, Memᴰ}
use Prim.Native.Nat.{ℕ, zero, suc, ◌+◌, ◌-◌, ◌/◌, ◌%◌, ◌<◌, ◌≤◌}
use native.Mathlib.Omega.{arith}
use lib.Dec.{eqb, ltb}
use borrow.Author.Tests.{eqb-true, eqb-false, eq-eqb, ne_eqb, ltb-true, ltb-false, lt-ltb}
use Rattle.utilities.specs.declared.CompassDir.{CompassDir}
use Rattle.utilities.specs.declared.CompassDir.TheVariants.{North, East, South, West}
use Rattle.utilities.specs.Compass.{side_of}
use Rattle.route.specs.Window.{select, on_edge, stride, facing}
use Rattle.route.specs.Step.{mark_of, first_of, last_of, boundary_byte, boundary_of, is_window, window_cells, portal_of, step_number}
use Rattle.route.specs.Target.{to_window, WindowCell, StepWindow}
use Rattle.route.proofs.Accepted.{Window, accepted_window}
use Rattle.route.proofs.Cells.{stride_within, by_edge}
use Rattle.route.proofs.Facing.{facing_in, facing_north, facing_east, facing_south, facing_west}
use Rattle.route.proofs.Targets.{target_window, window_told, named_edge, edge_named}
use Rattle.route.proofs.Selected.{selected, selected_from}
use Rattle.flow_byte.specs.New.{facing_value, unless_end, seen_values}
use Rattle.flow_arrows.specs.Arrows.{Reached}
use Rattle.leg_counting.specs.Counting.{counts, counting_cells, StraightAcross, over_north, over_east, over_south, over_west, AtMostNext}
use Rattle.leg_counting.specs.Counting.{CountingCell}

-- ---- the cell that faces an edge cell

straight_facing : (b y : ℕ) → y < 100 → on_edge (side_of b) y ≡ true → StraightAcross b y (facing (side_of b) y)
unfolding on_edge
straight_facing zero y h e = let f = facing_north y h e in over_north refl (omega (arith, f)) (omega (arith, f))
straight_facing (suc zero) y h e = let f = facing_east y h e in over_east refl (omega (arith, f)) (omega (arith, f))
straight_facing (suc (suc zero)) y h e = let f = facing_south y h e in over_south refl (omega (arith, f)) (omega (arith, f))
straight_facing (suc (suc (suc zero))) y h e = let f = facing_west y h e in over_west refl (omega (arith, f)) (omega (arith, f))
straight_facing (suc (suc (suc (suc n)))) y h e = absurd (true≢false (sym e))

facing_straight : (b y z : ℕ) → y < 100 → on_edge (side_of b) y ≡ true → z < 100 → StraightAcross b y z → z ≡ facing (side_of b) y
facing_straight b y z h e k s = go s
  where
    on : (n : ℕ) → b ≡ n → on_edge (side_of n) y ≡ true
    on n q = subst (λ (m : ℕ). on_edge (side_of m) y ≡ true) q e

    go : StraightAcross b y z → z ≡ facing (side_of b) y
    go (over_north q r c) = rw q (omega (arith, facing_north y h (on 0 q), r, c))
    go (over_east q r c) = rw q (omega (arith, facing_east y h (on 1 q), r, c))
    go (over_south q r c) = rw q (omega (arith, facing_south y h (on 2 q), r, c))
    go (over_west q r c) = rw q (omega (arith, facing_west y h (on 3 q), r, c))

-- ---- along an edge

near : {x y : ℕ} → x / 10 ≤ y / 10 + 1 → y / 10 ≤ x / 10 + 1 → x % 10 ≤ y % 10 + 1 → y % 10 ≤ x % 10 + 1 → AtMostNext x y
near a b c d = record { row_up = a; row_down = b; column_left = c; column_right = d }

turned : {x y : ℕ} → AtMostNext x y → AtMostNext y x
turned n = record { row_up = n.row_down; row_down = n.row_up; column_left = n.column_right; column_right = n.column_left }

-- of two cells of one edge: the stride lies between them; and it is all that does exactly if they are next to each other
pub record Ahead (side : CompassDir) (x y : ℕ) : Type 0 where
  pub stride_ahead : x + stride side ≤ y
  pub next_stride : AtMostNext x y → y ≡ x + stride side
  pub stride_next : y ≡ x + stride side → AtMostNext x y
  pub on_after : on_edge side (x + stride side) ≡ true
  pub on_before : on_edge side (y - stride side) ≡ true

module _ (side : CompassDir) (x y : ℕ) (h : y < 100) (l : x < y) where
  along_row : (r : ℕ) → stride side ≡ 1 → ((i : ℕ) → on_edge side i ≡ eqb (i / 10) r) → x / 10 ≡ r → y / 10 ≡ r → Ahead side x y
  along_row r d on u v = record {
    stride_ahead = omega (arith, d);
    next_stride = λ n. omega (arith, d, n.column_right);
    stride_next = λ p. near (omega arith) (omega arith) (omega (arith, d)) (omega (arith, d));
    on_after = on (x + stride side) ∙ eq-eqb ((x + stride side) / 10) r (omega (arith, d));
    on_before = on (y - stride side) ∙ eq-eqb ((y - stride side) / 10) r (omega (arith, d));
  }

  along_column : (c : ℕ) → stride side ≡ 10 → ((i : ℕ) → on_edge side i ≡ eqb (i % 10) c) → x % 10 ≡ c → y % 10 ≡ c → Ahead side x y
  along_column c d on u v = record {
    stride_ahead = omega (arith, d);
    next_stride = λ n. omega (arith, d, n.row_down);
    stride_next = λ p. near (omega (arith, d)) (omega (arith, d)) (omega arith) (omega arith);
    on_after = on (x + stride side) ∙ eq-eqb ((x + stride side) % 10) c (omega (arith, d));
    on_before = on (y - stride side) ∙ eq-eqb ((y - stride side) % 10) c (omega (arith, d));
  }

pairs : (side : CompassDir) (x y : ℕ) → y < 100 → on_edge side x ≡ true → on_edge side y ≡ true → x < y → Ahead side x y
unfolding on_edge
pairs side x y h e f l =
    by_edge (λ s. on_edge s y ≡ true → Ahead s x y) side x e
    (λ u q. along_row North x y h l 0 refl (λ i. refl) u (eqb-true (y / 10) 0 q))
    (λ u q. along_column East x y h l 9 refl (λ i. refl) u (eqb-true (y % 10) 9 q))
    (λ u q. along_row South x y h l 9 refl (λ i. refl) u (eqb-true (y / 10) 9 q))
    (λ u q. along_column West x y h l 0 refl (λ i. refl) u (eqb-true (y % 10) 0 q))
    f

-- ---- what a window cell compares

-- a value that is not an end cell's
pub seen_inner : (end : Bool) (value : ℕ) → unless_end end value < 65535 → (end ≡ false) × (value < 65535)
seen_inner true value h = absurd (omega arith)
seen_inner false value h = (refl, h)

pub one_below : (a b c : ℕ) → (ltb a 65535 || (ltb b 65535 || ltb c 65535)) ≡ true → (a < 65535) ⊎ ((b < 65535) ⊎ (c < 65535))
one_below a b c e = go (ltb a 65535) (ltb b 65535) refl refl e
  where
    go : (p q : Bool) → ltb a 65535 ≡ p → ltb b 65535 ≡ q → (p || (q || ltb c 65535)) ≡ true → (a < 65535) ⊎ ((b < 65535) ⊎ (c < 65535))
    go true q u v e = inl (ltb-true a 65535 u)
    go false true u v e = inr (inl (ltb-true b 65535 v))
    go false false u v e = inr (inr (ltb-true c 65535 e))

below_one : (a b c : ℕ) → (a < 65535) ⊎ ((b < 65535) ⊎ (c < 65535)) → (ltb a 65535 || (ltb b 65535 || ltb c 65535)) ≡ true
below_one a b c (inl h) = rw (lt-ltb a 65535 h)
below_one a b c (inr (inl h)) = rw (lt-ltb b 65535 h) (or_true (ltb a 65535))
  where
    or_true : (p : Bool) → (p || true) ≡ true
    or_true true = refl
    or_true false = refl
below_one a b c (inr (inr h)) = rw (lt-ltb c 65535 h) (or_or_true (ltb a 65535) (ltb b 65535))
  where
    or_or_true : (p q : Bool) → (p || (q || true)) ≡ true
    or_or_true true q = refl
    or_or_true false true = refl
    or_or_true false false = refl

module _ (step previous : List ℕ) (good : step_number step ≡ 0) (on : is_window step ≡ true) where
  abbrev side : CompassDir
  side = boundary_of step

  w : Window step
  w = accepted_window step good on

  on_side : {x : ℕ} → StepWindow step x → on_edge side x ≡ true
  on_side {x} c = edge_named (boundary_byte step) x c.is_on_edge

  -- a cell of the edge between the first and the last is a window cell
  in_window : (mark : mark_of step ≡ 1) (y : ℕ) → y < 100 → on_edge side y ≡ true → first_of step ≤ y → y ≤ last_of step → StepWindow step y
  in_window m y h e f l = record { mark = m; inside = h; is_on_edge = named_edge (boundary_byte step) y e; from = f; to = l }

  -- the cell straight across from a window cell, where its value is below 65535
  by_cell : {x : ℕ} → StepWindow step x → (y : ℕ) → StepWindow step y → AtMostNext x y → facing_value previous side y < 65535 → CountingCell step previous x
  by_cell c y d n v = record {
    window = c;
    by = y;
    is_by_window = d;
    by_next = n;
    across = facing side y;
    inside = facing_in side y;
    straight = straight_facing (boundary_byte step) y d.inside (on_side d);
    reached = v;
  }

  -- a value that a window cell compares is below 65535
  abbrev Seen : ℕ → Type 0
  Seen x =
      let seen = seen_values (portal_of step) previous x in
      (seen.straight < 65535) ⊎ ((seen.lower < 65535) ⊎ (seen.higher < 65535))

  told : (x : ℕ) → StepWindow step x → counts (portal_of step) previous x ≡ true → CountingCell step previous x
  unfolding counts
  told x c e = go (one_below _ _ _ e)
    where
      lower : (eqb x (first_of step) ≡ false) × (facing_value previous side (x - stride side) < 65535) → CountingCell step previous x
      lower s =
          let p = pairs side (first_of step) x c.inside w.first_on (on_side c) (omega (arith, c.from, eqb-false x (first_of step) s.0)) in
          let back : x ≡ x - stride side + stride side = omega (arith, p.stride_ahead) in
          let d = in_window c.mark (x - stride side) (omega (arith, c.inside)) p.on_before (omega (arith, p.stride_ahead)) (omega (arith, c.to)) in
          let q = pairs side (x - stride side) x c.inside p.on_before (on_side c) (omega (arith, p.stride_ahead, (stride_within side).0)) in
          by_cell c (x - stride side) d (turned (q.stride_next back)) s.1

      higher : (eqb x (last_of step) ≡ false) × (facing_value previous side (x + stride side) < 65535) → CountingCell step previous x
      higher s =
          let p = pairs side x (last_of step) w.last_in (on_side c) w.last_on (omega (arith, c.to, eqb-false x (last_of step) s.0)) in
          let inside : x + stride side < 100 = omega (arith, p.stride_ahead, w.last_in) in
          let d = in_window c.mark (x + stride side) inside p.on_after (omega (arith, c.from)) p.stride_ahead in
          let q = pairs side x (x + stride side) d.inside (on_side c) p.on_after (omega (arith, (stride_within side).0)) in
          by_cell c (x + stride side) d (q.stride_next refl) s.1

      go : Seen x → CountingCell step previous x
      go (inl h) = by_cell c x c (near (omega arith) (omega arith) (omega arith) (omega arith)) h
      go (inr (inl h)) = lower (seen_inner _ _ h)
      go (inr (inr h)) = higher (seen_inner _ _ h)

  so : (x : ℕ) → CountingCell step previous x → counts (portal_of step) previous x ≡ true
  unfolding counts
  so x c = below_one _ _ _ (go (ltb y x) (ltb x y) refl refl)
    where
      y : ℕ
      y = c.by

      value : facing_value previous side y < 65535
      value =
          let w = c.is_by_window in
          subst (Reached previous) (facing_straight (boundary_byte step) y c.across w.inside (on_side w) c.inside c.straight) c.reached

      go : (p q : Bool) → ltb y x ≡ p → ltb x y ≡ q → Seen x
      go true q u v =
          let l = ltb-true y x u in
          let p = pairs side y x c.window.inside (on_side c.is_by_window) (on_side c.window) l in
          let z : x - stride side ≡ y = omega (arith, p.next_stride (turned c.by_next)) in
          inr (inl (rw (ne_eqb x (first_of step) (λ e. omega (arith, c.is_by_window.from)), z) value))
      go false true u v =
          let l = ltb-true x y v in
          let p = pairs side x y c.is_by_window.inside (on_side c.window) (on_side c.is_by_window) l in
          let z : x + stride side ≡ y = omega (arith, p.next_stride c.by_next) in
          inr (inr (rw (ne_eqb x (last_of step) (λ e. omega (arith, c.is_by_window.to)), z) value))
      go false false u v =
          let z : y ≡ x = omega (arith, ltb-false y x u, ltb-false x y v) in
          inl (subst (λ (n : ℕ). facing_value previous side n < 65535) z value)

  pub counting_told : (x : ℕ) → WindowCell (to_window (counting_cells previous step)) x ↔ CountingCell step previous x
  unfolding counting_cells
  counting_told x = (λ m. there (selected_from (counts (portal_of step) previous) (window_cells step) x m), back)
    where
      window : Memᴰ x (window_cells step) ↔ StepWindow step x
      window = subst (λ t. WindowCell t x ↔ StepWindow step x) (target_window step on) (window_told step good x)

      there : Memᴰ x (window_cells step) × (counts (portal_of step) previous x ≡ true) → CountingCell step previous x
      there p = told x (window.0 p.0) p.1

      back : CountingCell step previous x → Memᴰ x (select (counts (portal_of step) previous) (window_cells step))
      back c = selected (counts (portal_of step) previous) (window_cells step) x (window.1 c.window) (so x c)

-- of a window of one cell, straight alone decides: both sides count as above every value
pub one_straight : (step previous : List ℕ) → first_of step ≡ last_of step
    → counts (portal_of step) previous (first_of step) ≡ ltb (facing_value previous (boundary_of step) (first_of step)) 65535
unfolding counts
one_straight step previous e =
    rw (eq-eqb (first_of step) (last_of step) e, eq-eqb (first_of step) (first_of step) refl)
    (or_none (ltb (facing_value previous (boundary_of step) (first_of step)) 65535))
  where
    or_none : (b : Bool) → (b || false) ≡ b
    or_none true = refl
    or_none false = refl
