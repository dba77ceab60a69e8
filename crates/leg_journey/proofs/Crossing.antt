-- From a counting cell the arrow crosses the window into a reached cell of the sector before.
-- The cell's bits are those of the least of the values that it compares. One of them is below 65535, so the least is: what an end cell does not
-- see (65536) is never chosen, and the cell that the bits stand for is reached. That cell lies one row or column on, over the boundary, and along
-- it where the bits say so: the sector's column and row on the floor change with the boundary, and the cell's go round from 9 to 0 or back.
--     beyond                     the cell that faces a cell of the edge lies one place on from it, over the boundary, whichever the side
--     lands                      so bits that lead along the edge to a cell, and over it, lead to the cell that faces it
--     straight, lower, higher    the bits of a side, alone or with those along its edge, are such bits
--     chosen                     which of the compared values a cell's bits stand for
--     crossing                   both together
-- Assumes nothing.
use mathlib.Core.Path.{◌≡◌, refl, sym, ap, ◌∙◌}
use mathlib.Core.Bool.{Bool, true, false, cond, ◌&&◌}
use mathlib.Core.Logic.{◌⊎◌, inl, inr}
use mathlib.Core.List.{List}
use Prim.Native.Nat.{ℕ, ◌+◌, ◌-◌, ◌/◌, ◌%◌, ◌≤◌, ◌<◌}
use native.Mathlib.Omega.{arith}
use lib.Dec.{leb, eqb}
use borrow.Author.Tests.{eqb-true, eqb-false, eq-eqb, leb-true, leb-false, ltb-true}
use Rattle.utilities.specs.declared.CompassDir.{CompassDir}
use Rattle.utilities.specs.Compass.{differences, rises, falls, opposite, lower_side}
use Rattle.route.specs.Window.{on_edge, stride, facing}
use Rattle.route.specs.Step.{first_of, last_of, boundary_byte, boundary_of, is_window, window_cells, portal_of, step_number}
use Rattle.route.specs.Target.{to_window, WindowCell, StepWindow}
use Rattle.route.proofs.Accepted.{Window, accepted_window}
use Rattle.route.proofs.Cells.{by_edge}
use Rattle.route.proofs.Facing.{facing_in, facing_north, facing_east, facing_south, facing_west}
use Rattle.route.proofs.Targets.{edge_named}
use Rattle.route.proofs.Selected.{selected_from}
use Rattle.sectors.proofs.Floor.{Arrives}
use Rattle.flow_bits.specs.Byte.{bits_of}
use Rattle.flow_byte.specs.New.{facing_bits, facing_value, seen_values, facing_choice, window_bits}
use Rattle.flow_arrows.specs.Arrows.{northward, eastward, southward, westward, Reached}
use Rattle.flow_arrows.proofs.Moves.{is_arrow}
use Rattle.leg_counting.specs.Counting.{counts, counting_cells}
use Rattle.leg_counting.proofs.Told.{seen_inner, one_below, counting_told, one_straight}
use Rattle.leg_journey.specs.Place.{Place, place_of, Points}
use Rattle.leg_journey.proofs.Places.{points}

-- ---- where bits point over a boundary

-- from cell z of a sector's edge to cell y of the next sector: one place on over the boundary, along the axis and in the sense of the side's differences
record Beyond (s t : ℕ) (side : CompassDir) (z y : ℕ) : Type 0 where
  rows : (place_of t y).row + falls (differences side).row ≡ (place_of s z).row + rises (differences side).row
  columns : (place_of t y).column + falls (differences side).column ≡ (place_of s z).column + rises (differences side).column

-- so lies the cell that faces z
beyond : (s t : ℕ) (side : CompassDir) → Arrives s side t → (z : ℕ) → z < 100 → on_edge side z ≡ true → Beyond s t side z (facing side z)
beyond s t side a z h on =
    by_edge (λ d. Arrives s d t → on_edge d z ≡ true → Beyond s t d z (facing d z)) side z on
    (λ u a e. let f = facing_north z h e in record { rows = rw f (omega (arith, a.row_at)); columns = rw f (omega (arith, a.column_at)) })
    (λ u a e. let f = facing_east z h e in record { rows = rw f (omega (arith, a.row_at)); columns = rw f (omega (arith, a.column_at)) })
    (λ u a e. let f = facing_south z h e in record { rows = rw f (omega (arith, a.row_at)); columns = rw f (omega (arith, a.column_at)) })
    (λ u a e. let f = facing_west z h e in record { rows = rw f (omega (arith, a.row_at)); columns = rw f (omega (arith, a.column_at)) })
    a on

-- bits that are the low half of a byte, and point from a place to another
abbrev Lands : ℕ → Place → Place → Type 0
Lands b p q = (b < 16) × Points b p q

-- bits b lead from cell x of sector s to the cell that faces z, if without the side's own difference they lead along the edge from x to z
module _ (s t x : ℕ) {side : CompassDir} (a : Arrives s side t) (b : ℕ) (few : b < 16) (is : is_arrow b ≡ true) (z : ℕ) where
  lands : z < 100 → on_edge side z ≡ true
      → (place_of s z).row + rises (differences side).row + northward b ≡ (place_of s x).row + falls (differences side).row + southward b
      → (place_of s z).column + rises (differences side).column + westward b ≡ (place_of s x).column + falls (differences side).column + eastward b
      → Lands b (place_of s x) (place_of t (facing side z))
  lands h on r c = over (facing_in side z) (beyond s t side a z h on)
    where
      over : {y : ℕ} → y < 100 → Beyond s t side z y → Lands b (place_of s x) (place_of t y)
      over {y} l m = (few, points b s t x y a.arrives_on l is (omega (arith, m.rows, r)) (omega (arith, m.columns, c)))

-- straight, and by the window's cell before x or behind it
module _ (s t x : ℕ) (h : x < 100) (side : CompassDir) (on : on_edge side x ≡ true) (next : Arrives s side t) where
  straight : Lands (bits_of side) (place_of s x) (place_of t (facing side x))
  straight =
      by_edge (λ d. Arrives s d t → on_edge d x ≡ true → Lands (bits_of d) (place_of s x) (place_of t (facing d x))) side x on
      (λ u a e. lands s t x a 1 (omega arith) refl x h e (omega arith) (omega arith))
      (λ u a e. lands s t x a 2 (omega arith) refl x h e (omega arith) (omega arith))
      (λ u a e. lands s t x a 4 (omega arith) refl x h e (omega arith) (omega arith))
      (λ u a e. lands s t x a 8 (omega arith) refl x h e (omega arith) (omega arith))
      next on

  -- one cell of the edge back, where there is one before x
  abbrev ByLower : CompassDir → Type 0
  ByLower d = Lands (bits_of d + bits_of (lower_side d)) (place_of s x) (place_of t (facing d (x - stride d)))

  lower : (f : ℕ) → on_edge side f ≡ true → f < x → ByLower side
  unfolding on_edge
  lower f p k =
      by_edge (λ d. on_edge d f ≡ true → Arrives s d t → ByLower d) side x on
      (λ u e a. let v = eqb-true (f / 10) 0 e in
      lands s t x a 9 (omega arith) refl (x - 1) (omega arith) (eq-eqb ((x - 1) / 10) 0 (omega arith)) (omega arith) (omega arith))
      (λ u e a. let v = eqb-true (f % 10) 9 e in
      lands s t x a 3 (omega arith) refl (x - 10) (omega arith) (eq-eqb ((x - 10) % 10) 9 (omega arith)) (omega arith) (omega arith))
      (λ u e a. let v = eqb-true (f / 10) 9 e in
      lands s t x a 12 (omega arith) refl (x - 1) (omega arith) (eq-eqb ((x - 1) / 10) 9 (omega arith)) (omega arith) (omega arith))
      (λ u e a. let v = eqb-true (f % 10) 0 e in
      lands s t x a 9 (omega arith) refl (x - 10) (omega arith) (eq-eqb ((x - 10) % 10) 0 (omega arith)) (omega arith) (omega arith))
      p next

  -- one on, where there is one behind x
  abbrev ByHigher : CompassDir → Type 0
  ByHigher d = Lands (bits_of d + bits_of (opposite (lower_side d))) (place_of s x) (place_of t (facing d (x + stride d)))

  higher : (f : ℕ) → f < 100 → on_edge side f ≡ true → x < f → ByHigher side
  unfolding on_edge
  higher f j p k =
      by_edge (λ d. on_edge d f ≡ true → Arrives s d t → ByHigher d) side x on
      (λ u e a. let v = eqb-true (f / 10) 0 e in
      lands s t x a 3 (omega arith) refl (x + 1) (omega arith) (eq-eqb ((x + 1) / 10) 0 (omega arith)) (omega arith) (omega arith))
      (λ u e a. let v = eqb-true (f % 10) 9 e in
      lands s t x a 6 (omega arith) refl (x + 10) (omega arith) (eq-eqb ((x + 10) % 10) 9 (omega arith)) (omega arith) (omega arith))
      (λ u e a. let v = eqb-true (f / 10) 9 e in
      lands s t x a 6 (omega arith) refl (x + 1) (omega arith) (eq-eqb ((x + 1) / 10) 9 (omega arith)) (omega arith) (omega arith))
      (λ u e a. let v = eqb-true (f % 10) 0 e in
      lands s t x a 12 (omega arith) refl (x + 10) (omega arith) (eq-eqb ((x + 10) % 10) 0 (omega arith)) (omega arith) (omega arith))
      p next

-- ---- the least of the compared values

-- which of them the bits stand for, and that it is below 65535
data Chosen (side : CompassDir) (l s h b : ℕ) : Type 0 where
  by_straight : b ≡ bits_of side → s < 65535 → Chosen side l s h b
  by_lower : b ≡ bits_of side + bits_of (lower_side side) → l < 65535 → Chosen side l s h b
  by_higher : b ≡ bits_of side + bits_of (opposite (lower_side side)) → h < 65535 → Chosen side l s h b

chosen : (side : CompassDir) (l s h : ℕ) → (s < 65535) ⊎ ((l < 65535) ⊎ (h < 65535)) → Chosen side l s h (facing_bits side l s h)
unfolding facing_bits
chosen side l s h some = go (leb s l) (leb s h) (leb l s) (leb l h) refl refl refl refl
  where
    -- what is not above the others is below 65535
    least : {n : ℕ} → n ≤ s → n ≤ l → n ≤ h → (s < 65535) ⊎ ((l < 65535) ⊎ (h < 65535)) → n < 65535
    least a b c (inl v) = omega arith
    least a b c (inr (inl v)) = omega arith
    least a b c (inr (inr v)) = omega arith

    go : (p q u v : Bool) → leb s l ≡ p → leb s h ≡ q → leb l s ≡ u → leb l h ≡ v
        → Chosen side l s h (cond (p && q) (bits_of side)
        (cond (u && v) (bits_of side + bits_of (lower_side side)) (bits_of side + bits_of (opposite (lower_side side)))))
    go true true u v a b c d = by_straight refl (least (omega arith) (leb-true s l a) (leb-true s h b) some)
    go true false true true a b c d = by_lower refl (least (leb-true l s c) (omega arith) (leb-true l h d) some)
    go true false true false a b c d = by_higher refl (least (omega (arith, leb-false s h b)) (omega (arith, leb-false l h d)) (omega arith) some)
    go true false false v a b c d = let e = leb-false s h b in let f = leb-true s l a in by_higher refl (least (omega arith) (omega arith) (omega arith) some)
    go false q true true a b c d = by_lower refl (least (leb-true l s c) (omega arith) (leb-true l h d) some)
    go false q true false a b c d = let e = leb-false l h d in let f = leb-false s l a in by_higher refl (least (omega arith) (omega arith) (omega arith) some)
    go false q false v a b c d = let e = leb-false l s c in let f = leb-false s l a in absurd (omega arith)

-- ---- a counting cell

-- what its bits b come to, from cell x of sector s into sector t: a reached cell there
pub record Landing (previous : List ℕ) (s t x b : ℕ) : Type 0 where
  pub cell : ℕ
  pub inside : cell < 100
  pub reached : Reached previous cell
  pub lands : Lands b (place_of s x) (place_of t cell)

-- of a step of sector s that is not refused, whose boundary leads into sector t
module _ (step previous : List ℕ) (good : step_number step ≡ 0) (on : is_window step ≡ true) (s t : ℕ) (next : Arrives s (boundary_of step) t)
    (x : ℕ) (m : WindowCell (to_window (counting_cells previous step)) x) where
  abbrev side : CompassDir
  side = boundary_of step

  w : Window step
  w = accepted_window step good on

  c : StepWindow step x
  c = ((counting_told step previous good on x).0 m).window

  on_side : on_edge side x ≡ true
  on_side = edge_named (boundary_byte step) x c.is_on_edge

  it_counts : counts (portal_of step) previous x ≡ true
  unfolding counting_cells
  it_counts = (selected_from (counts (portal_of step) previous) (window_cells step) x m).1

  into : {b : ℕ} (z : ℕ) → facing_value previous side z < 65535 → Lands b (place_of s x) (place_of t (facing side z)) → Landing previous s t x b
  into z v l = record { cell = facing side z; inside = facing_in side z; reached = v; lands = l }

  ahead : Lands (bits_of side) (place_of s x) (place_of t (facing side x))
  ahead = straight s t x c.inside side on_side next

  -- a window of more than one cell
  facing_crosses : Landing previous s t x (facing_choice (portal_of step) previous x)
  unfolding facing_choice counts
  facing_crosses = go (chosen side _ _ _ (one_below _ _ _ it_counts))
    where
      go : {b : ℕ} → let seen = seen_values (portal_of step) previous x in Chosen side seen.lower seen.straight seen.higher b → Landing previous s t x b
      go (by_straight e v) = into x v (rw e ahead)
      go (by_lower e v) =
          let off : eqb x (first_of step) ≡ false = (seen_inner _ _ v).0 in
          let k : first_of step < x = omega (arith, c.from, eqb-false x (first_of step) off) in
          into (x - stride side) (seen_inner _ _ v).1 (rw e (lower s t x c.inside side on_side next (first_of step) w.first_on k))
      go (by_higher e v) =
          let off : eqb x (last_of step) ≡ false = (seen_inner _ _ v).0 in
          let k : x < last_of step = omega (arith, c.to, eqb-false x (last_of step) off) in
          into (x + stride side) (seen_inner _ _ v).1 (rw e (higher s t x c.inside side on_side next (last_of step) w.last_in w.last_on k))

  pub crossing : Landing previous s t x (window_bits (portal_of step) true previous x)
  unfolding window_bits
  crossing = go (eqb (first_of step) (last_of step)) refl
    where
      go : (b : Bool) → eqb (first_of step) (last_of step) ≡ b → Landing previous s t x (cond b (bits_of side) (facing_choice (portal_of step) previous x))
      go true e =
          let one = eqb-true (first_of step) (last_of step) e in
          let first : x ≡ first_of step = omega (arith, c.from, c.to) in
          let told = sym (one_straight step previous one) ∙ ap (counts (portal_of step) previous) (sym first) ∙ it_counts in
          into x (ltb-true (facing_value previous side x) 65535 (rw first told)) ahead
      go false e = facing_crosses
