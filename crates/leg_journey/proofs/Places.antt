-- Places on the floor.
--     sector_in, cell_in    a sector's cell, by its place
--     on_floor, landed      a sector's cell lies on the floor, and so does where a move leads
--     whole_place           a place of the floor is that of its own sector and cell
--     arrow_is              the arrow of a place is that of its sector's part of the sheet
--     points                an arrow points from a place to another, by its bits
--     inside                a move inside a sector is one on the floor
-- Assumes nothing.
use mathlib.Core.Path.{◌≡◌, sym, ap, ap₂, ◌∙◌}
use mathlib.Core.Bool.{true, ◌&&◌, and-eq-true_iff}
use mathlib.Core.List.{List}
use Prim.Native.Nat.{ℕ, ◌+◌, ◌*◌, ◌/◌, ◌%◌, ◌<◌}
use native.Mathlib.Omega.{arith}
use lib.Dec.{ltb, leb}
use lib.ListN.{get_or, drop}
use lib.Seq.{get_or-take, get_or-drop}
use borrow.Author.Tests.{ltb-true, leb-true}
use Rattle.flow_arrows.specs.Arrows.{arrow, northward, eastward, southward, westward, Away}
use Rattle.flow_arrows.proofs.Moves.{is_arrow}
use Rattle.leg_plan.specs.Leg.{part}
use Rattle.leg_journey.specs.Place.{Place, OnFloor, place_of, the_sector_in, the_cell_in, Points, arrow_at}

module _ (s x : ℕ) (h : x < 100) where
  pub sector_in : the_sector_in (place_of s x) ≡ s
  sector_in = omega arith

  pub cell_in : the_cell_in (place_of s x) ≡ x
  cell_in = omega arith

  pub arrow_is : (sheet : List ℕ) → arrow_at sheet (place_of s x) ≡ arrow (part sheet s) x
  arrow_is sheet =
      ap (λ (i : ℕ). get_or sheet i 0 % 16) (ap₂ (λ (a b : ℕ). a * 100 + b) sector_in cell_in)
      ∙ sym (ap (λ (b : ℕ). b % 16) (get_or-take 100 (drop (s * 100) sheet) x 0 h ∙ get_or-drop (s * 100) sheet x 0))

pub on_floor : (s x : ℕ) → s < 64 → x < 100 → OnFloor (place_of s x)
on_floor s x h l = record { row_on = omega arith; column_on = omega arith }

pub landed : {a : ℕ} {p q : Place} → Points a p q → OnFloor q
landed w = record { row_on = w.row_on; column_on = w.column_on }

abbrev place : ℕ → ℕ → Place
place c r = record { column = c; row = r }

whole_column : (c r : ℕ) → c < 80 → c ≡ (r / 10 * 8 + c / 10) % 8 * 10 + (r % 10 * 10 + c % 10) % 10
whole_column c r h = omega arith

whole_row : (c r : ℕ) → c < 80 → r ≡ (r / 10 * 8 + c / 10) / 8 * 10 + (r % 10 * 10 + c % 10) / 10
whole_row c r h = omega arith

pub whole_place : (p : Place) → OnFloor p → p ≡ place_of (the_sector_in p) (the_cell_in p)
whole_place p on = ap₂ place (whole_column p.column p.row on.column_on) (whole_row p.column p.row on.column_on)

module _ (a s t x y : ℕ) (h : t < 64) (l : y < 100) where
  pub points : is_arrow a ≡ true → (place_of t y).row + northward a ≡ (place_of s x).row + southward a
      → (place_of t y).column + westward a ≡ (place_of s x).column + eastward a → Points a (place_of s x) (place_of t y)
  points e r c =
      let p = (and-eq-true_iff (ltb 0 a && leb (northward a + southward a) 1) (leb (eastward a + westward a) 1)).0 e in
      let q = (and-eq-true_iff (ltb 0 a) (leb (northward a + southward a) 1)).0 p.0 in
      record {
        rows = r;
        columns = c;
        somewhere = ltb-true 0 a q.0;
        not_north_south = leb-true (northward a + southward a) 1 q.1;
        not_east_west = leb-true (eastward a + westward a) 1 p.1;
        row_on = (on_floor t y h l).row_on;
        column_on = (on_floor t y h l).column_on;
      }

-- a move inside a sector is one on the floor
pub inside : {a : ℕ} (s x y : ℕ) → s < 64 → y < 100 → Away a x y → Points a (place_of s x) (place_of s y)
inside s x y h l w = record {
  rows = omega (arith, w.rows);
  columns = omega (arith, w.columns);
  somewhere = w.somewhere;
  not_north_south = w.not_north_south;
  not_east_west = w.not_east_west;
  row_on = (on_floor s y h l).row_on;
  column_on = (on_floor s y h l).column_on;
}
