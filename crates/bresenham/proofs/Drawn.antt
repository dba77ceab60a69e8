-- Lines that are drawn as indexes.
--     walk_drawn      a walk whose cells are all written is drawn
--     drawn_list      the listed indexes are those of its cells
--     drawn_full      there are ten places still
--     drawn_answer    the cells of these indexes are the line's again, where it stays in the sector
--     walk_inside     as a walk does
-- Assumes nothing.
use mathlib.Core.Path.{◌≡◌, refl, sym, ap, ap₂, ◌∙◌}
use mathlib.Core.Bool.{Bool, true, false}
use mathlib.Core.List.{List, [], ◌∷◌, ◌++◌, map, map-append, reverse, reverse-cons}
use Rattle.std.specs.Prelude.{Ok}
use Prim.Native.Nat.{ℕ, zero, suc, ◌+◌, ◌-◌, ◌<◌, ◌≤◌}
use native.Mathlib.Omega.{arith}
use lib.ListN.{length, get_or, take, replicate, length-map, length-append, length-replicate, length-reverse}
use lib.Seq.{take_at}
use Rattle.utilities.specs.Padded.{padded}
use Rattle.fields.specs.declared.FieldCell.{FieldCell}
use Rattle.fields.specs.declared.CellList.{CellList}
use Rattle.fields.specs.CellList.{held}
use Rattle.fields.specs.Cell.{cell, Inside, index_of, cell_at}
use Rattle.fields.proofs.Steps.{cell_of_index}
use Rattle.line_nearest.specs.Table.{table}
use Rattle.line_nearest.specs.Line.{cell_on_axes, minor_at, walk_at, walk_cells, answered}
use Rattle.line_nearest.proofs.Lists.{length_table, get_d_table}
use Rattle.line_nearest.proofs.Offset.{minor_between}
use Rattle.bresenham.specs.Inner.{major_of, minor_of, listed, DrawnIn, told_line}
use Rattle.bresenham.proofs.Places.{written, all_written}

module _ {A B : Type 0} (g : A → B) where
  map_reverse : (l : List A) → map g (reverse l) ≡ reverse (map g l)
  map_reverse [] = refl
  map_reverse (x ∷ l) =
      ap (map g) (reverse-cons x l) ∙ map-append g (reverse l) (x ∷ []) ∙ ap (λ (r : List B). r ++ (g x ∷ [])) (map_reverse l)
      ∙ sym (reverse-cons (g x) (map g l))

  map_listed : (back : Bool) (l : List A) → map g (listed back l) ≡ listed back (map g l)
  map_listed true l = map_reverse l
  map_listed false l = refl

  map_table : (n : ℕ) (f : ℕ → A) → map g (table n f) ≡ table n (λ k. g (f k))
  unfolding table
  map_table zero f = refl
  map_table (suc n) f = ap (λ (l : List B). g (f 0) ∷ l) (map_table n (λ k. f (suc k)))

zeros_again : (n : ℕ) → map cell_at (replicate n 0) ≡ replicate n (cell 0 0)
zeros_again zero = refl
zeros_again (suc n) = ap (λ l. cell 0 0 ∷ l) (zeros_again n)

length_listed : (back : Bool) (l : List FieldCell) → length (listed back l) ≡ length l
length_listed true l = length-reverse l
length_listed false l = refl

pub walk_drawn : (m : ℕ) (f : ℕ → FieldCell) → m < 10 → (back : Bool) (k : ℕ) (drawn : List ℕ) → drawn ≡ written back m k (λ j. index_of (f j))
    → k ≡ m + 1 → DrawnIn (listed back (table (m + 1) f)) (record { cells = drawn; count = m + 1 })
walk_drawn m f room back k drawn held over =
    let l = table (m + 1) f in
    let e : map index_of (listed back l) ≡ listed back (table (m + 1) (λ k. index_of (f k))) =
    map_listed index_of back l ∙ ap (listed back) (map_table index_of (m + 1) f) in
    let g = all_written m (λ j. index_of (f j)) room back in
    record {
      indexes = held ∙ ap (λ (j : ℕ). written back m j (λ i. index_of (f i))) over ∙ g ∙ ap (padded 10 0) (sym e);
      many = sym (length_listed back l ∙ length_table (m + 1) f);
    }

-- every cell of a list lies in the sector
abbrev pub AllInside : List FieldCell → Type 0
AllInside l = (k : ℕ) → k < length l → Inside (get_or l k (cell 0 0))

cells_again : (l : List FieldCell) → AllInside l → map cell_at (map index_of l) ≡ l
cells_again [] h = refl
cells_again (x ∷ l) h = ap₂ ◌∷◌ (cell_of_index x (h 0 (omega arith))) (cells_again l (λ k i. h (suc k) (omega arith)))

module _ {l : List FieldCell} {drawn : CellList 10} (d : DrawnIn l drawn) where
  pub drawn_list : held drawn ≡ map index_of l
  drawn_list = ap (take drawn.count) d.indexes ∙ take_at (map index_of l) _ drawn.count (length-map l index_of ∙ sym d.many)

  pub drawn_full : length l ≤ 10 → length drawn.cells ≡ 10
  drawn_full h =
      let n = 10 - length (map index_of l) in
      ap length d.indexes
      ∙ omega (arith, length-map l index_of, length-append (map index_of l) (replicate n 0), length-replicate {A = ℕ} n 0)

  -- what is told of them is the line again: also the places beyond hold the cell of an index, 0
  pub drawn_answer : AllInside l → told_line (Ok drawn) ≡ answered l
  drawn_answer h =
      let e : map cell_at drawn.cells ≡ padded 10 (cell 0 0) l =
      ap (map cell_at) d.indexes ∙ map-append cell_at (map index_of l) _ ∙ ap₂ ◌++◌ (cells_again l h) (rw (length-map l index_of) (zeros_again (10 - length l))) in
      rw (e, d.many)

-- a cell of the sector has coordinates of the sector on both axes
pub major_in : (steep : Bool) (s : FieldCell) → Inside s → major_of steep s < 10
major_in true s h = h.row_in
major_in false s h = h.column_in

pub minor_in : (steep : Bool) (s : FieldCell) → Inside s → minor_of steep s < 10
minor_in true s h = h.column_in
minor_in false s h = h.row_in

-- a walk between coordinates of the sector
module _ (a₀ b₀ a₁ b₁ : ℕ) (up : a₀ ≤ a₁) (major : a₁ < 10) (low : b₀ < 10) (high : b₁ < 10) where
  on_axes_inside : (steep : Bool) (a b : ℕ) → a < 10 → b < 10 → Inside (cell_on_axes steep a b)
  on_axes_inside true a b h i = record { column_in = i; row_in = h }
  on_axes_inside false a b h i = record { column_in = h; row_in = i }

  pub walk_few : (steep : Bool) → length (walk_cells steep a₀ b₀ a₁ b₁) ≤ 10
  walk_few steep = omega (arith, length_table (a₁ + 1 - a₀) (walk_at steep a₀ b₀ a₁ b₁))

  pub walk_inside : (steep : Bool) → AllInside (walk_cells steep a₀ b₀ a₁ b₁)
  walk_inside steep k h =
      let n = a₁ + 1 - a₀ in
      let f = walk_at steep a₀ b₀ a₁ b₁ in
      let i : k < n = omega (arith, length_table n f) in
      let m = (minor_between b₀ b₁ (a₁ - a₀) k).to in
      rw (get_d_table n f k (cell 0 0) i) (on_axes_inside steep (a₀ + k) (minor_at b₀ b₁ (a₁ - a₀) k) (omega arith) (omega (arith, m)))
