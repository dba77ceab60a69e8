-- Laws of the definitions, one turn of a loop at a time.
--     wave_step, wave_end        the offers of the cells from place i on: those of the cell at i, then those from i + 1 on; none past the last
--     around_step, around_end    the same of the directions in which a cell offers
--     all_cells_are              the test of the corners, in the library's words
--     corner_listed              a corner more in a list of cells
--     corners_cleared            0 in the places beyond them
-- Assumes nothing.
use mathlib.Core.Path.{◌≡◌, refl, sym, ap, ◌∙◌}
use mathlib.Core.Bool.{Bool, ◌&&◌}
use mathlib.Core.List.{List, [], ◌∷◌, ◌++◌}
use Prim.Native.Nat.{ℕ, ◌+◌, ◌-◌, ◌≤◌, ◌<◌}
use native.Mathlib.Numerals.{add-one}
use native.Mathlib.Omega.{arith}
use lib.Dec.{ltb}
use lib.ListN.{length, get_or, set, take, drop, replicate, drop_of_length-le}
use lib.Seq.{drop-cons, take-suc, length-take-le}
use borrow.Rule.Slice.PartMut.{put_mid, mid_of}
use Rattle.std.specs.List.{list_all}
use Rattle.std.proofs.lemmas.List.{length-drop, append-nil}
use Rattle.utilities.specs.declared.CompassDir.{CompassDir}
use Rattle.utilities.specs.Compass.{orthogonal}
use Rattle.fields.specs.declared.FieldCell.{FieldCell}
use Rattle.fields.specs.Cell.{cell_at, stepped}
use Rattle.fields.specs.declared.CellList.{CellList}
use Rattle.fields.specs.CellList.{pushed}
use Rattle.integration_field.specs.Listed.{padded}
use Rattle.integration_field.specs.Word.{low}
use Rattle.integration_field.specs.Wave.{offered, offered_around, offered_by}
use Rattle.integration_field.specs.Answer.{all_cells}
use Rattle.integration_field.proofs.Lists.{padded_push}

-- ---- the offers of a wavefront

module _ (costs old wave : List ℕ) where
  pub wave_step : (i cell value : ℕ) (cells new : List ℕ) → i < length wave → cell ≡ get_or wave i 0 → value ≡ low (get_or old cell 0)
      → new ≡ offered_around costs value (cell_at cell) orthogonal cells
      → offered_by costs old (drop i wave) cells ≡ offered_by costs old (drop (i + 1) wave) new
  unfolding offered_by
  wave_step i cell value cells new h e v n = rw (add-one i, drop-cons wave i 0 h, n, v, e)

  pub wave_end : (i : ℕ) (cells : List ℕ) → length wave ≤ i → offered_by costs old (drop i wave) cells ≡ cells
  unfolding offered_by
  wave_end i cells h = rw (drop_of_length-le wave h)

module _ (costs : List ℕ) (value : ℕ) (from : FieldCell) (dirs : List CompassDir) where
  pub around_step : (i : ℕ) (d : CompassDir) (cells new : List ℕ) → i < length dirs → new ≡ offered costs value (stepped from (get_or dirs i d)) cells
      → offered_around costs value from (drop i dirs) cells ≡ offered_around costs value from (drop (i + 1) dirs) new
  unfolding offered_around
  around_step i d cells new h e = rw (add-one i, drop-cons dirs i d h, e)

  pub around_end : (i : ℕ) (cells : List ℕ) → length dirs ≤ i → offered_around costs value from (drop i dirs) cells ≡ cells
  unfolding offered_around
  around_end i cells h = rw (drop_of_length-le dirs h)

-- ---- the corners

pub all_cells_are : (corners : List ℕ) → all_cells corners ≡ list_all (λ x. ltb x 100) corners
unfolding all_cells
all_cells_are [] = refl
all_cells_are (x ∷ xs) = ap (λ (b : Bool). ltb x 100 && b) (all_cells_are xs)

-- the first corners in a list of cells, and one more
abbrev pub first_corners : List ℕ → ℕ → CellList 100
first_corners corners i = record { cells = padded (take i corners); count = i }

pub corner_listed : (corners : List ℕ) (i : ℕ) (wave : CellList 100) → wave ≡ first_corners corners i → i < length corners → i < 100
    → pushed (get_or corners i 0) wave ≡ first_corners corners (i + 1)
corner_listed corners i wave e h l =
    let n : length (take i corners) ≡ i = length-take-le i corners (omega arith) in
    let more : set (padded (take i corners)) i (get_or corners i 0) ≡ padded (take (i + 1) corners) =
    ap (λ (k : ℕ). set (padded (take i corners)) k (get_or corners i 0)) (sym n)
    ∙ padded_push (take i corners) (get_or corners i 0) (omega arith)
    ∙ rw (add-one i, take-suc corners i 0 h) in
    rw e (ap (λ (x : List ℕ). record { cells = x; count = i + 1 }) more)

-- the places beyond the list, where zeros are written over them
pub corners_cleared : (corners : List ℕ) (count : ℕ) (zeros : List ℕ) → length corners ≡ 100 → count ≤ 100
    → zeros ≡ replicate (length (mid_of count (100 - count) corners)) 0 → put_mid count (100 - count) corners zeros ≡ padded (take count corners)
corners_cleared corners count zeros long few filled =
    let n : length (take count corners) ≡ count = length-take-le count corners (omega arith) in
    let d = length-drop count corners in
    let m : length (mid_of count (100 - count) corners) ≡ 100 - count = length-take-le (100 - count) (drop count corners) (omega arith) in
    let rest : drop (100 - count) (drop count corners) ≡ [] = drop_of_length-le (drop count corners) (omega arith) in
    ap (λ (x : List ℕ). take count corners ++ x) (ap (λ (x : List ℕ). zeros ++ x) rest ∙ append-nil zeros ∙ filled ∙ rw (m, n))
