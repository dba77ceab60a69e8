-- Texts stored one after the other, and their lengths.
-- Assumes nothing.
use mathlib.Core.Path.{◌≡◌, refl, sym, ◌∙◌}
use mathlib.Core.List.{List, [], ◌∷◌, ◌++◌}
use Prim.Native.Nat.{ℕ, zero, suc, ◌+◌, ◌*◌}
use native.Mathlib.Nat.{add-zero, zero-add, add-suc, suc-add}
use native.Mathlib.Numerals.{add-one}
use native.Mathlib.Omega.{arith}
use lib.ListN.{length, length-append, get_or, set}
use lib.Seq.{sets}
use Rattle.print_text.specs.Rows.{cell_text, cells_text, row_text, rows_text}

-- what a loop that stores text keeps: the buffer is as long as before, and this text stands in it at a place
pub record Stored (before : List ℕ) (at : ℕ) (text out : List ℕ) : Type 0 where
  pub same_size : length out ≡ length before
  pub holds : out ≡ sets before at text

-- a text stored behind another is stored with it
pub sets_append : (l s t : List ℕ) (at : ℕ) → sets (sets l at s) (at + length s) t ≡ sets l at (s ++ t)
sets_append l [] t at = rw (add-zero at)
sets_append l (b ∷ s) t at =
    let e : at + suc (length s) ≡ suc at + length s = add-suc at (length s) ∙ sym (suc-add at (length s)) in
    rw e (sets_append (set l at b) s t (suc at))

pub cells_length : (cells : List ℕ) (row column : ℕ) → length (cells_text cells row column) ≡ 2 * column
unfolding cells_text cell_text
cells_length cells row zero = refl
cells_length cells row (suc column) =
    omega (arith, length-append (cells_text cells row column) (cell_text (get_or cells (10 * row + column) 0)), cells_length cells row column)

pub row_length : (cells : List ℕ) (row : ℕ) → length (row_text cells row) ≡ 21
unfolding row_text
row_length cells row = omega (arith, length-append (cells_text cells row 10) (10 ∷ []), cells_length cells row 10)

pub rows_length : (cells : List ℕ) (row : ℕ) → length (rows_text cells row) ≡ 21 * row
unfolding rows_text
rows_length cells zero = refl
rows_length cells (suc row) = omega (arith, length-append (rows_text cells row) (row_text cells row), rows_length cells row, row_length cells row)

-- one cell more, and one row more
pub one_cell_more : (l cells : List ℕ) (at row column : ℕ) →
    sets (sets l at (cells_text cells row column)) (at + 2 * column) (cell_text (get_or cells (10 * row + column) 0)) ≡ sets l at (cells_text cells row (column + 1))
unfolding cells_text
one_cell_more l cells at row column =
    rw (add-one column, ← (cells_length cells row column))
    (sets_append l (cells_text cells row column) (cell_text (get_or cells (10 * row + column) 0)) at)

pub one_row_more : (l cells : List ℕ) (row : ℕ) → sets (sets l 0 (rows_text cells row)) (21 * row) (row_text cells row) ≡ sets l 0 (rows_text cells (row + 1))
unfolding rows_text
one_row_more l cells row =
    rw (add-one row, ← (rows_length cells row), ← (zero-add (length (rows_text cells row))))
    (sets_append l (rows_text cells row) (row_text cells row) 0)

-- a row's line feed
pub row_ended : (l cells : List ℕ) (at row : ℕ) → set (sets l at (cells_text cells row 10)) (at + 20) 10 ≡ sets l at (row_text cells row)
unfolding row_text
row_ended l cells at row = rw (← (cells_length cells row 10)) (sets_append l (cells_text cells row 10) (10 ∷ []) at)
