-- Bytes as text (01, "Cases", last paragraph: ten lines, a row each, every cell two lower-case hexadecimal digits). Each line ends in one line feed.
-- Assumes nothing.
use Rattle.std.specs.Prelude.{cond, List, [], ◌∷◌, ◌++◌, ℕ, zero, suc, ◌+◌, ◌-◌, ◌*◌, ◌/◌, ◌%◌, ltb, get_or}

-- one lower-case hexadecimal digit: 48 is `0`, and 97 is `a`
unfoldable pub hex_digit : ℕ → ℕ
hex_digit n = cond (ltb n 10) (48 + n) (97 + (n - 10))

-- a cell: two digits
unfoldable pub cell_text : ℕ → List ℕ
cell_text cell = hex_digit (cell / 16) ∷ hex_digit (cell % 16) ∷ []

-- the first cells of a row
unfoldable pub cells_text : List ℕ → ℕ → ℕ → List ℕ
cells_text cells row zero = []
cells_text cells row (suc column) = cells_text cells row column ++ cell_text (get_or cells (10 * row + column) 0)

-- a row: its ten cells and a line feed
unfoldable pub row_text : List ℕ → ℕ → List ℕ
row_text cells row = cells_text cells row 10 ++ (10 ∷ [])

-- the first rows of a sector's cells
unfoldable pub rows_text : List ℕ → ℕ → List ℕ
rows_text cells zero = []
rows_text cells (suc row) = rows_text cells row ++ row_text cells row

-- a number below 100 in decimal, without a leading zero
unfoldable pub decimal : ℕ → List ℕ
decimal n = cond (ltb n 10) ((48 + n) ∷ []) ((48 + n / 10) ∷ (48 + n % 10) ∷ [])
