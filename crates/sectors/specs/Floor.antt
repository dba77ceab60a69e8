-- Sectors of a floor (01, "A leg": 64 sectors, sector s at column s % 8, row s / 8).
-- Assumes nothing.
use Rattle.std.specs.Prelude.{Bool, true, false, ◌&&◌, ℕ, ◌+◌, ◌*◌, ◌/◌, ◌%◌, ltb, pos, nat_abs, ◌+ℤ◌, Option, Some, None}
use Rattle.utilities.specs.declared.CompassDir.{CompassDir}
use Rattle.utilities.specs.Compass.{differences, points, within}

abbrev pub column_of : ℕ → ℕ
column_of s = s % 8

abbrev pub row_of : ℕ → ℕ
row_of s = s / 8

-- the sector at a column and a row
abbrev pub sector_at : ℕ → ℕ → ℕ
sector_at column row = row * 8 + column

-- a sector where the test holds, else off the floor
abbrev pub sector_if : Bool → ℕ → Option ℕ
sector_if true s = Some s
sector_if false s = None

-- The sector one step away: the one at the two sums of the sector's column and row and the direction's differences, where both lie in 0 to 7.
-- There is none for a number over 63, nor for `Zero`, which points nowhere.
unfoldable pub across : ℕ → CompassDir → Option ℕ
across s d =
    let column = pos (column_of s) +ℤ (differences d).column in
    let row = pos (row_of s) +ℤ (differences d).row in
    sector_if (ltb s 64 && points d && (within 7 column && within 7 row)) (sector_at (nat_abs column) (nat_abs row))
