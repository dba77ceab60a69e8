-- Places on the floor, and moves by the arrows of a sheet from place to place (02, "Job 4": following its arrows).
-- Told by the floor's columns and rows and by an arrow's bits, and by nothing that finds a facing cell or the sector across a boundary.
-- Assumes nothing.
use Rattle.std.specs.Prelude.{◌≡◌, List, ℕ, zero, suc, ◌+◌, ◌*◌, ◌/◌, ◌%◌, ◌≤◌, ◌<◌, get_or}
use Rattle.flow_arrows.specs.Arrows.{northward, eastward, southward, westward}

-- A place on the floor, of 80 columns by 80 rows: row 0 is north, column 0 is west.
pub record Place : Type 0 where
  pub column : ℕ
  pub row : ℕ

-- its column and its row are the floor's
pub record OnFloor (p : Place) : Type 0 where
  pub row_on : p.row < 80
  pub column_on : p.column < 80

-- the place of a sector's cell (01, "A leg": sector s at column s % 8, row s / 8; cell index = row times 10 plus column)
abbrev pub place_of : ℕ → ℕ → Place
place_of sector cell = record { column = sector % 8 * 10 + cell % 10; row = sector / 8 * 10 + cell / 10 }

-- the sector that a place lies in, and its cell there
abbrev pub the_sector_in : Place → ℕ
the_sector_in p = p.row / 10 * 8 + p.column / 10

abbrev pub the_cell_in : Place → ℕ
the_cell_in p = p.row % 10 * 10 + p.column % 10

-- An arrow points from a place to another: a row up for N, a column right for E, a row down for S, a column left for W, diagonals by both; into
-- another sector as within one, and on the floor. It points to some side, and never to two that are opposite.
pub record Points (a : ℕ) (p q : Place) : Type 0 where
  pub rows : q.row + northward a ≡ p.row + southward a
  pub columns : q.column + westward a ≡ p.column + eastward a
  pub somewhere : 1 ≤ a
  pub not_north_south : northward a + southward a ≤ 1
  pub not_east_west : eastward a + westward a ≤ 1
  pub row_on : q.row < 80
  pub column_on : q.column < 80

-- a place's arrow: the low half of its flow byte (01: a sheet is 6,400 flow bytes laid out like the floor, 100 of each sector, in order)
abbrev pub arrow_at : List ℕ → Place → ℕ
arrow_at sheet p = get_or sheet (the_sector_in p * 100 + the_cell_in p) 0 % 16

-- one move, by the arrow that the sheet has there
abbrev pub FloorMove : List ℕ → Place → Place → Type 0
FloorMove sheet p q = Points (arrow_at sheet p) p q

-- so many moves, one after the other, crossings counted
pub data FloorWalk (sheet : List ℕ) : ℕ → Place → Place → Type 0 where
  stays : {p : Place} → FloorWalk sheet zero p p
  goes : {n : ℕ} {p q r : Place} → FloorMove sheet p q → FloorWalk sheet n q r → FloorWalk sheet (suc n) p r
