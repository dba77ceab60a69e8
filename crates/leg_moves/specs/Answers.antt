-- The calls of a cart, our own addition (docs/DECISIONS.md): the sheet of a floor, and a place by its sector and cell. The one answers where one move leads,
-- the other how many moves lead until the cart stands still, where that is, or that it never does.
-- Assumes nothing.
use Rattle.std.specs.Prelude.{not, List, [], ◌∷◌, ℕ, zero, suc, ltb, eqb, length}
use Rattle.route.specs.Table.{row, first_number}
use Rattle.leg_journey.specs.Place.{Place, place_of, the_sector_in, the_cell_in}
use Rattle.leg_moves.specs.declared.CartMove.{CartMove}
use Rattle.leg_moves.specs.declared.CartWay.{CartWay}
use Rattle.leg_moves.specs.Moving.{still_outcome, byte_at, Next, moves_to, stands, Way, stands_after, stands_never}
use Rattle.leg_moves.specs.Decided.{next, way}

-- the number of both: 2, a sheet that is not a floor's; 4, a sector over 63; 5, a cell over 99
unfoldable pub cart_number : List ℕ → ℕ → ℕ → ℕ
cart_number sheet sector cell = first_number (row 2 (not (eqb (length sheet) 6400)) ∷ row 4 (ltb 63 sector) ∷ row 5 (ltb 99 cell) ∷ [])

-- ---- one move

abbrev pub accepted_move : ℕ → Place → CartMove
accepted_move outcome p = record { number = 0; outcome = outcome; sector = the_sector_in p; cell = the_cell_in p }

-- moved (1), and the place that the arrow points at; else the cart's own place, and what its byte says
abbrev pub move_of : {sheet : List ℕ} {p : Place} → Next sheet p → CartMove
move_of (moves_to q m) = accepted_move 1 q
move_of {sheet} {p} (stands o) = accepted_move (still_outcome (byte_at sheet p)) p

unfoldable pub move_from : List ℕ → Place → CartMove
move_from sheet p = move_of (next sheet p)

-- a refusal has every other part zero
abbrev pub move_or : ℕ → CartMove → CartMove
move_or zero m = m
move_or (suc n) m = record { number = suc n; outcome = 0; sector = 0; cell = 0 }

unfoldable pub move_answer : List ℕ → ℕ → ℕ → CartMove
move_answer sheet sector cell = move_or (cart_number sheet sector cell) (move_from sheet (place_of sector cell))

-- ---- the moves until the cart stands still

abbrev pub stood : ℕ → ℕ → Place → CartWay
stood outcome moves p = record { number = 0; outcome = outcome; sector = the_sector_in p; cell = the_cell_in p; moves = moves }

-- where it stands, what its byte there says, and after how many moves; never (4), with its own place and no moves
abbrev pub way_of : {sheet : List ℕ} {p : Place} → Way sheet p → CartWay
way_of {sheet} (stands_after n s) = stood (still_outcome (byte_at sheet s.at)) n s.at
way_of {p = p} (stands_never o) = stood 4 0 p

unfoldable pub way_from : List ℕ → Place → CartWay
way_from sheet p = way_of (way sheet p)

abbrev pub way_or : ℕ → CartWay → CartWay
way_or zero w = w
way_or (suc n) w = record { number = suc n; outcome = 0; sector = 0; cell = 0; moves = 0 }

unfoldable pub way_answer : List ℕ → ℕ → ℕ → CartWay
way_answer sheet sector cell = way_or (cart_number sheet sector cell) (way_from sheet (place_of sector cell))
