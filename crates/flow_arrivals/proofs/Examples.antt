-- Small sheets, computed from the definition.
--     arrives_after                how many moves
--     in_a_circle                  two cells that point at each other
--     out_of_the_sector            arrows over each edge, and bytes with no direction
--     refuses_99, refuses_101      another length
-- Assumes nothing.
use mathlib.Core.Path.{◌≡◌, refl}
use mathlib.Core.List.{List, [], ◌∷◌, map}
use Prim.Native.Nat.{ℕ}
use lib.ListN.{set, replicate}
use Rattle.flow_arrivals.specs.Decided.{next_move_if, next_move, searched_on, searched_from, searched, decided, arrival}
use Rattle.flow_arrivals.specs.Arrivals.{moves_from, arrivals_answer}

-- these bytes in these cells, and 0 in every other
abbrev sheet : List (ℕ × ℕ) → List ℕ
sheet [] = replicate 100 0
sheet (b ∷ bs) = set (sheet bs) b.0 b.1

-- a goal in cell 44, in sight in 34, a portal goal in 9: no move; 45, 55 and 54 are beside the goal; 46, 66 and 76 lead there over them
abbrev around_44 : List ℕ
around_44 =
    sheet ((44, 0x70) ∷ (34, 0x30) ∷ (9, 0x92) ∷ (45, 0x18) ∷ (55, 0x19) ∷ (54, 0x11) ∷ (46, 0x18) ∷ (66, 0x19) ∷ (76, 0x11) ∷ [])

arrives_after : map (moves_from around_44) (44 ∷ 34 ∷ 9 ∷ 45 ∷ 55 ∷ 54 ∷ 46 ∷ 66 ∷ 76 ∷ []) ≡ 0 ∷ 0 ∷ 0 ∷ 1 ∷ 1 ∷ 1 ∷ 2 ∷ 2 ∷ 3 ∷ []
unfolding moves_from next_move_if next_move searched_on searched_from searched decided arrival
arrives_after = refl

-- the smallest floor with a circle: wall 1, goal 10, every other cost 1. Cell 2 points East at 3 and cell 3 West at 2, and 4 leads there.
abbrev to_and_fro : List ℕ
to_and_fro = sheet ((10, 0x70) ∷ (1, 0xE0) ∷ (2, 0x12) ∷ (3, 0x18) ∷ (4, 0x18) ∷ [])

in_a_circle : map (moves_from to_and_fro) (10 ∷ 1 ∷ 2 ∷ 3 ∷ 4 ∷ []) ≡ 0 ∷ 255 ∷ 255 ∷ 255 ∷ 255 ∷ []
unfolding moves_from next_move_if next_move searched_on searched_from searched decided arrival
in_a_circle = refl

-- goals beyond each edge, in the next or last row or column of the same sector, are not arrived at; nor is one by a byte with no direction
abbrev off_the_sector : List ℕ
off_the_sector = sheet ((19, 0x12) ∷ (20, 0x70) ∷ (30, 0x18) ∷ (29, 0x70) ∷ (5, 0x11) ∷ (95, 0x14) ∷ (40, 0x15) ∷ (41, 0x1A) ∷ (42, 0x10) ∷ [])

out_of_the_sector : map (moves_from off_the_sector) (19 ∷ 30 ∷ 5 ∷ 95 ∷ 40 ∷ 41 ∷ 42 ∷ 43 ∷ []) ≡ 255 ∷ 255 ∷ 255 ∷ 255 ∷ 255 ∷ 255 ∷ 255 ∷ 255 ∷ []
unfolding moves_from next_move_if next_move searched_on searched_from searched decided arrival
out_of_the_sector = refl

-- number 2 for another length, then zeros throughout
refuses_99 : arrivals_answer (replicate 99 0x70) ≡ record { number = 2; moves = replicate 100 0 }
unfolding arrivals_answer
refuses_99 = refl

refuses_101 : arrivals_answer (replicate 101 0x70) ≡ record { number = 2; moves = replicate 100 0 }
unfolding arrivals_answer
refuses_101 = refl

-- all in sight: 0 everywhere
all_in_sight : arrivals_answer (replicate 100 0x30) ≡ record { number = 0; moves = replicate 100 0 }
unfolding arrivals_answer moves_from next_move_if next_move searched_on searched_from searched decided arrival
all_in_sight = refl
