-- Small inputs on which the rules of a flow byte decide (01, "Flow byte"), computed: a definition with one rule changed gives something else.
--     start_portal                   the flags that a window cell starts with
--     lower_side_law, end_sees_two       the facing choice, and what an end cell sees of it
--     earliest, ended                a look: of equals the earliest, an end at a cell that nothing reaches
--     unbarred, barred_in_row, ..    a diagonal past no wall, and past one
--     ended_byte                     what becomes of a byte where a look has ended
-- Assumes nothing.
use mathlib.Core.Path.{◌≡◌, refl}
use mathlib.Core.List.{List}
use Prim.Native.Nat.{ℕ}
use lib.ListN.{set, replicate}
use Rattle.utilities.specs.declared.CompassDir.TheVariants.{North, East, NorthEast}
use Rattle.fields.specs.Cell.{stepped}
use Rattle.integration_field.specs.Diagonal.{passes_wall}
use Rattle.flow_byte.specs.Look.{Looking, Ended, seen, look_around, pointed, looked_byte}
use Rattle.flow_byte.specs.New.{start_of, facing_bits, facing_choice}

start_portal : start_of 0x80000 ≡ 0x90
unfolding start_of
start_portal = refl

-- of the cells that a cell of a North window faces, the one of the lower index is the cheapest
lower_side_law : facing_bits North 5 9 9 ≡ 9
unfolding facing_bits
lower_side_law = refl

-- the cell beside the first of a North window 3 to 5 faces a cheaper one
end_sees_two : facing_choice (record { start = 3; end = 5; boundary = North }) (set (replicate 100 7) 92 1) 3 ≡ 1
unfolding facing_choice facing_bits
end_sees_two = refl

-- a field of cells of one value
abbrev sevens : List ℕ
sevens = replicate 100 7

earliest : look_around sevens 44 ≡ Looking North 7
unfolding look_around seen stepped passes_wall
earliest = refl

-- the cell to the East is not reached
ended : look_around (set sevens 45 65535) 44 ≡ Ended North
unfolding look_around seen stepped passes_wall
ended = refl

-- the cheapest cell is the one to the North-East; a wall beside the move there, East of the cell or North of it, bars it (02, "Job 7")
abbrev cheapest : List ℕ
cheapest = set sevens 35 1

unbarred : look_around cheapest 44 ≡ Looking NorthEast 1
unfolding look_around seen stepped passes_wall
unbarred = refl

barred_in_row : look_around (set cheapest 45 0x200FFFF) 44 ≡ Looking North 7
unfolding look_around seen stepped passes_wall
barred_in_row = refl

barred_in_column : look_around (set cheapest 34 0x200FFFF) 44 ≡ Looking East 7
unfolding look_around seen stepped passes_wall
barred_in_column = refl

ended_byte : looked_byte 0 (Ended North) ≡ 0xF1
unfolding pointed
ended_byte = refl
