-- Looking around for the cheapest neighbour (01, "Flow byte"; 02, "Job 7").
-- Assumes nothing.
use Rattle.std.specs.Prelude.{Bool, cond, ◌||◌, List, [], ◌∷◌, map, ℕ, ◌+◌, ltb, eqb, get_or, Option, Some, None}
use Rattle.std.specs.Int.Bits.{bit_or}
use Rattle.utilities.specs.declared.CompassDir.{CompassDir}
use Rattle.utilities.specs.declared.CompassDir.TheVariants.{Zero}
use Rattle.utilities.specs.Compass.{points, all}
use Rattle.utilities.specs.Lists.{below}
use Rattle.fields.specs.declared.FieldCell.{FieldCell}
use Rattle.fields.specs.Cell.{cell_at, index_of, stepped}
use Rattle.integration_field.specs.Word.{low, is_goal, is_portal}
use Rattle.integration_field.specs.Diagonal.{wall_at, passes_wall}
use Rattle.flow_bits.specs.Byte.{bits_of, is_pathable, is_impassable}

-- What a look has come to: still looking, with the best direction so far and its value; taken, at a goal or a portal; or ended at a cell that
-- no cost has reached, with the best so far.
pub data Look : Type 0 where
  Looking : CompassDir → ℕ → Look
  Taken : CompassDir → Look
  Ended : CompassDir → Look

-- a look from cell i passes over the neighbour at index n: a wall, or a diagonal that passes one (02, Job 7)
abbrev pub is_passed_over : List ℕ → ℕ → ℕ → Bool
is_passed_over cells i n = wall_at cells n || passes_wall cells i n

-- What a look from cell i makes of the neighbour at index n in direction d, with the best so far and its value.
-- Walls, and diagonals that pass one (02, Job 7), are passed over. The first GOAL or PORTAL is taken.
-- Low bits 65535 first, in a cell with neither of these flags: looking ends. Best is strictly least, earliest.
unfoldable pub seen : List ℕ → ℕ → CompassDir → ℕ → CompassDir → ℕ → Look
seen cells i d n best value =
    let x = get_or cells n 0 in
    cond (is_passed_over cells i n) (Looking best value)
    (cond (is_goal x || is_portal x) (Taken d)
    (cond (eqb (low x) 65535) (Ended best)
    (cond (ltb (low x) value) (Looking d (low x)) (Looking best value))))

-- where a step leaves the sector there is nothing to see
abbrev pub seen_at : List ℕ → ℕ → CompassDir → Option FieldCell → CompassDir → ℕ → Look
seen_at cells i d (Some n) best value = seen cells i d (index_of n) best value
seen_at cells i d None best value = Looking best value

-- a look goes on in direction d
abbrev pub look_at : List ℕ → ℕ → Look → CompassDir → Look
look_at cells i (Looking best value) d = seen_at cells i d (stepped (cell_at i) d) best value
look_at cells i (Taken e) d = Taken e
look_at cells i (Ended e) d = Ended e

-- in the order of a list of directions
abbrev pub look_along : List ℕ → ℕ → List CompassDir → Look → Look
look_along cells i [] l = l
look_along cells i (d ∷ ds) l = look_along cells i ds (look_at cells i l d)

-- Cells look N, E, S, W, NE, SE, SW, NW, with nothing found yet (Zero); a value that is noted lies below 65535, which ends a look.
unfoldable pub look_around : List ℕ → ℕ → Look
look_around cells i = look_along cells i all (Looking Zero 65535)

-- the best direction or-ed on, with 0x10; none: 0xE0
unfoldable pub pointed : ℕ → CompassDir → ℕ
pointed byte d = bit_or byte (cond (points d) (0x10 + bits_of d) 0xE0)

-- 65535 sets 0xE0, with the best so far still applied (0xF0 plus bits).
abbrev pub looked_byte : ℕ → Look → ℕ
looked_byte byte (Looking best value) = pointed byte best
looked_byte byte (Taken d) = pointed byte d
looked_byte byte (Ended best) = pointed (bit_or byte 0xE0) best

-- Cells with neither 0x10 nor all of 0xE0 look; others keep their byte.
unfoldable pub built_byte : List ℕ → ℕ → ℕ → ℕ
built_byte cells i byte = cond (is_pathable byte || is_impassable byte) byte (looked_byte byte (look_around cells i))

-- the 100 bytes that building makes of a sheet's old bytes
unfoldable pub flow_build : List ℕ → List ℕ → List ℕ
flow_build cells sheet = map (λ i. built_byte cells i (get_or sheet i 0)) (below 100)
