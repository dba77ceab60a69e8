-- Directions (01, "A leg": row 0 is north; "Flow byte": the order of a look).
-- Assumes nothing.
use Rattle.std.specs.Prelude.{Bool, cond, ◌&&◌, List, [], ◌∷◌, ℕ, ◌+◌, ltb, eqb, ℤ, pos, negsuc, nat_abs, get_or}
use Rattle.std.specs.Int.Signed.{le_z}
use Rattle.utilities.specs.declared.Differences.{Differences}
use Rattle.utilities.specs.declared.CompassDir.{CompassDir}
use Rattle.utilities.specs.declared.CompassDir.TheVariants.{North, East, South, West, NorthEast, SouthEast, SouthWest, NorthWest, Zero}

-- The differences of a direction (02, "Job 5": one pair of differences per direction): what it adds to a column and to a row. `pos n` is n,
-- and `negsuc 0` is one less than 0.
abbrev pub differences : CompassDir → Differences
differences North = record { column = pos 0; row = negsuc 0 }
differences East = record { column = pos 1; row = pos 0 }
differences South = record { column = pos 0; row = pos 1 }
differences West = record { column = negsuc 0; row = pos 0 }
differences NorthEast = record { column = pos 1; row = negsuc 0 }
differences SouthEast = record { column = pos 1; row = pos 1 }
differences SouthWest = record { column = negsuc 0; row = pos 1 }
differences NorthWest = record { column = negsuc 0; row = negsuc 0 }
differences Zero = record { column = pos 0; row = pos 0 }

-- a sum lies in 0 to n
abbrev pub within : ℕ → ℤ → Bool
within n sum = le_z (pos 0) sum && le_z sum (pos n)

-- how much a difference adds, else 0; and how much it takes away, else 0
abbrev pub rises : ℤ → ℕ
rises (pos n) = n
rises (negsuc n) = 0

abbrev pub falls : ℤ → ℕ
falls (pos n) = 0
falls (negsuc n) = n + 1

-- it does neither
abbrev pub still : ℤ → Bool
still δ = eqb (nat_abs δ) 0

-- the four sides, and all eight, in the order of 01's waves and looks
abbrev pub orthogonal : List CompassDir
orthogonal = North ∷ East ∷ South ∷ West ∷ []

abbrev pub all : List CompassDir
all = North ∷ East ∷ South ∷ West ∷ NorthEast ∷ SouthEast ∷ SouthWest ∷ NorthWest ∷ []

abbrev pub opposite : CompassDir → CompassDir
opposite North = South
opposite East = West
opposite South = North
opposite West = East
opposite NorthEast = SouthWest
opposite SouthEast = NorthWest
opposite SouthWest = NorthEast
opposite NorthWest = SouthEast
opposite Zero = Zero

-- a direction's number: its place in `all`, and 8 for Zero
abbrev pub number_of : CompassDir → ℕ
number_of North = 0
number_of East = 1
number_of South = 2
number_of West = 3
number_of NorthEast = 4
number_of SouthEast = 5
number_of SouthWest = 6
number_of NorthWest = 7
number_of Zero = 8

-- whether it is a direction at all: Zero is none
abbrev pub points : CompassDir → Bool
points d = ltb (number_of d) 8

-- of the two sides that lie square to a direction, the one of the lower index: West of North and South, North of East and West
abbrev pub lower_side : CompassDir → CompassDir
lower_side d = cond (still (differences d).column) West North

-- the side that a boundary byte names (01, "A leg": 0 North, 1 East, 2 South, 3 West), Zero where it names none
abbrev pub side_of : ℕ → CompassDir
side_of n = get_or orthogonal n Zero
