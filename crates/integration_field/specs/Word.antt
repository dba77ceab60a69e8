-- A cell's 32 bits (01, "Integration: init": cost in the low 16, flags LOS 0x10000, GOAL 0x20000, BLOCKED 0x40000,
-- PORTAL 0x80000, IMPASSABLE 0x2000000, CORNER 0x4000000).
-- Assumes nothing.
use Rattle.std.specs.Prelude.{Bool, not, ◌&&◌, ℕ, ◌/◌, ◌%◌, ◌^◌, eqb}

-- bit k is set
abbrev pub flag : ℕ → ℕ → Bool
flag k x = eqb (x / 2 ^ k % 2) 1

-- a cell's value (01, "Integration: build"): its low 16 bits
abbrev pub low : ℕ → ℕ
low x = x % 2 ^ 16

-- the flags, by their bits
abbrev pub is_los : ℕ → Bool
is_los x = flag 16 x

abbrev pub is_goal : ℕ → Bool
is_goal x = flag 17 x

abbrev pub is_blocked : ℕ → Bool
is_blocked x = flag 18 x

abbrev pub is_portal : ℕ → Bool
is_portal x = flag 19 x

abbrev pub is_impassable : ℕ → Bool
is_impassable x = flag 25 x

-- a cell that takes offers (01, "Integration: build"): neither wall nor in sight
abbrev pub is_open : ℕ → Bool
is_open x = not (is_impassable x) && not (is_los x)
