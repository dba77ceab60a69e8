-- The look in passes: how the code keeps the looks of all cells while they go on together, one direction a pass. A look is kept as two numbers,
-- a key and the bits of its direction. A reader of the promises needs none of it.
-- Assumes nothing.
use Rattle.std.specs.Prelude.{◌≡◌, Bool, true, not, cond, ◌&&◌, ◌||◌, List, map, ℕ, ◌+◌, ◌≤◌, ◌<◌, ltb, eqb, length, get_or}
use Rattle.std.specs.Int.Bits.{bit_or}
use Rattle.utilities.specs.declared.CompassDir.{CompassDir}
use Rattle.utilities.specs.declared.CompassDir.TheVariants.{Zero}
use Rattle.utilities.specs.Lists.{below}
use Rattle.fields.specs.declared.FieldCell.{FieldCell}
use Rattle.fields.specs.Cell.{Inside}
use Rattle.integration_field.specs.Word.{low, is_goal, is_portal, is_impassable}
use Rattle.integration_field.specs.Diagonal.{passes_wall}
use Rattle.flow_bits.specs.Byte as flow
use Rattle.flow_byte.specs.Look.{Look, Looking, Taken, Ended, look_at}

-- ---- a look as two numbers

-- its key: 0 taken, 1 ended, else two more than the value that is to be bettered
abbrev pub look_key : Look → ℕ
look_key (Looking _ value) = value + 2
look_key (Taken d) = 0
look_key (Ended _) = 1

-- the direction that it has come to
abbrev pub look_dir : Look → CompassDir
look_dir (Looking best value) = best
look_dir (Taken d) = d
look_dir (Ended best) = best

-- a key and bits are those of a look; none has a key above that of a look that has found nothing
pub record LookHeld (l : Look) (key bits : ℕ) : Type 0 where
  pub key_is : key ≡ look_key l
  pub bits_are : bits ≡ flow.bits_of (look_dir l)
  pub key_in : key ≤ 65537

-- the looks of all cells before the first direction
abbrev pub nothing_found : ℕ → Look
nothing_found k = Looking Zero 65535

-- two arrays hold the looks of all cells
pub record LooksHeld (looks : ℕ → Look) (keys bits : List ℕ) : Type 0 where
  pub keys_full : length keys ≡ 100
  pub bits_full : length bits ≡ 100
  pub each : (k : ℕ) → k < 100 → LookHeld (looks k) (get_or keys k 0) (get_or bits k 0)

-- ---- a neighbour as a number

-- the key of a cell of these 32 bits: 0 where a look takes it, 1 where a look ends at it, else two more than its value; a wall's is above them all
unfoldable pub cell_key : ℕ → ℕ
cell_key x = cond (is_impassable x) 65537 (cond (is_goal x || is_portal x) 0 (cond (eqb (low x) 65535) 1 (low x + 2)))

-- the keys of all cells
abbrev pub cell_keys : List ℕ → List ℕ
cell_keys cells = map (λ i. cell_key (get_or cells i 0)) (below 100)

-- the key of the neighbour at index n as a look from cell i sees it: a diagonal that passes a wall is passed over like a wall
unfoldable pub seen_key : List ℕ → ℕ → ℕ → ℕ
seen_key cells i n = cond (passes_wall cells i n) 65537 (cell_key (get_or cells n 0))

-- what is known where one cell looks at another: both are cells of the sector, and the keys are those of its cells
pub record KeysSeen (cells keys : List ℕ) (from to : FieldCell) : Type 0 where
  pub from_in : Inside from
  pub to_in : Inside to
  pub keys_are : keys ≡ cell_keys cells

-- ---- a look goes on

-- a look that has not ended goes by what it sees, where that has the lower key
unfoldable pub is_noted : ℕ → ℕ → Bool
is_noted x key = not (eqb key 1) && ltb x key

-- its key and its bits after it has seen the key x in the direction of the bits d: where x ends it, it keeps the best so far
unfoldable pub key_after : ℕ → ℕ → ℕ
key_after x key = cond (is_noted x key) x key

unfoldable pub bits_after : ℕ → ℕ → ℕ → ℕ → ℕ
bits_after x key d bits = cond (is_noted x key && not (eqb x 1)) d bits

-- the looks of the cells below n have gone on in direction d, the others not yet
abbrev pub looked_to : List ℕ → CompassDir → ℕ → (ℕ → Look) → ℕ → Look
looked_to cells d n looks k = cond (ltb k n) (look_at cells k (looks k) d) (looks k)

-- from two arrays to two others the looks of the cells from m up to n go on in direction d
abbrev pub LooksOn : List ℕ → CompassDir → ℕ → ℕ → List ℕ → List ℕ → List ℕ → List ℕ → Type 0
LooksOn cells d m n keys bits keys' bits' =
    (looks : ℕ → Look) → LooksHeld (looked_to cells d m looks) keys bits → LooksHeld (looked_to cells d n looks) keys' bits'

-- ---- the bytes

-- a byte that its cell keeps
abbrev pub is_kept : ℕ → Bool
is_kept byte = flow.is_pathable byte || flow.is_impassable byte

-- no cell of a sheet looks
abbrev pub NoneLooks : List ℕ → Type 0
NoneLooks sheet = (k : ℕ) → k < 100 → is_kept (get_or sheet k 0) ≡ true

-- the byte of a cell whose look has come to this key and these bits
unfoldable pub held_byte : ℕ → ℕ → ℕ → ℕ
held_byte byte key bits = bit_or (cond (eqb key 1) (bit_or byte 0xE0) byte) (cond (eqb bits 0) 0xE0 (bit_or 0x10 bits))

-- the byte of a cell, from the byte that it had
abbrev pub byte_after : ℕ → ℕ → ℕ → ℕ
byte_after byte key bits = cond (is_kept byte) byte (held_byte byte key bits)

-- the bytes of all cells
abbrev pub held_bytes : List ℕ → List ℕ → List ℕ → List ℕ
held_bytes keys bits sheet = map (λ i. byte_after (get_or sheet i 0) (get_or keys i 0) (get_or bits i 0)) (below 100)
