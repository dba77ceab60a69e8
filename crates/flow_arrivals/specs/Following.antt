-- Following the arrows of one sheet of 100 bytes, whatever they are (01, "Flow byte", last paragraph: a move goes to the neighbour that the arrow
-- points at). A move is told by the arrow's bits, by rows and by columns, as demand 3 has it, and by nothing that reads a direction or steps in one.
-- Assumes nothing.
use Rattle.std.specs.Prelude.{◌≡◌, Bool, true, ◌||◌, List, ℕ, zero, suc, ◌<◌, get_or}
use Rattle.flow_bits.specs.Byte.{is_goal, has_line_of_sight, is_portal_goal}
use Rattle.flow_arrows.specs.Arrows.{arrow, Away}

-- a byte at which the arrows have arrived: it reads as goal, in sight or portal goal (01, "Flow byte")
abbrev pub is_arrival : ℕ → Bool
is_arrival byte = is_goal byte || (has_line_of_sight byte || is_portal_goal byte)

module _ (bytes : List ℕ) where
  -- one move inside the sector: the arrow of its cell x points at its cell y
  pub record Follows (x y : ℕ) : Type 0 where
    pub leaves : x < 100
    pub away : Away (arrow bytes x) x y
    pub enters : y < 100

  -- Followed from cell x, the arrows come after so many moves to a cell of such a byte.
  pub data Comes : ℕ → ℕ → Type 0 where
    there : {x : ℕ} → is_arrival (get_or bytes x 0) ≡ true → Comes zero x
    further : {n x y : ℕ} → Follows x y → Comes n y → Comes (suc n) x

  -- after n moves, and after no fewer
  pub record ComesFirst (n x : ℕ) : Type 0 where
    pub comes : Comes n x
    pub no_fewer : (m : ℕ) → m < n → Comes m x → ⊥

  -- what following from a cell comes to: to such a byte, first after n moves, or never, whatever the number of moves
  pub data Arrival (x : ℕ) : Type 0 where
    arrives_after : (n : ℕ) → Comes n x → ((m : ℕ) → m < n → Comes m x → ⊥) → Arrival x
    arrives_never : ((n : ℕ) → Comes n x → ⊥) → Arrival x
