-- The call for arrivals, our own addition (docs/DECISIONS.md): one sheet of 100 bytes, whatever they are; it answers for each cell the number of
-- moves after which its arrows, followed, first come to a byte that reads as goal, in sight or portal goal, and 255 where they never do.
-- Assumes nothing.
use Rattle.std.specs.Prelude.{cond, List, map, ℕ, eqb, length, replicate}
use Rattle.utilities.specs.Lists.{below}
use Rattle.flow_arrivals.specs.declared.Arrivals.{Arrivals}
use Rattle.flow_arrivals.specs.Following.{Arrival, arrives_after, arrives_never}
use Rattle.flow_arrivals.specs.Decided.{arrival}

-- the number of moves that is answered: 0 where the cell has such a byte itself, 255 where the arrows never come to one
abbrev pub moves_of : {bytes : List ℕ} {x : ℕ} → Arrival bytes x → ℕ
moves_of (arrives_after n comes no_fewer) = n
moves_of (arrives_never none) = 255

-- the number of moves from a cell: whether its arrows arrive is decided (`Decided`), and the number does not depend on how (`moves_any`,
-- `proofs/Told.antt`)
unfoldable pub moves_from : List ℕ → ℕ → ℕ
moves_from bytes x = moves_of (arrival bytes x)

-- what the call answers: number 2 for another length (01, "sheet not 100"), then zeros throughout
unfoldable pub arrivals_answer : List ℕ → Arrivals
arrivals_answer sheet =
    cond (eqb (length sheet) 100) (record { number = 0; moves = map (moves_from sheet) (below 100) }) (record { number = 2; moves = replicate 100 0 })
