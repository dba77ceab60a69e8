-- The invariant of `walk`: the indexes of the first k steps' cells are written, and the offset and the difference are those of step k.
-- The difference grows by less than 20 at each of at most ten steps, so that no sum wraps.
-- Assumes nothing.
use Rattle.std.proofs.Common.{◌≡◌, ℕ, ◌+◌, ◌*◌, ◌≤◌, Bool, List}
use Rattle.fields.specs.declared.FieldCell.{FieldCell}
use Rattle.fields.specs.Cell.{index_of}
use Rattle.line_nearest.specs.Line.{walk_at}
use Rattle.line_nearest.proofs.Offset.{State}
use Rattle.bresenham.specs.Inner.{major_of, minor_of}
use Rattle.bresenham.proofs.Places.{written}
use Rattle.bresenham.proofs.walk.Given as goal

-- the cell of step k, and its index
abbrev pub walked_at : Bool → FieldCell → FieldCell → ℕ → FieldCell
walked_at steep s t = walk_at steep (major_of steep s) (minor_of steep s) (major_of steep t) (minor_of steep t)

abbrev pub index_at : Bool → FieldCell → FieldCell → ℕ → ℕ
index_at steep s t k = index_of (walked_at steep s t k)

-- before step k: the cells of the steps before it are written, and offset and difference are its own
pub record Walking (index : ℕ → ℕ) (back : Bool) (span rise : ℕ) (drawn : List ℕ) (difference offset k : ℕ) : Type 0 where
  pub small : difference ≤ 30 + 20 * k
  pub put : drawn ≡ written back span k index
  pub state : State rise span k offset difference

abbrev pub invariant-loop-k : goal.invariant-loop-k
invariant-loop-k l = Walking (index_at l.steep l.fn.from l.fn.to) l.back l.span l.rise l.drawn.cells l.difference l.offset l.k
