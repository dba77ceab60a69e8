-- A list of cells by their indexes, in an array (01, "From Rust's form to Rattle's": places and a count).
-- Assumes nothing.
use Rattle.std.specs.Prelude.{Bool, true, false, List, ℕ, ◌+◌, take, set, replicate}
use Rattle.fields.specs.declared.CellList.{CellList}

-- the listed indexes, in order
abbrev pub held : {n : ℕ} → CellList n → List ℕ
held l = take l.count l.cells

-- a list of n places without cells
abbrev pub no_cells : (n : ℕ) → CellList n
no_cells n = record { cells = replicate n 0; count = 0 }

-- one index more, at the place behind the listed ones; and where it does not count, it is written there all the same, and not listed
abbrev pub pushed : {n : ℕ} → ℕ → CellList n → CellList n
pushed x l = record { cells = set l.cells l.count x; count = l.count + 1 }

abbrev pub pushed_if : {n : ℕ} → Bool → ℕ → CellList n → CellList n
pushed_if true x l = pushed x l
pushed_if false x l = record { cells = set l.cells l.count x; count = l.count }
