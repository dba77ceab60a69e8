-- `line_end::first_leaving` meets its contract. The invariant: the first that ends the line, of all columns, is the first of those from the present one on.
-- Assumes nothing.
use Rattle.std.proofs.Common.{◌≡◌, ℕ, ◌+◌, ◌-◌, Bool}
use Rattle.line_end.specs.LineEnd.{leaves, first_ending, first_leaving}
use Rattle.line_end.proofs.first_leaving.Given as goal

-- the tests of the definition, and the first that ends the line of those from j on
module _ (rise span behind : ℕ) where
  abbrev pub ends : ℕ → Bool
  ends j = leaves rise span behind (span + j)

  abbrev pub first_from : ℕ → ℕ → ℕ
  first_from columns j = first_ending ends (columns - j) j (ends j)

abbrev pub invariant-loop-j : goal.invariant-loop-j
invariant-loop-j l = first_leaving l.rise l.span l.behind l.columns ≡ first_from l.rise l.span l.behind l.columns l.j
