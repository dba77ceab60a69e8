-- Costs that are not 100 are refused with number 1, whatever the steps.
-- Assumes nothing.
use Rattle.std.proofs.Common.{◌≡◌, ℕ, List, length}
use borrow.Author.Tests.{ne_eqb}
use Rattle.window_square.specs.Square.{window_costs_number}

pub other_length : (costs steps : List ℕ) → (length costs ≡ 100 → ⊥) → 1 ≡ window_costs_number costs steps
unfolding window_costs_number
other_length costs steps other = rw (ne_eqb (length costs) 100 other)
