-- `practice::values_of` meets its contract. The loop's invariant: the places before n hold the definition's values.
-- Assumes nothing.
use Rattle.std.proofs.Common.{◌≡◌, ◌-◌, length, take}
use Rattle.practice.specs.Values.{values_to}
use Rattle.practice.proofs.values_of.Given as goal

abbrev pub invariant-loop-n : goal.invariant-loop-n
invariant-loop-n l = (length l.values ≡ 156) × (take l.n l.values ≡ values_to l.seed (l.n - 1))
