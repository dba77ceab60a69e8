-- Sight goes on to its end: the row of `Examples.antt`, whose right end the second wave comes to.
-- Assumes nothing.
use mathlib.Core.Path.{◌≡◌, ap, ◌∙◌}
use Prim.Native.Nat.{◌+◌}
use native.Mathlib.Omega.{arith}
use lib.ListN.{get_or}
use Rattle.integration_started.specs.Sight.{walls, Sight}
use Rattle.integration_started.specs.CornerLine.{corner_line}
use Rattle.integration_started.specs.Started.{sight_from}
use Rattle.integration_started.proofs.Examples.{row, third_queue, third_wave}
use Rattle.integration_started.proofs.Waves.{ended}

pub whole_row : get_or (sight_from row 0).cells 2 0 ≡ 2 + 0x10000
unfolding sight_from
whole_row = ap (λ (s : Sight). get_or s.cells 2 0) (ended (corner_line 0) (walls row) 0 3 100 (omega arith) third_queue) ∙ third_wave
