-- A step with a window and no previous field in `new` by hand, computed: it is taken, with one cell too, and a window cell has the boundary's bits
-- (02, "Job 8": 17 is the sector call's alone).
-- Assumes nothing.
use mathlib.Core.Path.{◌≡◌, refl}
use mathlib.Core.Bool.{false}
use mathlib.Core.List.{List, [], ◌∷◌}
use Prim.Native.Nat.{ℕ}
use lib.ListN.{replicate}
use Rattle.route.specs.Window.{on_edge, edge, cells_between}
use Rattle.route.specs.Step.{portal_of, step_number}
use Rattle.route.specs.Target.{window_of, target_of}
use Rattle.flow_byte.specs.New.{start_of, window_bits, new_byte}
use Rattle.flow_new.specs.Flow.{new_number}

-- an East window from cell 9 on
abbrev east : ℕ → List ℕ
east last = 0 ∷ 0 ∷ 1 ∷ 9 ∷ last ∷ 1 ∷ 0 ∷ 0 ∷ []

pub taken_without : new_number (east 99) false [] (replicate 100 0) ∷ new_number (east 9) false [] (replicate 100 0) ∷ [] ≡ 0 ∷ 0 ∷ []
unfolding new_number step_number on_edge
taken_without = refl

pub straight_without : new_byte (portal_of (east 99)) (window_of (target_of (east 99))) 0x80000 false [] 9 ≡ 0x92
unfolding new_byte start_of window_bits target_of on_edge edge cells_between
straight_without = refl
