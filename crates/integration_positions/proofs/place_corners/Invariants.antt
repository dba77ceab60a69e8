-- `integration_positions::place_corners`, the loop's invariant: there is room, and the positions of the corners before i were handed on.
-- Assumes nothing.
use mathlib.Core.List.{List}
use Prim.Native.Nat.{ℕ}
use lib.ListN.{take}
use Rattle.integration_positions.specs.Inner.{Placing, placing, HasRoom, BuiltOn, GoneOn}
use Rattle.integration_positions.proofs.place_corners.Given as goal

-- whichever costs and cells are meant
pub record Holds (built entered corners : List ℕ) (i : ℕ) (entries : List ℕ) (s : Placing) : Type 0 where
  pub room : HasRoom entries s.queue s.queued
  pub gone : (costs before : List ℕ) → BuiltOn costs before corners built entered → GoneOn costs before corners built entered i entries s

abbrev pub invariant-loop-place : goal.invariant-loop-place
invariant-loop-place l =
    Holds l.built l.initial.entered (take l.count l.corners) l.place l.entered (placing l.positions l.queue l.queued)
