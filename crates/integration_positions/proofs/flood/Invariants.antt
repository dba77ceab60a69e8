-- `integration_positions::flood`, the loop's invariant: there is room, and whichever positions the arrays stood for at first, they stand for those after
-- the first i cells of the queue have been gone around from, and the positions of these are written.
-- Assumes nothing.
use mathlib.Core.List.{List}
use Prim.Native.Nat.{ℕ, ◌≤◌, ◌-◌}
use Rattle.integration_positions.specs.Inner.{Placing, Grown, StandsFor, HasRoom, Written, BuiltOn, Flood}
use Rattle.integration_positions.proofs.flood.Given as goal

-- the positions that the arrays stand for after the first i cells of the queue
pub record Turned (costs before corners built values : List ℕ) (position : ℕ) (first : Placing)
    (entries positions queue : List ℕ) (count i : ℕ) : Type 0 where
  pub state : Placing
  pub stands : StandsFor values entries queue count state
  pub written : Written i positions state
  pub grown : Grown first state
  pub flood : Flood costs before corners built values position i state

pub record Holds (built entries₀ positions₀ queue₀ : List ℕ) (gone queued position : ℕ) (entries positions queue : List ℕ) (count i : ℕ) : Type 0 where
  pub room : HasRoom entries queue count
  pub within : i ≤ count
  pub turned : (costs before corners values : List ℕ) (s : Placing) → BuiltOn costs before corners built values → StandsFor values entries₀ queue₀ queued s
      → Written gone positions₀ s → Flood costs before corners built values position gone s
      → Turned costs before corners built values position s entries positions queue count i

abbrev pub invariant-loop-i : goal.invariant-loop-i
invariant-loop-i l =
    Holds l.built l.initial.entered l.initial.positions l.initial.queue l.gone l.queued l.position l.entered l.positions l.queue l.count l.i

abbrev pub decreases-loop-i : goal.decreases-loop-i
decreases-loop-i l = 101 - l.i
