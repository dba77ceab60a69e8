-- No refusal has number 0: where an outcome is told by 0, nothing is refused.
-- Assumes nothing.
use Rattle.std.proofs.Common.{◌≡◌, ◌<◌, arith}
use Rattle.refusals.specs.declared.Refusal.{Refusal}
use Rattle.refusals.specs.declared.Refusal.TheVariants.{CostBytes, Sheet, StepList, StepBytes, Goal, Window, OffEdge, FirstAfterLast}
use Rattle.refusals.specs.declared.Refusal.TheVariants.{LegOrder, NotAcross, Corners, PreviousLength, Outside, LegFile, NoCountingCell, OnWall}
use Rattle.refusals.specs.declared.Refusal.TheVariants.{NoPrevious, BoundsInput, WindowCount, OtherSector, Place}
use Rattle.refusals.specs.Refusal.{number_of}

-- a refusal's number is above 0
pub above_zero : (r : Refusal) → 0 < number_of r
above_zero CostBytes = omega arith
above_zero Sheet = omega arith
above_zero StepList = omega arith
above_zero StepBytes = omega arith
above_zero Goal = omega arith
above_zero Window = omega arith
above_zero OffEdge = omega arith
above_zero FirstAfterLast = omega arith
above_zero LegOrder = omega arith
above_zero NotAcross = omega arith
above_zero Corners = omega arith
above_zero PreviousLength = omega arith
above_zero Outside = omega arith
above_zero LegFile = omega arith
above_zero NoCountingCell = omega arith
above_zero OnWall = omega arith
above_zero NoPrevious = omega arith
above_zero BoundsInput = omega arith
above_zero WindowCount = omega arith
above_zero OtherSector = omega arith
above_zero Place = omega arith

-- so no refusal is told by 0
pub not_zero : (r : Refusal) → number_of r ≡ 0 → ⊥
not_zero r e = let p = above_zero r in omega (arith, p, e)
