-- The numbers of the table of refusals (01, "A leg", the table; 02), by their names.
-- Assumes nothing.
use Rattle.std.specs.Prelude.{ℕ, Result, Ok, Err}
use Rattle.refusals.specs.declared.Refusal.{Refusal}
use Rattle.refusals.specs.declared.Refusal.TheVariants.{CostBytes, Sheet, StepList, StepBytes, Goal, Window, OffEdge, FirstAfterLast}
use Rattle.refusals.specs.declared.Refusal.TheVariants.{LegOrder, NotAcross, Corners, PreviousLength, Outside, LegFile, NoCountingCell, OnWall}
use Rattle.refusals.specs.declared.Refusal.TheVariants.{NoPrevious, BoundsInput, WindowCount, OtherSector, Place}

-- a refusal's number
abbrev pub number_of : Refusal → ℕ
number_of CostBytes = 1
number_of Sheet = 2
number_of StepList = 3
number_of StepBytes = 4
number_of Goal = 5
number_of Window = 6
number_of OffEdge = 7
number_of FirstAfterLast = 8
number_of LegOrder = 9
number_of NotAcross = 10
number_of Corners = 11
number_of PreviousLength = 12
number_of Outside = 13
number_of LegFile = 14
number_of NoCountingCell = 15
number_of OnWall = 16
number_of NoPrevious = 17
number_of BoundsInput = 18
number_of WindowCount = 19
number_of OtherSector = 20
number_of Place = 21

-- the number that an outcome is told by: 0 where nothing is refused
abbrev pub told : {A : Type 0} → Result A Refusal → ℕ
told (Ok x) = 0
told (Err r) = number_of r
