-- A step's target in a leg, as the program holds it: for the contracts of this crate's functions.
-- Assumes nothing.
use Rattle.std.specs.Prelude.{Bool, false, eqb}
use Rattle.route.specs.declared.Target.{Target}
use Rattle.route.specs.declared.Target.TheVariants.{Goal, Window, Corner}

-- the program's test of a target: a window without cells
abbrev pub found_closed : Target → Bool
found_closed (Goal n) = false
found_closed (Window w) = eqb w.count 0
found_closed (Corner n) = false
