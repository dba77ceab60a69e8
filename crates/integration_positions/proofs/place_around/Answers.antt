-- `integration_positions::place_around` meets its contract. Four directions, in the definition's order; each leaves room for the next.
-- Assumes nothing.
use mathlib.Core.List.{List}
use Prim.Native.Nat.{ℕ}
use Rattle.utilities.specs.declared.CompassDir.{CompassDir}
use Rattle.utilities.specs.declared.CompassDir.TheVariants.{North, East, South}
use Rattle.fields.specs.Cell.{stepped, cell_at}
use Rattle.integration_positions.specs.Inner.{Placing, placed_to, placed_around}
use Rattle.integration_positions.proofs.Standing.{has_next}
use Rattle.integration_positions.proofs.place_around.Goals as goal

-- one direction, from a cell that has this value
abbrev go : ℕ → ℕ → CompassDir → List ℕ → ℕ → Placing → Placing
go value from d values p = placed_to values value p (stepped (cell_at from) d)

pub place_towards-two-requires : goal.place_towards-two-requires
place_towards-two-requires c = (c.requires.0, has_next (go c.args.value c.args.from North) c.place_towards-one.ensures c.requires.1)

pub place_towards-three-requires : goal.place_towards-three-requires
place_towards-three-requires c =
    let one = has_next (go c.args.value c.args.from North) c.place_towards-one.ensures c.requires.1 in
    (c.requires.0, has_next (go c.args.value c.args.from East) c.place_towards-two.ensures one)

pub place_towards-requires : goal.place_towards-requires
place_towards-requires c =
    let one = has_next (go c.args.value c.args.from North) c.place_towards-one.ensures c.requires.1 in
    let two = has_next (go c.args.value c.args.from East) c.place_towards-two.ensures one in
    (c.requires.0, has_next (go c.args.value c.args.from South) c.place_towards-three.ensures two)

pub returns : goal.returns
unfolding placed_around
returns c values p s small m =
    let one = c.place_towards-one.ensures values p s small m in
    let two = c.place_towards-two.ensures values p _ small one in
    c.place_towards.ensures values p _ small (c.place_towards-three.ensures values p _ small two)
