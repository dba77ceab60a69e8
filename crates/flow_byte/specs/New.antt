-- The bytes that a flow field starts with (01, "Flow byte": start, and window cells).
-- Assumes nothing.
use Rattle.std.specs.Prelude.{Bool, false, cond, not, ◌&&◌, ◌||◌, List, [], ◌∷◌, map, ℕ, ◌+◌, ◌-◌, ◌^◌, leb, eqb, get_or}
use Rattle.std.specs.Int.Bits.{bit_or}
use Rattle.utilities.specs.declared.CompassDir.{CompassDir}
use Rattle.utilities.specs.Compass.{opposite, lower_side}
use Rattle.utilities.specs.Lists.{below}
use Rattle.route.specs.declared.PortalWindow.{PortalWindow}
use Rattle.route.specs.Window.{stride, facing}
use Rattle.route.specs.Step.{portal_of}
use Rattle.route.specs.Target.{window_of, target_of}
use Rattle.integration_field.specs.Word.{low, is_los, is_goal, is_portal, is_impassable}
use Rattle.flow_bits.specs.Byte.{bits_of}
use Rattle.flow_byte.specs.declared.SeenValues.{SeenValues}

-- Start: goal 0x70, portal 0x90, LOS 0x30, wall 0xE0, tested in that order; else 0.
unfoldable pub start_of : ℕ → ℕ
start_of x = cond (is_goal x) 0x70 (cond (is_portal x) 0x90 (cond (is_los x) 0x30 (cond (is_impassable x) 0xE0 0)))

-- The facing choice, by the values that a window cell sees: straight if not above either side; else the lower-index side
-- if not above the other two; else the higher. A side's bits are the sum.
unfoldable pub facing_bits : CompassDir → ℕ → ℕ → ℕ → ℕ
facing_bits side lower straight higher =
    cond (leb straight lower && leb straight higher) (bits_of side)
    (cond (leb lower straight && leb lower higher) (bits_of side + bits_of (lower_side side)) (bits_of side + bits_of (opposite (lower_side side))))

-- the low 16 bits of the cell that faces cell i
abbrev pub facing_value : List ℕ → CompassDir → ℕ → ℕ
facing_value previous side i = low (get_or previous (facing side i) 0)

-- End cells see two: what an end cell does not see counts as above every cell's value.
abbrev pub unless_end : Bool → ℕ → ℕ
unless_end end value = cond end (2 ^ 16) value

-- What window cell i compares: the values of the cell that faces it, and of those that face its neighbours in the step's window.
abbrev pub seen_values : PortalWindow → List ℕ → ℕ → SeenValues
seen_values portal previous i =
    let side = portal.boundary in
    record {
      lower = unless_end (eqb i portal.start) (facing_value previous side (i - stride side));
      straight = facing_value previous side i;
      higher = unless_end (eqb i portal.end) (facing_value previous side (i + stride side));
    }

-- the facing choice of window cell i
unfoldable pub facing_choice : PortalWindow → List ℕ → ℕ → ℕ
facing_choice portal previous i =
    let seen = seen_values portal previous i in
    facing_bits portal.boundary seen.lower seen.straight seen.higher

-- The bits of window cell i: without a previous field, or with one window cell, the boundary's; else the facing choice.
unfoldable pub window_bits : PortalWindow → Bool → List ℕ → ℕ → ℕ
window_bits portal has previous i =
    cond (not has || eqb portal.start portal.end) (bits_of portal.boundary) (facing_choice portal previous i)

-- a list has the number i
abbrev pub is_in : ℕ → List ℕ → Bool
is_in i [] = false
is_in i (n ∷ ns) = eqb n i || is_in i ns

-- The first byte of cell i, whose 32 bits are x: all bits are or-ed on. `window` are the target's window cells; the bits of each go by the
-- whole of the step's window, `portal`.
unfoldable pub new_byte : PortalWindow → List ℕ → ℕ → Bool → List ℕ → ℕ → ℕ
new_byte portal window x has previous i = bit_or (start_of x) (cond (is_in i window) (window_bits portal has previous i) 0)

-- the 100 bytes of a new flow field for an integration field's cells; `has` says whether there is a previous field
unfoldable pub new_bytes : PortalWindow → List ℕ → List ℕ → Bool → List ℕ → List ℕ
new_bytes portal window cells has previous = map (λ i. new_byte portal window (get_or cells i 0) has previous i) (below 100)

-- the 100 bytes of a new flow field for a step: `FlowField::new` of 01
abbrev pub flow_new : List ℕ → List ℕ → Bool → List ℕ → List ℕ
flow_new step cells has previous = new_bytes (portal_of step) (window_of (target_of step)) cells has previous
