-- Steps to the four sides: around a square, and their parity.
--     by_side                     what holds of the four sides holds of each
--     square                      two steps in either order arrive at the same cell
--     odd                         a step changes the parity of column plus row
--     sideways_away               a step and a step sideways do not come back
-- Assumes nothing.
use mathlib.Core.Path.{◌≡◌, refl, sym, subst}
use mathlib.Core.Bool.{Bool, true, false, true≢false}
use mathlib.Core.Logic.{◌⊎◌, inl, inr, ⊎_elim}
use Prim.Native.Nat.{◌+◌, ◌%◌}
use native.Mathlib.Omega.{arith}
use Rattle.utilities.specs.declared.CompassDir.{CompassDir}
use Rattle.utilities.specs.declared.CompassDir.TheVariants.{North, East, South, West, NorthEast, SouthEast, SouthWest, NorthWest, Zero}
use Rattle.utilities.specs.Compass.{opposite, lower_side}
use Rattle.fields.specs.declared.FieldCell.{FieldCell}
use Rattle.std.specs.Prelude.{Some}
use Rattle.fields.specs.Cell.{stepped}
use Rattle.fields.proofs.Steps.{Told, stepped_cell, told, steps_by}

-- one of the four sides
abbrev pub is_side : CompassDir → Bool
is_side North = true
is_side East = true
is_side South = true
is_side West = true
is_side NorthEast = false
is_side SouthEast = false
is_side SouthWest = false
is_side NorthWest = false
is_side Zero = false

pub by_side : (Q : CompassDir → Type 0) → Q North → Q East → Q South → Q West → (d : CompassDir) → is_side d ≡ true → Q d
by_side Q n e s w North o = n
by_side Q n e s w East o = e
by_side Q n e s w South o = s
by_side Q n e s w West o = w
by_side Q n e s w NorthEast o = absurd (true≢false (sym o))
by_side Q n e s w SouthEast o = absurd (true≢false (sym o))
by_side Q n e s w SouthWest o = absurd (true≢false (sym o))
by_side Q n e s w NorthWest o = absurd (true≢false (sym o))
by_side Q n e s w Zero o = absurd (true≢false (sym o))

pub square : (d side : CompassDir) (c x a g : FieldCell) → stepped c d ≡ Some x → stepped x side ≡ Some g → stepped c side ≡ Some a
    → stepped a d ≡ Some g
square d side c x a g ex eg ea =
    let p = stepped_cell c d x ex in
    let q = stepped_cell x side g eg in
    let u = told c d x p in
    let v = told x side g q in
    let w = told c side a (stepped_cell c side a ea) in
    steps_by a d g p.pointing (omega arith) q.within

pub odd : (d : CompassDir) (c n : FieldCell) → is_side d ≡ true → stepped c d ≡ Some n → (c.column + c.row + n.column + n.row) % 2 ≡ 1
odd d c n o e =
    by_side (λ d. Told c d n → (c.column + c.row + n.column + n.row) % 2 ≡ 1)
    (λ a. omega arith) (λ a. omega arith) (λ a. omega arith) (λ a. omega arith)
    d o (told c d n (stepped_cell c d n e))

-- a direction sideways to d
abbrev pub Sideways : CompassDir → CompassDir → Type 0
Sideways d side = (side ≡ lower_side d) ⊎ (side ≡ opposite (lower_side d))

-- what holds of both directions sideways to each side
pub by_sideways : (Q : CompassDir → CompassDir → Type 0)
    → Q North West → Q North East → Q East North → Q East South → Q South West → Q South East → Q West North → Q West South
    → (d side : CompassDir) → is_side d ≡ true → Sideways d side → Q d side
by_sideways Q nw ne en es sw se wn ws d side o w =
    ⊎_elim
    (λ (e : side ≡ lower_side d). subst (Q d) (sym e) (by_side (λ t. Q t (lower_side t)) nw en sw wn d o))
    (λ (e : side ≡ opposite (lower_side d)). subst (Q d) (sym e) (by_side (λ t. Q t (opposite (lower_side t))) ne es se ws d o))
    w

pub side_opposite : (d : CompassDir) → is_side d ≡ true → is_side (opposite d) ≡ true
side_opposite = by_side (λ d. is_side (opposite d) ≡ true) refl refl refl refl

pub side_sideways : (d side : CompassDir) → is_side d ≡ true → Sideways d side → is_side side ≡ true
side_sideways = by_sideways (λ d side. is_side side ≡ true) refl refl refl refl refl refl refl refl

-- the way back is sideways to the side's way back
pub sideways_back : (d side : CompassDir) → is_side d ≡ true → Sideways d side → Sideways (opposite side) (opposite d)
sideways_back =
    by_sideways (λ d side. Sideways (opposite side) (opposite d))
    (inr refl) (inr refl) (inl refl) (inl refl) (inl refl) (inl refl) (inr refl) (inr refl)

pub sideways_away : (c x : FieldCell) (d side : CompassDir) → is_side d ≡ true → Sideways d side → stepped c d ≡ Some x → stepped x side ≡ Some c → ⊥
sideways_away c x d side o w e f = by_sideways (λ d side. Told c d x → Told x side c → ⊥)
    (λ a b. omega arith) (λ a b. omega arith) (λ a b. omega arith) (λ a b. omega arith)
    (λ a b. omega arith) (λ a b. omega arith) (λ a b. omega arith) (λ a b. omega arith)
    d side o w (told c d x (stepped_cell c d x e)) (told x side c (stepped_cell x side c f))
