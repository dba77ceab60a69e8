-- The first wave meets three cells: the goal, a neighbour in its row and one in its column. Every later wave meets one more, or queues nothing: so
-- there are fewer than 100 waves.
--     three            three different places that pass a test
--     neighbour_met    each neighbour of the goal is met
--     first_meets      so three cells are met
-- Assumes nothing.
use mathlib.Core.Path.{◌≡◌, refl, sym, ◌∙◌, ap, subst}
use mathlib.Core.Bool.{Bool, true, false, cond, ◌||◌}
use mathlib.Core.List.{List, [], ◌∷◌}
use Prim.Native.Nat.{ℕ, ◌+◌, ◌<◌, ◌≤◌}
use native.Mathlib.Omega.{arith}
use native.Mathlib.Decide.{dec_lt}
use lib.ListN.{get_or}
use Rattle.utilities.specs.declared.CompassDir.{CompassDir}
use Rattle.utilities.specs.declared.CompassDir.TheVariants.{North, East, South, West}
use Rattle.utilities.specs.Compass.{points, orthogonal}
use Rattle.fields.specs.declared.FieldCell.{FieldCell}
use Rattle.std.specs.Prelude.{Some}
use Rattle.fields.specs.Cell.{cell, Inside, cell_at, index_of, stepped}
use Rattle.fields.proofs.Steps.{Told, stepped_cell, steps_by, index_below, cell_inside}
use Rattle.integration_field.specs.Word.{is_los, is_goal, is_blocked, is_impassable}
use Rattle.integration_started.specs.Sight.{Sight, sight_word, seen, wall_met, spread_to, spread_around}
use Rattle.integration_started.specs.Lines.{Lines}
use Rattle.utilities.specs.Count.{count}
use Rattle.utilities.proofs.Count.{Passes, once_room, each_more, each_one, once_more, at_set}
use Rattle.integration_started.proofs.Kept.{kept_wall, kept_around}
use Rattle.integration_started.proofs.Sides.{is_side}
use Rattle.integration_started.proofs.Wave.{is_met, met_los, met_goal, met_blocked, met_wall, met}
use Rattle.integration_started.proofs.FirstWave.{Never, First, first_with, first_keeps, spread, around}

-- a neighbour of a cell
record Neighbour (c : FieldCell) : Type 0 where
  way : CompassDir
  at : FieldCell
  is_side_law : is_side way ≡ true
  step : stepped c way ≡ Some at

abbrev neighbour : (c : FieldCell) (d : CompassDir) (n : FieldCell) → is_side d ≡ true → points d ≡ true → Told c d n → Inside n → Neighbour c
neighbour c d n o p t i = record { way = d; at = n; is_side_law = o; step = steps_by c d n p t i }

-- a cell has a neighbour in its row, and one in its column
module _ (c : FieldCell) (i : Inside c) where
  in_row : (n : Neighbour c) × (n.at.row ≡ c.row) × (n.at.column ≡ c.column → ⊥)
  in_row = elim (dec_lt c.column 9) [
    | yes h ↦ (neighbour c East (cell (c.column + 1) c.row) refl refl (omega arith) (omega arith), refl, omega arith)
    | no h ↦ (neighbour c West (cell 8 c.row) refl refl (omega arith) (omega arith), refl, omega arith)
  ]

  in_column : (n : Neighbour c) × (n.at.column ≡ c.column) × (n.at.row ≡ c.row → ⊥)
  in_column = elim (dec_lt c.row 9) [
    | yes h ↦ (neighbour c South (cell c.column (c.row + 1)) refl refl (omega arith) (omega arith), refl, omega arith)
    | no h ↦ (neighbour c North (cell c.column 8) refl refl (omega arith) (omega arith), refl, omega arith)
  ]

-- three different places that pass a test are no more than the count
three : (f : ℕ → Bool) (cells : List ℕ) (a b c : ℕ) → f 0 ≡ false → Passes f cells a → Passes f cells b → Passes f cells c
    → (a ≡ b → ⊥) → (a ≡ c → ⊥) → (b ≡ c → ⊥) → 3 ≤ count f cells
three f cells a b c z pa pb pc ab ac bc =
    let P = Passes f cells in
    once_room f z (a ∷ b ∷ c ∷ []) cells
    (each_more (a ∷ b ∷ []) c P (each_more (a ∷ []) b P (each_one P a pa) pb) pc)
    (once_more (a ∷ b ∷ []) c
    (once_more (a ∷ []) b (λ i j h k. absurd (omega arith)) (each_one (λ m. m ≡ b → ⊥) a ab))
    (each_more (a ∷ []) b (λ m. m ≡ c → ⊥) (each_one (λ m. m ≡ c → ⊥) a ac) bc))

module _ (goal : ℕ) (goal_in : goal < 100) (walls : ℕ → Bool) (corner_line : ℕ → List ℕ) (lines : Lines goal corner_line) where
  module _ (d : CompassDir) (n : FieldCell) (is_side_law : is_side d ≡ true) (step : stepped (cell_at goal) d ≡ Some n) where
    abbrev This : ℕ → Type 0
    This m = m ≡ index_of n

    this_in : index_of n < 100
    this_in = index_below n (stepped_cell (cell_at goal) d n step).within

    meets_by : (t : Sight) → First goal walls Never Never t → is_met (get_or t.cells (index_of n) 0) ≡ true → First goal walls Never This t
    meets_by t p is-met =
        first_with goal walls Never This t p (λ c never. absurd never)
        (λ c is-n. subst (λ (m : ℕ). is_met (get_or t.cells m 0) ≡ true) (sym is-n) is-met)

    -- whatever the neighbour's word is, it is met, or sight sees it
    meets : (t : Sight) → First goal walls Never Never t → First goal walls Never This (spread goal walls corner_line lines d t)
    unfolding spread_to seen
    meets t p = rw step (go (is_blocked x) refl (is_goal x) refl (is_impassable x) refl (is_los x) refl)
      where
        x : ℕ
        x = get_or t.cells (index_of n) 0

        go : (b : Bool) → is_blocked x ≡ b → (g : Bool) → is_goal x ≡ g → (w : Bool) → is_impassable x ≡ w → (l : Bool) → is_los x ≡ l
            → First goal walls Never This (cond (b || g) t (cond w (wall_met corner_line 1 goal (index_of n) d t) (cond l t (seen 1 (index_of n) t))))
        go true eb g eg w ew l el = meets_by t p (met_blocked x eb)
        go false eb true eg w ew l el = meets_by t p (met_goal x eg)
        go false eb false eg true ew l el =
            kept_wall (first_keeps goal walls corner_line lines Never This) goal d n refl is_side_law step (sym (p.sound.same (index_of n)) ∙ ew) t
            (meets_by t p (met_wall x ew))
        go false eb false eg false ew true el = meets_by t p (met_los x el)
        go false eb false eg false ew false el =
            meets_by (seen 1 (index_of n) t)
            ((first_keeps goal walls corner_line lines Never Never).sees goal d n t p refl is_side_law step
            (record { los_is = el; goal_is = eg; blocked_is = eb; impassable_is = ew }))
            (at_set (λ y. is_met y ≡ true) t.cells (index_of n) (sight_word 1) (index_of n)
            (omega (arith, this_in, p.sound.room.full)) (λ q. refl) (λ q. absurd (q refl)))

    neighbour_met : (s : Sight) → First goal walls Never Never s → is_met (get_or (spread_around corner_line 1 goal orthogonal s).cells (index_of n) 0) ≡ true
    neighbour_met s p = (around goal walls corner_line lines Never This d is_side_law meets s p).stays_met (index_of n) this_in refl

  pub first_meets : (s : Sight) → First goal walls Never Never s → 3 ≤ met goal walls (spread_around corner_line 1 goal orthogonal s)
  first_meets s p =
      let q = kept_around (first_keeps goal walls corner_line lines Never Never) goal refl s p in
      let full = q.sound.room.full in
      let i = cell_inside goal goal_in in
      let (a, same_row, other_column) = in_row (cell_at goal) i in
      let (b, same_column, other_row) = in_column (cell_at goal) i in
      let a_in = (stepped_cell (cell_at goal) a.way a.at a.step).within in
      let b-in = (stepped_cell (cell_at goal) b.way b.at b.step).within in
      three is_met (spread_around corner_line 1 goal orthogonal s).cells goal (index_of a.at) (index_of b.at) refl
      (omega arith, ap is_met q.sound.at_goal)
      (omega arith, neighbour_met a.way a.at a.is_side_law a.step s p)
      (omega arith, neighbour_met b.way b.at b.is_side_law b.step s p)
      (λ e. other_column (omega arith))
      (λ e. other_row (omega arith))
      (λ e. other_row (omega (arith, same_row)))
