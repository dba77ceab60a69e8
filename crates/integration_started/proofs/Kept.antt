-- What marking a cell and seeing a cell keep, a whole wave of sight keeps: one induction for every fact about sight.
-- Assumes nothing.
use mathlib.Core.Path.{◌≡◌, refl, sym, ◌∙◌}
use mathlib.Core.Bool.{Bool, true, false, cond, ◌||◌, true≢false}
use mathlib.Core.List.{List, [], ◌∷◌}
use mathlib.Core.Logic.{inl, inr}
use Prim.Native.Nat.{ℕ, suc, ◌+◌, ◌≤◌}
use native.Mathlib.Omega.{arith}
use lib.ListN.{length, get_or}
use Rattle.utilities.specs.declared.CompassDir.{CompassDir}
use Rattle.utilities.specs.declared.CompassDir.TheVariants.{North, East, South, West}
use Rattle.utilities.specs.Compass.{orthogonal, opposite, lower_side}
use Rattle.fields.specs.declared.FieldCell.{FieldCell}
use Rattle.std.specs.Prelude.{Option, Some, None}
use Rattle.fields.specs.Cell.{cell_at, index_of, stepped}
use Rattle.integration_field.specs.Word.{is_los, is_goal, is_blocked, is_impassable}
use Rattle.integration_field.specs.Diagonal.{wall_at}
use Rattle.integration_started.specs.Sight.{Sight, listed, marked, stopped, line_marked, seen, unless_wall, extended, corner_of, side_tried}
use Rattle.integration_started.specs.Sight.{wall_met, spread_to, spread_towards, spread_around, wave_spread}
use Rattle.utilities.proofs.Count.{Each}
use Rattle.integration_started.proofs.Words.{Flags}
use Rattle.integration_started.proofs.Sides.{is_side, Sideways}

-- the wave cell `from` meets the wall x in direction d, and tries a side: cell a is beside the wave cell, the corner b beside the wall
pub record Found (walls : ℕ → Bool) (from : ℕ) (d : CompassDir) (x : FieldCell) (side : CompassDir) (a b : FieldCell) : Type 0 where
  pub ahead : stepped (cell_at from) d ≡ Some x
  pub wall : walls (index_of x) ≡ true
  pub sideways : Sideways d side
  pub beside : stepped (cell_at from) side ≡ Some a
  pub beside_free : walls (index_of a) ≡ false
  pub cornered : stepped (cell_at (index_of x)) side ≡ Some b

-- The facts `P` of sight are kept in a wave: over cells `From`, where the cells of lines are `Free`, and the walls stay `walls`.
pub record Keeps (corner_line : ℕ → List ℕ) (wave : ℕ) (walls : ℕ → Bool) (From Free : ℕ → Type 0) (P : Sight → Type 0) : Type 0 where
  pub same_walls : (s : Sight) → P s → (n : ℕ) → wall_at s.cells n ≡ walls n
  pub marks : (value n : ℕ) (s : Sight) → P s → Free n → value ≤ wave + 10 → wall_at s.cells n ≡ false → is_blocked (get_or s.cells n 0) ≡ false
      → P (listed value n s)
  pub sees : (from : ℕ) (d : CompassDir) (n : FieldCell) (s : Sight) → P s → From from → is_side d ≡ true → stepped (cell_at from) d ≡ Some n
      → Flags (get_or s.cells (index_of n) 0) false false false false → P (seen wave (index_of n) s)
  pub draws : (from : ℕ) (d : CompassDir) (x : FieldCell) (side : CompassDir) (a b : FieldCell) → From from → is_side d ≡ true
      → Found walls from d x side a b
      → Each Free (corner_line (index_of b)) × (length (corner_line (index_of b)) ≤ 10)

or_false : (a b : Bool) → (a || b) ≡ false → (a ≡ false) × (b ≡ false)
or_false true b e = absurd (true≢false e)
or_false false b e = (refl, e)

module _ {corner_line : ℕ → List ℕ} {wave : ℕ} {walls : ℕ → Bool} {From Free : ℕ → Type 0} {P : Sight → Type 0}
    (k : Keeps corner_line wave walls From Free P) where
  pub kept_marked : (value n : ℕ) (s : Sight) → P s → Free n → value ≤ wave + 10 → wall_at s.cells n ≡ false → P (marked value n s)
  unfolding marked
  kept_marked value n s p f h w = go (is_blocked (get_or s.cells n 0)) refl
    where
      go : (b : Bool) → is_blocked (get_or s.cells n 0) ≡ b → P (cond b s (listed value n s))
      go true e = p
      go false e = k.marks value n s p f h w e

  pub kept_line : (ns : List ℕ) (i previous : ℕ) (s : Sight) → P s → Each Free ns → i + length ns ≤ 10 → P (line_marked wave i previous ns s)
  unfolding line_marked
  kept_line [] i previous s p f h = p
  kept_line (n ∷ ns) i previous s p f h =
      go (stopped s.cells previous n) refl
      (λ m. kept_line ns (suc i) n (marked (wave + 1 + i) n s) m (λ j l. f (suc j) (omega arith)) (omega arith))
    where
      go : (b : Bool) → stopped s.cells previous n ≡ b
          → (P (marked (wave + 1 + i) n s) → P (line_marked wave (suc i) n ns (marked (wave + 1 + i) n s)))
          → P (cond b s (line_marked wave (suc i) n ns (marked (wave + 1 + i) n s)))
      go true e rest = p
      go false e rest = rest (kept_marked (wave + 1 + i) n s p (f 0 (omega arith)) (omega arith) (or_false _ _ e).0)

  pub kept_extended : (corner : ℕ) (s : Sight) → P s → Each Free (corner_line corner) → length (corner_line corner) ≤ 10
      → P (extended corner_line wave corner s)
  unfolding extended
  kept_extended corner s p f h = kept_line (corner_line corner) 0 corner s p f (omega arith)

  -- the wave cell meets a wall, in one of the four directions
  module _ (from : ℕ) (d : CompassDir) (x : FieldCell) (inWave : From from) (side-way : is_side d ≡ true)
      (ahead : stepped (cell_at from) d ≡ Some x) (wall : walls (index_of x) ≡ true) where
    pub kept_side : (side : CompassDir) (s : Sight) → Sideways d side → P s → P (side_tried corner_line wave from (index_of x) side s)
    unfolding side_tried
    kept_side side s w p = go (stepped (cell_at from) side) (stepped (cell_at (index_of x)) side) refl refl
      where
        corner : (a b : FieldCell) → stepped (cell_at from) side ≡ Some a → stepped (cell_at (index_of x)) side ≡ Some b → (t u : Bool)
            → wall_at s.cells (index_of a) ≡ t → wall_at s.cells (index_of b) ≡ u
            → P (corner_of corner_line wave (cond t None (Some a)) (cond u None (Some b)) s)
        corner a b ea eb true u et eu = p
        corner a b ea eb false true et eu = p
        corner a b ea eb false false et eu =
            let line = k.draws from d x side a b inWave side-way (record {
              ahead = ahead;
              wall = wall;
              sideways = w;
              beside = ea;
              beside_free = sym (k.same_walls s p (index_of a)) ∙ et;
              cornered = eb;
            }) in
            kept_extended (index_of b) s p line.0 line.1

        half : (t : Bool) (a : FieldCell) → P (corner_of corner_line wave (cond t None (Some a)) None s)
        half true a = p
        half false a = p

        go : (a b : Option FieldCell) → stepped (cell_at from) side ≡ a → stepped (cell_at (index_of x)) side ≡ b
            → P (corner_of corner_line wave (unless_wall s.cells a) (unless_wall s.cells b) s)
        go (Some a) (Some b) ea eb = corner a b ea eb (wall_at s.cells (index_of a)) (wall_at s.cells (index_of b)) refl refl
        go (Some a) None ea eb = half (wall_at s.cells (index_of a)) a
        go None b ea eb = p

    pub kept_wall : (s : Sight) → P s → P (wall_met corner_line wave from (index_of x) d s)
    unfolding wall_met
    kept_wall s p =
        kept_side (opposite (lower_side d)) (side_tried corner_line wave from (index_of x) (lower_side d) s) (inr refl)
        (kept_side (lower_side d) s (inl refl) p)

  module _ (from : ℕ) (inWave : From from) where
    pub kept_neighbour : (d : CompassDir) (n : FieldCell) (s : Sight) → is_side d ≡ true → stepped (cell_at from) d ≡ Some n → P s
        → P (spread_to corner_line wave from d (index_of n) s)
    unfolding spread_to
    kept_neighbour d n s o e p = go (is_blocked x) refl (is_goal x) refl (is_impassable x) refl (is_los x) refl
      where
        x : ℕ
        x = get_or s.cells (index_of n) 0

        go : (b : Bool) → is_blocked x ≡ b → (g : Bool) → is_goal x ≡ g → (w : Bool) → is_impassable x ≡ w → (l : Bool) → is_los x ≡ l
            → P (cond (b || g) s (cond w (wall_met corner_line wave from (index_of n) d s) (cond l s (seen wave (index_of n) s))))
        go true eb g eg w ew l el = p
        go false eb true eg w ew l el = p
        go false eb false eg true ew l el = kept_wall from d n inWave o e (sym (k.same_walls s p (index_of n)) ∙ ew) s p
        go false eb false eg false ew true el = p
        go false eb false eg false ew false el = k.sees from d n s p inWave o e (record { los_is = el; goal_is = eg; blocked_is = eb; impassable_is = ew })

    pub kept_towards : (d : CompassDir) (s : Sight) → is_side d ≡ true → P s → P (spread_towards corner_line wave from d (stepped (cell_at from) d) s)
    kept_towards d s o p = go (stepped (cell_at from) d) refl
      where
        go : (n : Option FieldCell) → stepped (cell_at from) d ≡ n → P (spread_towards corner_line wave from d n s)
        go (Some n) e = kept_neighbour d n s o e p
        go None e = p

    pub kept_around : (s : Sight) → P s → P (spread_around corner_line wave from orthogonal s)
    unfolding spread_around
    kept_around s p = kept_towards West _ refl (kept_towards South _ refl (kept_towards East _ refl (kept_towards North s refl p)))

  pub kept_wave : (ns : List ℕ) (s : Sight) → Each From ns → P s → P (wave_spread corner_line wave ns s)
  unfolding wave_spread
  kept_wave [] s f p = p
  kept_wave (n ∷ ns) s f p =
      kept_wave ns (spread_around corner_line wave n orthogonal s) (λ i h. f (suc i) (omega arith)) (kept_around n (f 0 (omega arith)) s p)
