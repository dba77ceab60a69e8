-- Where no cell is a wall, sight draws no line and makes no wall: the ends of the goal's lines are lent wherever they are read.
--     lent_towards, lent_around, lent_wave     they stay lent, over one direction, over all four, over a wave
--     ends_met                                at a wall they are there
-- Assumes nothing.
use mathlib.Core.Path.{◌≡◌, sym, ◌∙◌}
use mathlib.Core.Bool.{Bool, true, false, cond, ◌||◌, true≢false}
use mathlib.Core.List.{List, [], ◌∷◌}
use mathlib.Core.Logic.{inl, inr}
use Prim.Native.Nat.{ℕ, zero, suc, ◌≤◌}
use native.Mathlib.Omega.{arith}
use lib.ListN.{get_or, set}
use Rattle.utilities.specs.declared.CompassDir.{CompassDir}
use Rattle.utilities.specs.Compass.{orthogonal}
use Rattle.std.specs.Prelude.{Option, Some, None}
use Rattle.fields.specs.declared.FieldCell.{FieldCell}
use Rattle.fields.specs.Cell.{cell_at, index_of, stepped}
use Rattle.integration_field.specs.Word.{is_los, is_goal, is_blocked, is_impassable}
use Rattle.integration_field.specs.Diagonal.{wall_at}
use Rattle.line_end_table.specs.Ends.{EndsFor}
use Rattle.integration_started.specs.Sight.{Sight, sight_word, seen, wall_met, spread_to, spread_towards, spread_around, wave_spread}
use Rattle.integration_started.proofs.Words.{seen_flags}
use Rattle.integration_init.specs.Held.{NoWall, Lent}

-- a word that is no wall, written over any
no_wall_set : (cells : List ℕ) (n v : ℕ) → is_impassable v ≡ false → NoWall cells → NoWall (set cells n v)
no_wall_set [] n v e w m = w m
no_wall_set (x ∷ l) zero v e w zero = e
no_wall_set (x ∷ l) zero v e w (suc m) = w (suc m)
no_wall_set (x ∷ l) (suc n) v e w zero = w zero
no_wall_set (x ∷ l) (suc n) v e w (suc m) = no_wall_set l n v e (λ k. w (suc k)) m

module _ (line : ℕ → List ℕ) (wave : ℕ) (wave_in : wave ≤ 100) where
  open_neighbour : (from : ℕ) (d : CompassDir) (n : ℕ) (s : Sight) → NoWall s.cells → NoWall (spread_to line wave from d n s).cells
  unfolding spread_to seen
  open_neighbour from d n s w = rw (w n) (go (is_blocked x || is_goal x) (is_los x))
    where
      x : ℕ
      x = get_or s.cells n 0

      go : (b l : Bool) → NoWall (cond b s (cond false (wall_met line wave from n d s) (cond l s (seen wave n s)))).cells
      go true l = w
      go false true = w
      go false false = no_wall_set s.cells n (sight_word wave) (seen_flags wave (omega arith)).impassable_is w

  open_towards : (from : ℕ) (d : CompassDir) (to : Option FieldCell) (s : Sight) → NoWall s.cells → NoWall (spread_towards line wave from d to s).cells
  open_towards from d (Some n) s w = open_neighbour from d (index_of n) s w
  open_towards from d None s w = w

  open_around : (from : ℕ) (ds : List CompassDir) (s : Sight) → NoWall s.cells → NoWall (spread_around line wave from ds s).cells
  unfolding spread_around
  open_around from [] s w = w
  open_around from (d ∷ ds) s w = open_around from ds _ (open_towards from d (stepped (cell_at from) d) s w)

  open_wave : (is : List ℕ) (s : Sight) → NoWall s.cells → NoWall (wave_spread line wave is s).cells
  unfolding wave_spread
  open_wave [] s w = w
  open_wave (i ∷ is) s w = open_wave is _ (open_around i orthogonal s w)

  module _ (goal : ℕ) (ends : List ℕ) (s : Sight) where
    pub lent_towards : (from : ℕ) (d : CompassDir) (to : Option FieldCell) → Lent goal ends s.cells → Lent goal ends (spread_towards line wave from d to s).cells
    lent_towards from d to (inl w) = inl (open_towards from d to s w)
    lent_towards from d to (inr h) = inr h

    pub lent_around : (from : ℕ) (ds : List CompassDir) → Lent goal ends s.cells → Lent goal ends (spread_around line wave from ds s).cells
    lent_around from ds (inl w) = inl (open_around from ds s w)
    lent_around from ds (inr h) = inr h

    pub lent_wave : (is : List ℕ) → Lent goal ends s.cells → Lent goal ends (wave_spread line wave is s).cells
    lent_wave is (inl w) = inl (open_wave is s w)
    lent_wave is (inr h) = inr h

pub ends_met : (goal : ℕ) (ends cells : List ℕ) (n : ℕ) → wall_at cells n ≡ true → Lent goal ends cells → EndsFor goal ends
ends_met goal ends cells n e (inl w) = absurd (true≢false (sym e ∙ w n))
ends_met goal ends cells n e (inr h) = h
