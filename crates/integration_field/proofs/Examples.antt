-- Small computed cases of waves (01, "Integration: build"), on as many cells as each needs.
-- Assumes nothing.
use mathlib.Core.Path.{◌≡◌, refl}
use mathlib.Core.List.{[], ◌∷◌, map}
use Prim.Native.Nat.{ℕ}
use lib.Dec.{eqb}
use lib.ListN.{replicate}
use Rattle.fields.specs.Cell.{cell, stepped}
use Rattle.std.specs.Prelude.{Some}
use Rattle.integration_field.specs.declared.IntegrationField.{IntegrationField}
use Rattle.integration_field.specs.Listed.{with_corners}
use Rattle.integration_field.specs.Wave.{relaxed, offered, offered_around, offered_by, changed_from, next, wave_at}
use Rattle.integration_field.specs.Rest.{total}
use Rattle.integration_field.specs.Build.{is_empty, settle, build}
use Rattle.integration_field.specs.Built.{built_field, wave_count}
use Rattle.integration_field.specs.Position.{arrives_from, first_position, position_at}

-- a sum is written without flags, into a goal too, and only where it is strictly smaller
pub without_flags : relaxed 5 0 (0x80009 ∷ []) ≡ 5 ∷ []
unfolding relaxed
without_flags = refl

pub goal_entered : relaxed 5 0 (0x20009 ∷ []) ≡ 5 ∷ []
unfolding relaxed
goal_entered = refl

pub equal_passed : relaxed 9 0 (0x80009 ∷ []) ≡ 0x80009 ∷ []
unfolding relaxed
equal_passed = refl

-- 65535 and a cost of 1 are 65536, which is not below 5
pub whole_sum : offered (1 ∷ []) 65535 (Some (cell 0 0)) (5 ∷ []) ≡ 5 ∷ []
unfolding relaxed
whole_sum = refl

-- cells 0 and 1 offer what the wave before left them: cell 2 is offered 9 and 1, not the 6 that cell 1 has meanwhile and 1
pub old_values : offered_by (replicate 3 1) (5 ∷ 9 ∷ 65535 ∷ []) (0 ∷ 1 ∷ []) (5 ∷ 9 ∷ 65535 ∷ []) ≡ 5 ∷ 6 ∷ 10 ∷ []
unfolding offered_by offered_around relaxed stepped
old_values = refl

-- wave 0 leaves the cells as they are
pub nothing_handed_out : (wave_at [] (7 ∷ []) [] 0).cells ≡ 7 ∷ []
unfolding wave_at
nothing_handed_out = refl

-- three cells of cost 1 beside a corner of value 0: three waves
abbrev row : IntegrationField
row = with_corners (0 ∷ replicate 3 65535) (0 ∷ [])

pub row_built : (built_field (replicate 4 1) row).field ≡ 0 ∷ 1 ∷ 2 ∷ 3 ∷ []
unfolding build settle total is_empty next offered_by offered_around relaxed changed_from stepped
row_built = refl

pub row_waves : wave_count (replicate 4 1) row ≡ 3
unfolding build settle total is_empty next offered_by offered_around relaxed changed_from stepped
row_waves = refl

-- ---- positions (02, "Job 10")

-- the first of two corners that both arrive
pub first_of_two : first_position (eqb 7) 0 (3 ∷ 7 ∷ 7 ∷ []) ≡ 1
unfolding first_position
first_of_two = refl

pub no_corner : first_position (eqb 7) 0 (3 ∷ []) ≡ 255
unfolding first_position
no_corner = refl

-- Two corners of values 9 and 0, side by side, of cost 1: the first is lowered to 1 by a walk from the second, and starts nothing.
abbrev lowered_corner : ℕ → ℕ
lowered_corner = position_at (1 ∷ 1 ∷ 1 ∷ []) (9 ∷ 0 ∷ 65535 ∷ []) (0 ∷ 1 ∷ [])

pub lowered_by_second : map lowered_corner (0 ∷ 1 ∷ 2 ∷ []) ≡ 1 ∷ 1 ∷ 1 ∷ []
unfolding arrives_from first_position build settle total is_empty next offered_by offered_around relaxed changed_from stepped
lowered_by_second = refl

-- A corner that is a wall starts a walk, and holds no position itself; a cell flagged GOAL is passed, and holds none.
abbrev past_goal : ℕ → ℕ
past_goal = position_at (1 ∷ 1 ∷ 1 ∷ []) (0x2000000 ∷ 0x20009 ∷ 65535 ∷ []) (0 ∷ [])

pub wall_and_goal : map past_goal (0 ∷ 1 ∷ 2 ∷ []) ≡ 255 ∷ 255 ∷ 0 ∷ []
unfolding arrives_from first_position build settle total is_empty next offered_by offered_around relaxed changed_from stepped
wall_and_goal = refl
