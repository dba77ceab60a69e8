-- Small computed cases of a leg as a file (02, Job 1).
-- Assumes nothing.
use mathlib.Core.Path.{◌≡◌, refl}
use mathlib.Core.List.{[], ◌∷◌}
use Rattle.route.specs.Step.{no_step_list}
use Rattle.leg_file.specs.File.{write_number, written_file, is_marked, is_leg_file, file_number, file_steps}

-- no step, and a buffer that does not fit: the list is refused first
pub list_first : write_number [] (7 ∷ []) ≡ 3
unfolding no_step_list write_number
list_first = refl

-- a refusal leaves the buffer as it was
pub left_alone : written_file [] (7 ∷ []) ≡ 7 ∷ []
unfolding no_step_list write_number written_file
left_alone = refl

-- a refused file has no steps
pub none_read : file_steps (7 ∷ []) ≡ []
unfolding is_marked is_leg_file file_number file_steps
none_read = refl
