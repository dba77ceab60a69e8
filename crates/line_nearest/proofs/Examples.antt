-- Small computed cases of a walk whose minor span is above the major one: the Rust's answer is a diagonal that ends short of the target.
-- Assumes nothing.
use mathlib.Core.Path.{◌≡◌, refl}
use mathlib.Core.List.{[], ◌∷◌}
use Rattle.fields.specs.Cell.{cell}
use Rattle.line_nearest.specs.Table.{table}
use Rattle.line_nearest.specs.Line.{toward, nearest, shallow, answered, shallow_call}

pub wide_walk : shallow (cell 0 0) (cell 1 5) ≡ cell 0 0 ∷ cell 1 1 ∷ []
unfolding toward nearest table shallow
wide_walk = refl

pub wide_call : shallow_call (cell 0 0) (cell 1 5) ≡ answered (cell 0 0 ∷ cell 1 1 ∷ [])
unfolding toward nearest table shallow
wide_call = refl
