-- What is printed for a step with a window, computed (02, "Job 8"): costs of 1, an East window 9 to 99, and one of the single cell 9.
-- Assumes nothing.
use mathlib.Core.Path.{◌≡◌, refl}
use mathlib.Core.List.{List, [], ◌∷◌, ◌++◌}
use Prim.Native.Nat.{ℕ}
use lib.ListN.{replicate}
use Rattle.route.specs.Window.{on_edge, edge, cells_between}
use Rattle.route.specs.Step.{step_number_on}
use Rattle.print_text.specs.Rows.{decimal}
use Rattle.sector.specs.Sector.{sector_number}
use Rattle.sector_text.specs.Text.{no_text, rendered, printed}

abbrev east : ℕ → List ℕ
east last = replicate 100 1 ++ (0 ∷ 0 ∷ 1 ∷ 9 ∷ last ∷ 1 ∷ 0 ∷ 0 ∷ [])

-- `no 17`
pub window_refused : printed (east 99) ≡ 110 ∷ 111 ∷ 32 ∷ 49 ∷ 55 ∷ 10 ∷ []
unfolding printed rendered no_text decimal sector_number step_number_on on_edge edge cells_between
window_refused = refl

pub one_cell_refused : printed (east 9) ≡ 110 ∷ 111 ∷ 32 ∷ 49 ∷ 55 ∷ 10 ∷ []
unfolding printed rendered no_text decimal sector_number step_number_on on_edge edge cells_between
one_cell_refused = refl

-- `no 4`: an earlier number is due, that of sector 64
pub four_first : printed (replicate 100 1 ++ (64 ∷ 0 ∷ 1 ∷ 9 ∷ 99 ∷ 1 ∷ 0 ∷ 0 ∷ [])) ≡ 110 ∷ 111 ∷ 32 ∷ 52 ∷ 10 ∷ []
unfolding printed rendered no_text decimal sector_number step_number_on on_edge edge cells_between
four_first = refl
