-- Windows on which the rule of counting decides (02, "Job 2"), computed: a definition with the rule changed gives something else.
--     gaps         cells that count need not lie side by side
--     one_cell     a window of one cell sees straight alone
--     end_cells    the cells beside the window's ends are not compared
-- Assumes nothing.
use mathlib.Core.Path.{◌≡◌, refl}
use mathlib.Core.List.{List, [], ◌∷◌}
use Prim.Native.Nat.{ℕ}
use lib.ListN.{set, replicate}
use Rattle.route.specs.Window.{on_edge, edge, cells_between}
use Rattle.leg_counting.specs.Counting.{counts, counting_cells}

-- a North window from one column to another
abbrev window : ℕ → ℕ → List ℕ
window first last = 8 ∷ 0 ∷ 1 ∷ first ∷ last ∷ 0 ∷ 0 ∷ 0 ∷ []

-- a field of which two cells are reached, both in row 9, which a North window faces
abbrev reached_at : ℕ → ℕ → List ℕ
reached_at i j = set (set (replicate 100 65535) i 7) j 7

pub gaps : counting_cells (reached_at 93 99) (window 0 9) ≡ 2 ∷ 3 ∷ 4 ∷ 8 ∷ 9 ∷ []
unfolding counting_cells counts cells_between edge on_edge
gaps = refl

pub one_cell : counting_cells (reached_at 93 95) (window 4 4) ≡ []
unfolding counting_cells counts cells_between edge on_edge
one_cell = refl

pub end_cells : counting_cells (reached_at 92 96) (window 3 5) ≡ []
unfolding counting_cells counts cells_between edge on_edge
end_cells = refl
