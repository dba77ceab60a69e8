-- Building cells (01, "Integration: build"): the waves from the listed corners until one changes no cell, and how many changed one.
-- Assumes nothing.
use Rattle.std.specs.Prelude.{Bool, true, false, List, [], ◌∷◌, ℕ, zero, suc}
use Rattle.std.proofs.Common.{le_refl}
use Rattle.integration_field.specs.Wave.{Wave, next}
use Rattle.integration_field.specs.Rest.{Rests, sum_of_words, comes_to_rest}

-- the cells that are left, and the number of waves that changed one
pub record Built : Type 0 where
  pub cells : List ℕ
  pub waves : ℕ

-- whether a wave changed no cell
unfoldable pub is_empty : List ℕ → Bool
is_empty [] = true
is_empty (x ∷ xs) = false

-- One wave after the other, up to the first that changes no cell. What it takes beside a wave is no limit: it is a proof that some later
-- wave changes none, as `comes_to_rest` has for every field, and the answer does not depend on it (`settle_any`, `proofs/Settled.antt`).
unfoldable pub settle : (costs : List ℕ) (n : ℕ) (w : Wave) → Rests costs n w → Built
settle costs zero w h = record { cells = w.cells; waves = 0 }
settle costs (suc n) w h =
    let u = next costs w in
    elim (is_empty u.changed) [
      | true ↦ record { cells = w.cells; waves = 0 }
      | false ↦ (let r = settle costs n u h in record { cells = r.cells; waves = suc r.waves })
    ]

-- these cells, built on these costs from these corners
unfoldable pub build : List ℕ → List ℕ → List ℕ → Built
build costs cells corners =
    let w : Wave = record { cells = cells; changed = corners } in
    settle costs (sum_of_words cells) w (comes_to_rest costs (sum_of_words cells) w (le_refl (sum_of_words cells)))
