-- How many waves there can be: at most 99 (`waves_counted`, `Least.antt`), and a snake of 55 cells between walls takes 54. So a number
-- falling from 50 would be too small.
-- Assumes nothing.
use mathlib.Core.Path.{◌≡◌, refl}
use mathlib.Core.List.{List, [], ◌∷◌, ◌++◌}
use Prim.Native.Nat.{ℕ}
use lib.ListN.{replicate}
use Rattle.integration_field.specs.Wave.{relaxed, offered_around, offered_by, changed_from, next}
use Rattle.integration_field.specs.Rest.{total}
use Rattle.integration_field.specs.Build.{is_empty, settle, build}
use Rattle.fields.specs.Cell.{stepped}

-- from cell 0, along a row and through a door at its end into the next
pub snake : List ℕ
snake =
    let wall : List ℕ = replicate 9 0x200ffff in
    let door : List ℕ = 65535 ∷ [] in
    let row : List ℕ = replicate 10 65535 in
    0 ∷ replicate 9 65535 ++ wall ++ door ++ row ++ door ++ wall ++ row ++ wall ++ door ++ row ++ door ++ wall ++ row ++ wall ++ door

pub snake_waves : (build (replicate 100 1) snake (0 ∷ [])).waves ≡ 54
unfolding snake build settle total is_empty next offered_by offered_around relaxed changed_from stepped
snake_waves = refl
