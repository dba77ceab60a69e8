-- A floor's lines, stored one behind the other; and a seed's bytes.
-- Assumes nothing.
use mathlib.Core.Path.{◌≡◌, sym, ap, ◌∙◌}
use mathlib.Core.List.{List, [], ◌∷◌, ◌++◌}
use Prim.Native.Nat.{ℕ, ◌+◌}
use native.Mathlib.Nat.{zero-add}
use native.Mathlib.Omega.{arith}
use lib.ListN.{length, set, length-append}
use lib.Seq.{sets}
use Rattle.std.specs.Int.{w32, from_le_bytes}
use Rattle.practice.specs.declared.PracticeFloor.{PracticeFloor}
use Rattle.print_text.specs.Rows.{rows_text, decimal}
use Rattle.print_text.proofs.Laws.{sets_append, rows_length}
use Rattle.practice_text.specs.Text.{seed_of, floor_text}

module _ (floor : PracticeFloor) where
  rows : List ℕ
  rows = rows_text floor.costs 10

  last : List ℕ
  last = decimal floor.goal

  ten_rows : length rows ≡ 210
  unfolding rows
  ten_rows = rows_length floor.costs 10

  -- how many bytes they are
  pub floor_length : length (floor_text floor) ≡ 210 + length (decimal floor.goal) + 1
  unfolding floor_text rows last
  floor_length = omega (arith, length-append rows (last ++ (10 ∷ [])), length-append last (10 ∷ []), ten_rows)

  -- the rows, the goal behind them, and a line feed behind that
  pub floor_put : (l : List ℕ)
      → set (sets (sets l 0 (rows_text floor.costs 10)) 210 (decimal floor.goal)) (210 + length (decimal floor.goal)) 10 ≡ sets l 0 (floor_text floor)
  unfolding floor_text rows last
  floor_put l =
      let place : 0 + length rows ≡ 210 = zero-add (length rows) ∙ ten_rows in
      sets_append (sets l 0 rows) last (10 ∷ []) 210
      ∙ ap (λ (at : ℕ). sets (sets l 0 rows) at (last ++ (10 ∷ []))) (sym place)
      ∙ sets_append l rows (last ++ (10 ∷ [])) 0

-- a seed's four bytes
pub seed_by : (bytes : List ℕ) → from_le_bytes w32 bytes ≡ seed_of bytes
unfolding seed_of
seed_by bytes = omega arith
