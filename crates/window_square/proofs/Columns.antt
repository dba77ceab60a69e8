-- A square filled column by column, and its rows in their records.
--     column_unused, column_used    a column, by the field that is built for its window
--     turned                        what stands at one place of each column is a row of the square
--     rows_held, rows_back          a square's rows in their records, and back
-- Assumes nothing.
use mathlib.Core.Path.{◌≡◌, refl, sym, ap, ◌∙◌}
use mathlib.Core.Bool.{Bool, true, false, cond, ◌&&◌}
use mathlib.Core.Logic.{inr}
use mathlib.Core.List.{List, [], ◌∷◌, map}
use Prim.Native.Nat.{ℕ, ◌≤◌, ◌<◌}
use lib.Dec.{ltb}
use lib.ListN.{length, get_or, replicate}
use borrow.Author.Tests.{lt-ltb}
use Rattle.utilities.specs.Lists.{below}
use Rattle.route.specs.Target.{target_of}
use Rattle.step_list.specs.Steps.{step_of}
use Rattle.utilities.proofs.Lists.{table_at, table_same, table_of}
use Rattle.flow_arrows.specs.Promise.{built_cells}
use Rattle.window_square.specs.Square.{window_cost, square_entry, cost_square, rows_of, square_in}
use Rattle.window_square.specs.Promise.{cost_at}
use Rattle.window_square.specs.Inner.{least_from, held_row}
use Rattle.window_square.proofs.Promise.{entry_unused}

module _ (costs : List ℕ) (steps : List (List ℕ)) where
  abbrev pub column_of : ℕ → List ℕ
  column_of j = map (λ i. square_entry costs steps i j) (below 8)

  pub column_unused : (j : ℕ) → length steps ≤ j → replicate 8 65535 ≡ column_of j
  column_unused j h = table_same (λ i. 65535) (λ i. square_entry costs steps i j) 8 (λ i k. sym (entry_unused costs steps i j (inr h)))

  pub column_used : (j : ℕ) → j < length steps → map (least_from (built_cells costs (target_of (step_of steps j))) steps) (below 8) ≡ column_of j
  unfolding window_cost
  column_used j h =
      table_same (least_from (built_cells costs (target_of (step_of steps j))) steps) (λ i. square_entry costs steps i j) 8
      (λ i k. rw (lt-ltb j (length steps) h) (same (ltb i (length steps)) _))
    where
      same : (b : Bool) (x : ℕ) → cond b x 65535 ≡ cond (b && true) x 65535
      same true x = refl
      same false x = refl

  pub turned : (columns : List (List ℕ)) → columns ≡ map column_of (below 8)
      → map (λ i. map (λ j. cost_at columns j i) (below 8)) (below 8) ≡ cost_square costs steps
  unfolding cost_square
  turned columns e =
      table_same (λ i. map (λ j. cost_at columns j i) (below 8)) (λ i. map (square_entry costs steps i) (below 8)) 8
      (λ i h. table_same (λ j. cost_at columns j i) (square_entry costs steps i) 8 (λ j k. at i j h k))
    where
      at : (i j : ℕ) → i < 8 → j < 8 → cost_at columns j i ≡ square_entry costs steps i j
      at i j h k =
          ap (λ (c : List (List ℕ)). cost_at c j i) e ∙ ap (λ (c : List ℕ). get_or c i 0) (table_at column_of [] 8 j k)
          ∙ table_at (λ i. square_entry costs steps i j) 0 8 i h

pub rows_held : (square : List (List ℕ)) → length square ≡ 8 → map (held_row square) (below 8) ≡ rows_of square
rows_held square e = table_of (λ l. record { costs = l }) [] square 8 e

pub rows_back : (square : List (List ℕ)) → square_in (rows_of square) ≡ square
rows_back [] = refl
rows_back (row ∷ square) = ap (λ (s : List (List ℕ)). row ∷ s) (rows_back square)
