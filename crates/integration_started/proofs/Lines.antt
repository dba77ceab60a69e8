-- The lines of corners are such as sight needs: inside the sector, at most 10 cells, and never over the goal.
-- Assumes nothing.
use mathlib.Core.Path.{◌≡◌, sym, ◌∙◌, ap}
use mathlib.Core.List.{List}
use Prim.Native.Nat.{ℕ, ◌<◌}
use native.Mathlib.Omega.{arith}
use lib.ListN.{length, get_or, length-map, get_or-map}
use Rattle.fields.specs.declared.FieldCell.{FieldCell}
use Rattle.fields.specs.Cell.{cell, Inside, cell_at, index_of}
use Rattle.fields.proofs.Steps.{cell_inside, cell_of_index, index_of_cell, index_below}
use Rattle.line_nearest.specs.Line.{line}
use Rattle.line_nearest.proofs.Theorem.{line_first, line_some, line_room, line_spanned, line_inside}
use Rattle.line_end.specs.LineEnd.{line_end}
use Rattle.line_end.proofs.Laws.{end_inside, misses_goal}
use Rattle.integration_started.specs.CornerLine.{corner_line}
use Rattle.integration_started.specs.Lines.{Lines}

module _ (goal corner : ℕ) (corner_in : corner < 100) where
  abbrev end : FieldCell
  end = line_end (cell_at corner) (cell_at goal)

  abbrev cells : List FieldCell
  cells = line (cell_at corner) end

  from_inside : Inside (cell_at corner)
  from_inside = cell_inside corner corner_in

  to_inside : Inside end
  to_inside = end_inside (cell_at corner) (cell_at goal) from_inside

  as_long : length (corner_line goal corner) ≡ length cells
  unfolding corner_line
  as_long = length-map cells index_of

  -- each place of the line is the index of a cell
  at : (i : ℕ) → get_or (corner_line goal corner) i 0 ≡ index_of (get_or cells i (cell 0 0))
  unfolding corner_line
  at i = get_or-map index_of cells i (cell 0 0)

  inside_at : (i : ℕ) → i < length (corner_line goal corner) → Inside (get_or cells i (cell 0 0))
  inside_at i h = line_inside (cell_at corner) end from_inside to_inside i (omega (arith, as_long))

  in_sector : (i : ℕ) → i < length (corner_line goal corner) → get_or (corner_line goal corner) i 0 < 100
  in_sector i h = rw (at i) (index_below (get_or cells i (cell 0 0)) (inside_at i h))

  passes : (corner ≡ goal → ⊥) → (i : ℕ) → i < length (corner_line goal corner) → get_or (corner_line goal corner) i 0 ≡ goal → ⊥
  passes not_goal i h e =
      misses_goal (cell_at corner) (cell_at goal) (get_or cells i (cell 0 0)) from_inside
      (λ q. not_goal (sym (index_of_cell corner) ∙ ap index_of q ∙ index_of_cell goal))
      (line_spanned (cell_at corner) end i (omega (arith, as_long)))
      (sym (cell_of_index (get_or cells i (cell 0 0)) (inside_at i h)) ∙ ap cell_at (sym (at i) ∙ e))

pub corner_lines : (goal : ℕ) → Lines goal (corner_line goal)
corner_lines goal = record {
  inside = λ c h. in_sector goal c h;
  begun = λ c h. omega (arith, as_long goal c h, line_some (cell_at c) (line_end (cell_at c) (cell_at goal)));
  begins = λ c h. at goal c h 0 ∙ ap index_of (line_first (cell_at c) (line_end (cell_at c) (cell_at goal))) ∙ index_of_cell c;
  short = λ c h. omega (arith, as_long goal c h, line_room (cell_at c) (line_end (cell_at c) (cell_at goal)) (from_inside goal c h) (to_inside goal c h));
  past = λ c h. passes goal c h;
}
