-- Where a corner's line ends, as later layers cite it. None of this leans on which row is the nearest: the columns are tried away from the goal.
--     end_answered    the call never refuses a corner and a goal of the sector: it answers the end
--     end_inside      the end lies in the sector
--     end_away        the end lies at or beyond the corner, away from the goal
--     end_straight    in the goal's column and in its row the end is as `Straight` says
--     misses_goal     no cell between a corner other than the goal and its line's end is the goal
-- Assumes nothing.
use mathlib.Core.Path.{◌≡◌, refl}
use mathlib.Core.Bool.{Bool, true, false}
use Prim.Native.Nat.{ℕ, ◌+◌, ◌<◌, ◌≤◌, min}
use native.Mathlib.Omega.{arith}
use lib.Dec.{ltb, eqb}
use borrow.Author.Tests.{ltb-true, ltb-false, eqb-true, eqb-false}
use Rattle.fields.specs.declared.FieldCell.{FieldCell}
use Rattle.fields.specs.Cell.{Inside}
use Rattle.fields.proofs.Steps.{true_inside}
use Rattle.line_nearest.specs.Line.{distance}
use Rattle.line_nearest.specs.Nearest.{Spanned}
use Rattle.line_nearest.proofs.Offset.{nearest_ge}
use Rattle.line_end.specs.Away.{EdgeAway, Straight}
use Rattle.line_end.specs.LineEnd.{edge_away, after, further, slanted_end, end_by, line_end, answer, line_end_answer}
use Rattle.line_end.proofs.First.{slanted_first}

pub end_answered : (corner goal : FieldCell) → Inside corner → Inside goal → line_end_answer corner goal ≡ answer 0 (line_end corner goal)
unfolding line_end_answer
end_answered corner goal h k = rw (true_inside corner h, true_inside goal k)

-- ---- the end lies in the sector
-- the row of a slanted line's end: at least as far from the goal's as the corner's is
row_in : (corner goal rows : ℕ) (b : Bool) → ltb goal corner ≡ b → corner < 10 → distance goal corner ≤ rows
    → further b goal (min (after b goal) rows) < 10
row_in corner goal rows true e h l = omega (arith, ltb-true goal corner e)
row_in corner goal rows false e h l = omega (arith, ltb-false goal corner e)

edge_in : (b : Bool) → edge_away b < 10
edge_in true = omega arith
edge_in false = omega arith

by_inside : (p q : Bool) (corner goal : FieldCell) → Inside corner → eqb corner.column goal.column ≡ p → Inside (end_by p q corner goal)
unfolding end_by slanted_end
by_inside true q corner goal h e = record { column_in = h.column_in; row_in = edge_in (ltb goal.row corner.row) }
by_inside false true corner goal h e = record { column_in = edge_in (ltb goal.column corner.column); row_in = h.row_in }
by_inside false false corner goal h e =
    let d = eqb-false corner.column goal.column e in
    let s = slanted_first corner goal h d in
    let t = s.tried.to in
    let span = distance goal.column corner.column in
    record {
      column_in = omega (arith, t, h.column_in, edge_in (ltb goal.column corner.column));
      row_in = row_in corner.row goal.row _ (ltb goal.row corner.row) refl h.row_in
          (nearest_ge _ span (span + _) (omega (arith, d)) (omega arith));
    }

pub end_inside : (corner goal : FieldCell) → Inside corner → Inside (line_end corner goal)
unfolding line_end
end_inside corner goal h = by_inside (eqb corner.column goal.column) (eqb corner.row goal.row) corner goal h refl

-- ---- the end lies away from the goal
-- A cell that lies at or beyond the corner, away from the goal. In the goal's column and in its row it lies on the line through both;
-- up the column, and where the corner is the goal, on row 0.
pub record Away (corner goal end : FieldCell) : Type 0 where
  pub right : goal.column < corner.column → corner.column ≤ end.column
  pub left : corner.column < goal.column → end.column ≤ corner.column
  pub in_column : corner.column ≡ goal.column → end.column ≡ corner.column
  pub down : corner.column ≡ goal.column → goal.row < corner.row → corner.row ≤ end.row
  pub up : corner.column ≡ goal.column → corner.row ≤ goal.row → end.row ≡ 0
  pub in_row : (corner.column ≡ goal.column → ⊥) → corner.row ≡ goal.row → end.row ≡ corner.row

-- the edge away from the goal, of a column or a row
record Edge (corner goal end : ℕ) : Type 0 where
  beyond : goal < corner → corner ≤ end
  back : corner ≤ goal → end ≡ 0

edge_away_law : (corner goal : ℕ) → corner < 10 → Edge corner goal (edge_away (ltb goal corner))
edge_away_law corner goal h = go (ltb goal corner) refl
  where
    go : (b : Bool) → ltb goal corner ≡ b → Edge corner goal (edge_away b)
    go true e =
        let k : goal < corner = ltb-true goal corner e in
        record { beyond = λ l. omega arith; back = λ l. absurd (omega arith) }
    go false e =
        let k : corner ≤ goal = ltb-false goal corner e in
        record { beyond = λ l. absurd (omega arith); back = λ l. refl }

by_away : (p q : Bool) (corner goal : FieldCell) → Inside corner → eqb corner.column goal.column ≡ p → eqb corner.row goal.row ≡ q
    → Away corner goal (end_by p q corner goal)
unfolding end_by
by_away true q corner goal h e f =
    let k : corner.column ≡ goal.column = eqb-true corner.column goal.column e in
    let edge = edge_away_law corner.row goal.row h.row_in in
    record {
      right = λ l. absurd (omega arith);
      left = λ l. absurd (omega arith);
      in_column = λ l. refl;
      down = λ l. edge.beyond;
      up = λ l. edge.back;
      in_row = λ l. absurd (l k);
    }
by_away false true corner goal h e f =
    let k : corner.column ≡ goal.column → ⊥ = eqb-false corner.column goal.column e in
    let edge = edge_away_law corner.column goal.column h.column_in in
    record {
      right = edge.beyond;
      left = λ l. let z = edge.back (omega arith) in omega arith;
      in_column = λ l. absurd (k l);
      down = λ l. absurd (k l);
      up = λ l. absurd (k l);
      in_row = λ l m. refl;
    }
by_away false false corner goal h e f =
    let k : corner.column ≡ goal.column → ⊥ = eqb-false corner.column goal.column e in
    let s = (slanted_first corner goal h k).tried in
    let w = edge_away_law corner.column goal.column h.column_in in
    record {
      right = λ l. omega (arith, s.from, w.beyond l);
      left = λ l. omega (arith, s.to, w.back (omega arith));
      in_column = λ l. absurd (k l);
      down = λ l. absurd (k l);
      up = λ l. absurd (k l);
      in_row = λ l r. absurd (eqb-false corner.row goal.row f r);
    }

pub end_away : (corner goal : FieldCell) → Inside corner → Away corner goal (line_end corner goal)
unfolding line_end
end_away corner goal h = by_away (eqb corner.column goal.column) (eqb corner.row goal.row) corner goal h refl refl

-- ---- in the goal's column and in its row
edge_there : (goal corner : ℕ) → EdgeAway goal corner (edge_away (ltb goal corner))
edge_there goal corner = go (ltb goal corner) refl
  where
    go : (b : Bool) → ltb goal corner ≡ b → EdgeAway goal corner (edge_away b)
    go true e = record { beyond = λ l. refl; before = λ l. absurd (omega (arith, ltb-true goal corner e)) }
    go false e = record { beyond = λ l. absurd (omega (arith, ltb-false goal corner e)); before = λ l. refl }

by_straight : (p q : Bool) (corner goal : FieldCell) → Inside corner → eqb corner.column goal.column ≡ p → eqb corner.row goal.row ≡ q
    → Straight corner goal (end_by p q corner goal)
unfolding end_by
by_straight true q corner goal h e f =
    let k : corner.column ≡ goal.column = eqb-true corner.column goal.column e in
    record {
      in_column = λ l. refl;
      down = λ l. (edge_there goal.row corner.row).beyond;
      up = λ l. (edge_away_law corner.row goal.row h.row_in).back;
      in_row = λ l. absurd (l k);
      edge_column = λ l. absurd (l k);
    }
by_straight false true corner goal h e f =
    let k : corner.column ≡ goal.column → ⊥ = eqb-false corner.column goal.column e in
    record {
      in_column = λ l. absurd (k l);
      down = λ l. absurd (k l);
      up = λ l. absurd (k l);
      in_row = λ l m. refl;
      edge_column = λ l m. edge_there goal.column corner.column;
    }
by_straight false false corner goal h e f =
    let k : corner.column ≡ goal.column → ⊥ = eqb-false corner.column goal.column e in
    let r : corner.row ≡ goal.row → ⊥ = eqb-false corner.row goal.row f in
    record {
      in_column = λ l. absurd (k l);
      down = λ l. absurd (k l);
      up = λ l. absurd (k l);
      in_row = λ l m. absurd (r m);
      edge_column = λ l m. absurd (r m);
    }

pub end_straight : (corner goal : FieldCell) → Inside corner → Straight corner goal (line_end corner goal)
unfolding line_end
end_straight corner goal h = by_straight (eqb corner.column goal.column) (eqb corner.row goal.row) corner goal h refl refl

-- ---- the goal does not lie between the corner and the end
same_cell : (a b : FieldCell) → a.column ≡ b.column → a.row ≡ b.row → a ≡ b
same_cell a b p q = rw (p, q)

away_misses : (corner goal end : FieldCell) → Away corner goal end → (corner ≡ goal → ⊥) → Spanned corner end goal → ⊥
away_misses corner goal end a d b =
    columns (ltb goal.column corner.column) (ltb corner.column goal.column) refl refl
  where
    rows : (p q : Bool) → corner.column ≡ goal.column → ltb goal.row corner.row ≡ p → ltb corner.row goal.row ≡ q → ⊥
    rows true q k e f =
        let l = ltb-true goal.row corner.row e in
        let z = a.down k l in
        omega (arith, b.rows.from)
    rows false true k e f =
        let l = ltb-true corner.row goal.row f in
        let z = a.up k (omega arith) in
        omega (arith, b.rows.to)
    rows false false k e f =
        let l = ltb-false goal.row corner.row e in
        let m = ltb-false corner.row goal.row f in
        d (same_cell corner goal k (omega arith))

    columns : (p q : Bool) → ltb goal.column corner.column ≡ p → ltb corner.column goal.column ≡ q → ⊥
    columns true q e f =
        let l = ltb-true goal.column corner.column e in
        let z = a.right l in
        omega (arith, b.columns.from)
    columns false true e f =
        let l = ltb-true corner.column goal.column f in
        let z = a.left l in
        omega (arith, b.columns.to)
    columns false false e f =
        let l = ltb-false goal.column corner.column e in
        let m = ltb-false corner.column goal.column f in
        rows (ltb goal.row corner.row) (ltb corner.row goal.row) (omega arith) refl refl

pub misses_goal : (corner goal n : FieldCell) → Inside corner → (corner ≡ goal → ⊥) → Spanned corner (line_end corner goal) n → n ≡ goal → ⊥
misses_goal corner goal n h d b e = away_misses corner goal (line_end corner goal) (end_away corner goal h) d (rw e at b)
