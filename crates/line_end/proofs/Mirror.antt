-- Mirrored pairs with unequal column and row end mirrored, left to right and top to bottom: the end goes by distances and by two tests, of which
-- a mirror keeps the distances and turns one test round.
--     mirrored_ends     both mirrors
-- Assumes nothing.
use mathlib.Core.Path.{◌≡◌, refl, sym, ap, ◌∙◌}
use mathlib.Core.Bool.{Bool, true, false, not}
use Prim.Native.Nat.{ℕ, ◌+◌, ◌-◌, ◌<◌, ◌≤◌, min}
use native.Mathlib.Omega.{arith}
use lib.Dec.{ltb}
use borrow.Author.Tests.{ltb-true, ltb-false, lt-ltb, le-ltb, ne_eqb}
use Rattle.fields.specs.declared.FieldCell.{FieldCell}
use Rattle.line_nearest.specs.Line.{distance, nearest}
use Rattle.line_end.specs.declared.LineEnd.{LineEnd}
use Rattle.line_end.specs.LineEnd.{after, further, first_leaving, slanted_end, end_by, line_end, answer, line_end_answer}
use Rattle.line_end.specs.Away.{Slants}
use Rattle.line_end.specs.Mirror.{left_right, top_bottom, HoldsMirrored}
use Rattle.line_end.proofs.First.{first_to}
use Rattle.line_end.proofs.Laws.{end_answered}

-- ---- one coordinate
-- what a mirror keeps: the distance of two, and how many are behind one
same_distance : (a b : ℕ) → a < 10 → b < 10 → distance (9 - a) (9 - b) ≡ distance a b
same_distance a b p q = go (ltb a b) refl
  where
    go : (t : Bool) → ltb a b ≡ t → distance (9 - a) (9 - b) ≡ distance a b
    go true e =
        let l = ltb-true a b e in
        let k : distance a b ≡ b - a = omega arith in
        rw k (omega arith)
    go false e =
        let l = ltb-false a b e in
        let k : distance a b ≡ a - b = omega arith in
        rw k (omega arith)

same_after : (beyond : Bool) (x : ℕ) → x < 10 → after (not beyond) (9 - x) ≡ after beyond x
same_after true x h = refl
same_after false x h = omega arith

-- what it turns round: which of two lies beyond the other, and where the one lies that is d behind
turned : (a b : ℕ) → a < 10 → b < 10 → (a ≡ b → ⊥) → ltb (9 - a) (9 - b) ≡ not (ltb a b)
turned a b p q d = go (ltb a b) refl
  where
    go : (t : Bool) → ltb a b ≡ t → ltb (9 - a) (9 - b) ≡ not t
    go true e = let l = ltb-true a b e in le-ltb (9 - a) (9 - b) (omega arith)
    go false e = let l = ltb-false a b e in lt-ltb (9 - a) (9 - b) (omega (arith, d))

mirrored_further : (beyond : Bool) (x d : ℕ) → x < 10 → d ≤ after beyond x → further (not beyond) (9 - x) d ≡ 9 - further beyond x d
mirrored_further true x d h l = omega arith
mirrored_further false x d h l = omega arith

distance_differ : (a b : ℕ) → a < 10 → b < 10 → (a ≡ b → ⊥) → 9 - a ≡ 9 - b → ⊥
distance_differ a b p q d e = d (omega arith)

-- ---- the two mirrors
module _ (corner goal : FieldCell) (s : Slants corner goal) where
  abbrev right : Bool
  right = ltb goal.column corner.column

  abbrev down : Bool
  down = ltb goal.row corner.row

  abbrev rise : ℕ
  rise = distance goal.row corner.row

  abbrev span : ℕ
  span = distance goal.column corner.column

  abbrev end : ℕ
  end = first_leaving rise span (after down goal.row) (after right corner.column)

  slanted : line_end corner goal ≡ slanted_end right down corner goal
  unfolding line_end end_by
  slanted = rw (ne_eqb corner.column goal.column s.columns_differ, ne_eqb corner.row goal.row s.rows_differ)

  left_right_slants : Slants (left_right corner) (left_right goal)
  left_right_slants =
      record {
        corner_in = record { column_in = omega arith; row_in = s.corner_in.row_in };
        goal_in = record { column_in = omega arith; row_in = s.goal_in.row_in };
        columns_differ = distance_differ corner.column goal.column s.corner_in.column_in s.goal_in.column_in s.columns_differ;
        rows_differ = s.rows_differ;
      }

  top_bottom_slants : Slants (top_bottom corner) (top_bottom goal)
  top_bottom_slants =
      record {
        corner_in = record { column_in = s.corner_in.column_in; row_in = omega arith };
        goal_in = record { column_in = s.goal_in.column_in; row_in = omega arith };
        columns_differ = s.columns_differ;
        rows_differ = distance_differ corner.row goal.row s.corner_in.row_in s.goal_in.row_in s.rows_differ;
      }

  left_right_end : slanted_end (not right) down (left_right corner) (left_right goal) ≡ left_right (slanted_end right down corner goal)
  unfolding slanted_end
  left_right_end =
      rw (
        same_distance goal.column corner.column s.goal_in.column_in s.corner_in.column_in,
        same_after right corner.column s.corner_in.column_in,
        mirrored_further right corner.column end s.corner_in.column_in (first_to rise span (after down goal.row) (after right corner.column)),
      )

  top_bottom_end : slanted_end right (not down) (top_bottom corner) (top_bottom goal) ≡ top_bottom (slanted_end right down corner goal)
  unfolding slanted_end
  top_bottom_end =
      rw (
        same_distance goal.row corner.row s.goal_in.row_in s.corner_in.row_in,
        same_after down goal.row s.goal_in.row_in,
        mirrored_further down goal.row (min (after down goal.row) (nearest rise span (span + end))) s.goal_in.row_in (omega arith),
      )

-- the call answers the slanted end of a slanted pair
slanted_answer : (corner goal : FieldCell) → Slants corner goal
    → line_end_answer corner goal ≡ answer 0 (slanted_end (ltb goal.column corner.column) (ltb goal.row corner.row) corner goal)
slanted_answer corner goal s = end_answered corner goal s.corner_in s.goal_in ∙ ap (answer 0) (slanted corner goal s)

pub mirrored_ends : (corner goal : FieldCell) (r : LineEnd) → r ≡ line_end_answer corner goal → HoldsMirrored corner goal r
mirrored_ends corner goal r e s =
    let here : r.cell ≡ slanted_end (right corner goal s) (down corner goal s) corner goal =
    ap (λ (l : LineEnd). l.cell) (e ∙ slanted_answer corner goal s) in
    let turned-columns = turned goal.column corner.column s.goal_in.column_in s.corner_in.column_in (λ q. s.columns_differ (sym q)) in
    let turned_rows = turned goal.row corner.row s.goal_in.row_in s.corner_in.row_in (λ q. s.rows_differ (sym q)) in (
      slanted_answer (left_right corner) (left_right goal) (left_right_slants corner goal s)
          ∙ ap (answer 0) (rw (turned-columns, here) (left_right_end corner goal s)),
      slanted_answer (top_bottom corner) (top_bottom goal) (top_bottom_slants corner goal s)
          ∙ ap (answer 0) (rw (turned_rows, here) (top_bottom_end corner goal s)),
    )
