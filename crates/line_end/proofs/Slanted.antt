-- Off the goal's column and row the end is as `Slanted` says (specs/Away.antt), and no other cell is. The definition's helpers and the promise's relations
-- say the same of a column or a row, by whether the corner's lies beyond the goal's; that is shown here once for both, and the rest is `First`'s.
--     end_slanted     the end is as `Slanted` says
--     slanted_only    and no other cell is
-- Assumes nothing.
use mathlib.Core.Path.{◌≡◌, refl}
use mathlib.Core.Bool.{Bool, true, false}
use Prim.Native.Nat.{ℕ, ◌<◌, ◌≤◌}
use native.Mathlib.Omega.{arith}
use lib.Dec.{leb, ltb}
use borrow.Author.Tests.{ltb-true, ltb-false, leb-true, leb-false, ne_eqb}
use Rattle.fields.specs.declared.FieldCell.{FieldCell}
use Rattle.line_nearest.specs.Nearest.{Between}
use Rattle.line_end.specs.Away.{Onward, EdgeAway, Off, Leaves, Slanted, Slants}
use Rattle.line_end.specs.LineEnd.{edge_away, after, further, end_by, line_end}
use Rattle.line_end.proofs.First.{SlantedBy, rightward, downward, rows_behind, slanted_first, slanted_once}

-- ---- of a column or a row, by whether the corner's lies beyond the goal's
module _ (goal corner : ℕ) (differ : corner ≡ goal → ⊥) where
  onward : (b : Bool) → ltb goal corner ≡ b → (x : ℕ) → corner < 10 → Between corner (edge_away b) x → Onward goal corner x
  onward true e x h t = record {
    beyond = λ l. (omega (arith, t.from), omega (arith, t.to));
    before = λ l. absurd (omega (arith, ltb-true goal corner e));
  }
  onward false e x h t = record { beyond = λ l. absurd (omega (arith, ltb-false goal corner e)); before = λ l. omega (arith, t.to) }

  onward_back : (b : Bool) → ltb goal corner ≡ b → (x : ℕ) → Onward goal corner x → Between corner (edge_away b) x
  onward_back true e x o =
      let l = o.beyond (ltb-true goal corner e) in
      record { from = omega (arith, l.0); to = omega (arith, l.1) }
  onward_back false e x o =
      let l = o.before (omega (arith, differ, ltb-false goal corner e)) in
      record { from = omega arith; to = omega (arith, l) }

  leaves_told : (b : Bool) → ltb goal corner ≡ b → (n : ℕ) → after b goal < n → Leaves goal corner n
  leaves_told true e n h = record { beyond = λ l. omega arith; before = λ l. absurd (omega (arith, ltb-true goal corner e)) }
  leaves_told false e n h = record { beyond = λ l. absurd (omega (arith, ltb-false goal corner e)); before = λ l. h }

  leaves_back : (b : Bool) → ltb goal corner ≡ b → goal < 10 → (n : ℕ) → Leaves goal corner n → after b goal < n
  leaves_back true e g n o = omega (arith, o.beyond (ltb-true goal corner e))
  leaves_back false e g n o = o.before (omega (arith, differ, ltb-false goal corner e))

  edge_told : (b : Bool) → ltb goal corner ≡ b → (x : ℕ) → x ≡ edge_away b → EdgeAway goal corner x
  edge_told true e x q = record { beyond = λ l. q; before = λ l. absurd (omega (arith, ltb-true goal corner e)) }
  edge_told false e x q = record { beyond = λ l. absurd (omega (arith, ltb-false goal corner e)); before = λ l. q }

  edge_back : (b : Bool) → ltb goal corner ≡ b → (x : ℕ) → EdgeAway goal corner x → x ≡ edge_away b
  edge_back true e x o = o.beyond (ltb-true goal corner e)
  edge_back false e x o = o.before (omega (arith, differ, ltb-false goal corner e))

  off_told : (b : Bool) → ltb goal corner ≡ b → (n x : ℕ) → n ≤ after b goal → x ≡ further b goal n → Off goal corner n x
  off_told true e n x h q = record { beyond = λ l. q; before = λ l. absurd (omega (arith, ltb-true goal corner e)) }
  off_told false e n x h q = record { beyond = λ l. absurd (omega (arith, ltb-false goal corner e)); before = λ l. omega (arith, q) }

  off_back : (b : Bool) → ltb goal corner ≡ b → (n x : ℕ) → Off goal corner n x → x ≡ further b goal n
  off_back true e n x o = o.beyond (ltb-true goal corner e)
  off_back false e n x o = omega (arith, o.before (omega (arith, differ, ltb-false goal corner e)))

-- what is not above is at most
at_most : (a b : ℕ) → (b < a → ⊥) → a ≤ b
at_most a b h = go (leb a b) refl
  where
    go : (t : Bool) → leb a b ≡ t → a ≤ b
    go true e = leb-true a b e
    go false e = absurd (h (omega (arith, leb-false a b e)))

module _ (corner goal : FieldCell) (s : Slants corner goal) (end : FieldCell) where
  abbrev right : Bool
  right = rightward corner goal

  abbrev down : Bool
  down = downward corner goal

  told : SlantedBy corner goal end → Slanted corner goal end
  told p = record {
    rows = p.rows;
    nearest_rows = p.nearest_rows;
    tried = onward goal.column corner.column s.columns_differ right refl end.column s.corner_in.column_in p.tried;
    none_before = λ c b d l. (
        let few = p.none_before c b d in
        let many = leaves_back goal.row corner.row s.rows_differ down refl s.goal_in.row_in (p.rows c) l in
        omega arith
        );
    leaves_there = λ l.
        edge_told goal.row corner.row s.rows_differ down refl end.row
        (p.leaves_there (leaves_back goal.row corner.row s.rows_differ down refl s.goal_in.row_in (p.rows end.column) l));
    else_last = λ o. (
        let few = at_most (p.rows end.column) (rows_behind corner goal)
        (λ m. o (leaves_told goal.row corner.row s.rows_differ down refl (p.rows end.column) m)) in
        let last = p.else_last few in (
          edge_told goal.column corner.column s.columns_differ right refl end.column last.0,
          off_told goal.row corner.row s.rows_differ down refl (p.rows end.column) end.row few last.1,
        )
        );
  }

  back : Slanted corner goal end → SlantedBy corner goal end
  back p = record {
    rows = p.rows;
    nearest_rows = p.nearest_rows;
    tried = onward_back goal.column corner.column s.columns_differ right refl end.column p.tried;
    none_before = λ c b d. at_most (p.rows c) (rows_behind corner goal)
        (λ m. p.none_before c b d (leaves_told goal.row corner.row s.rows_differ down refl (p.rows c) m));
    leaves_there = λ m. edge_back goal.row corner.row s.rows_differ down refl end.row
        (p.leaves_there (leaves_told goal.row corner.row s.rows_differ down refl (p.rows end.column) m));
    else_last = λ few. (
        let last = p.else_last (λ l. (
        let many = leaves_back goal.row corner.row s.rows_differ down refl s.goal_in.row_in (p.rows end.column) l in omega arith)) in (
          edge_back goal.column corner.column s.columns_differ right refl end.column last.0,
          off_back goal.row corner.row s.rows_differ down refl (p.rows end.column) end.row last.1,
        )
        );
  }

-- ---- the end, and no other cell
first_slanted : (corner goal : FieldCell) → Slants corner goal → SlantedBy corner goal (line_end corner goal)
unfolding line_end end_by
first_slanted corner goal s =
    rw (ne_eqb corner.column goal.column s.columns_differ, ne_eqb corner.row goal.row s.rows_differ)
    (slanted_first corner goal s.corner_in s.columns_differ)

pub end_slanted : (corner goal : FieldCell) → Slants corner goal → Slanted corner goal (line_end corner goal)
end_slanted corner goal s = told corner goal s (line_end corner goal) (first_slanted corner goal s)

pub slanted_only : (corner goal end : FieldCell) → Slants corner goal → Slanted corner goal end → end ≡ line_end corner goal
slanted_only corner goal end s p =
    slanted_once corner goal s.columns_differ end (line_end corner goal) (back corner goal s end p) (first_slanted corner goal s)
