-- Off the goal's column and row a line ends in the first column whose row leaves 0 to 9, or else in the last (02, "Job 11").
--     SlantedBy       what `Slanted` says (specs/Away.antt), by the helpers of the definition: the edge, what is behind, what is further
--     slanted_first   the end is so
--     slanted_once    and no other cell is
-- Assumes nothing.
use mathlib.Core.Path.{◌≡◌, refl, sym, ap, ◌∙◌}
use mathlib.Core.Bool.{Bool, true, false}
use mathlib.Core.Logic.{◌⊎◌, inl, inr}
use Prim.Native.Nat.{ℕ, zero, suc, ◌+◌, ◌-◌, ◌<◌, ◌≤◌, min}
use native.Mathlib.Omega.{arith}
use lib.Dec.{leb, ltb, eqb}
use borrow.Author.Tests.{ltb-true, ltb-false, leb-true, leb-false, eqb-true, eqb-false}
use Rattle.fields.specs.declared.FieldCell.{FieldCell}
use Rattle.fields.specs.Cell.{Inside}
use Rattle.line_nearest.specs.Line.{distance, nearest}
use Rattle.line_nearest.specs.Nearest.{Between, NearestTo}
use Rattle.line_nearest.proofs.Offset.{nearest_is, nearest_only}
use Rattle.line_end.specs.LineEnd.{edge_away, after, further, leaves, first_ending, first_leaving, slanted_end}

module _ (corner goal : FieldCell) where
  abbrev pub rightward : Bool
  rightward = ltb goal.column corner.column

  abbrev pub downward : Bool
  downward = ltb goal.row corner.row

  -- the rows that are behind the goal's, toward the corner's side: a row that is further off leaves 0 to 9
  abbrev pub rows_behind : ℕ
  rows_behind = after downward goal.row

  pub record SlantedBy (end : FieldCell) : Type 0 where
    pub rows : ℕ → ℕ
    pub nearest_rows : (c : ℕ)
        → NearestTo (distance goal.row corner.row) (distance goal.column corner.column) (distance goal.column c) (rows c)
    pub tried : Between corner.column (edge_away rightward) end.column
    pub none_before : (c : ℕ) → Between corner.column end.column c → (c ≡ end.column → ⊥) → rows c ≤ rows_behind
    pub leaves_there : rows_behind < rows end.column → end.row ≡ edge_away downward
    pub else_last : rows end.column ≤ rows_behind → (end.column ≡ edge_away rightward) × (end.row ≡ further downward goal.row (rows end.column))

-- ---- the first that ends, of those from j to j + n
record First (ends : ℕ → Bool) (j n end : ℕ) : Type 0 where
  from : j ≤ end
  to : end ≤ j + n
  none_before : (i : ℕ) → j ≤ i → i < end → ends i ≡ false
  ends_there : (end ≡ j + n → ⊥) → ends end ≡ true

here : (ends : ℕ → Bool) (j n : ℕ) → ((j ≡ j + n → ⊥) → ends j ≡ true) → First ends j n j
here ends j n e = record { from = omega arith; to = omega arith; none_before = λ i l m. absurd (omega arith); ends_there = e }

past : (ends : ℕ → Bool) (j n end : ℕ) → ends j ≡ false → First ends (suc j) n end → First ends j (suc n) end
past ends j n end e f =
    record {
      from = omega (arith, f.from);
      to = omega (arith, f.to);
      none_before = λ i l m. go i l m (eqb i j) refl;
      ends_there = λ d. f.ends_there (λ q. d (omega arith));
    }
  where
    go : (i : ℕ) → j ≤ i → i < end → (b : Bool) → eqb i j ≡ b → ends i ≡ false
    go i l m true g = rw (eqb-true i j g) e
    go i l m false g = f.none_before i (omega (arith, eqb-false i j g)) m

found : (ends : ℕ → Bool) (n j : ℕ) (b : Bool) → ends j ≡ b → First ends j n (first_ending ends n j b)
unfolding first_ending
found ends zero j b e = here ends j zero (λ d. absurd (d (omega arith)))
found ends (suc n) j true e = here ends j (suc n) (λ d. e)
found ends (suc n) j false e = past ends j n _ e (found ends n (suc j) (ends (suc j)) refl)

-- at most the last column
pub first_to : (rise span behind columns : ℕ) → first_leaving rise span behind columns ≤ columns
first_to rise span behind columns =
    let ends : ℕ → Bool = λ j. leaves rise span behind (span + j) in
    omega (arith, (found ends columns 0 (ends 0) refl).to)

-- ---- columns behind the corner's, away from the goal
-- a column c from the corner's on to the one that is j behind it: it is i behind it, and i more than the corner's from the goal's
record Behind (beyond : Bool) (corner goal c i j : ℕ) : Type 0 where
  at_most : i ≤ j
  is_last : i ≡ j → c ≡ further beyond corner j
  off_goal : distance goal c ≡ distance goal corner + i

-- the corner's column lies beyond the goal's, to the right or to the left
abbrev Beyond : Bool → ℕ → ℕ → Type 0
Beyond true goal corner = goal < corner
Beyond false goal corner = corner < goal

off_right : (corner goal c : ℕ) → goal < corner → corner ≤ c → distance goal c ≡ distance goal corner + distance corner c
off_right corner goal c g l =
    let i : distance corner c ≡ c - corner = omega arith in
    let k : distance goal corner ≡ corner - goal = omega arith in
    rw (i, k) (omega arith)

off_left : (corner goal c : ℕ) → corner < goal → c ≤ corner → distance goal c ≡ distance goal corner + distance corner c
off_left corner goal c g l =
    let i : distance corner c ≡ corner - c = omega arith in
    let k : distance goal corner ≡ goal - corner = omega arith in
    rw (i, k) (omega arith)

behind_right : (corner goal c j : ℕ) → goal < corner → corner ≤ c → c ≤ corner + j → Behind true corner goal c (distance corner c) j
behind_right corner goal c j g l m = record { at_most = omega arith; is_last = λ e. omega arith; off_goal = off_right corner goal c g l }

behind_left : (corner goal c j : ℕ) → corner < goal → c ≤ corner → corner ≤ c + j → Behind false corner goal c (distance corner c) j
behind_left corner goal c j g l m = record { at_most = omega arith; is_last = λ e. omega arith; off_goal = off_left corner goal c g l }

behind : (beyond : Bool) (corner goal c j : ℕ) → Beyond beyond goal corner → j ≤ after beyond corner
    → Between corner (further beyond corner j) c → Behind beyond corner goal c (distance corner c) j
behind true corner goal c j g h b = behind_right corner goal c j g (omega (arith, b.from)) (omega (arith, b.to))
behind false corner goal c j g h b = behind_left corner goal c j g (omega (arith, b.to)) (omega (arith, b.from))

-- the column that is j behind the corner's is itself such a one
last_off : (beyond : Bool) (corner goal j : ℕ) → Beyond beyond goal corner → j ≤ after beyond corner
    → distance goal (further beyond corner j) ≡ distance goal corner + j
last_off true corner goal j g h = omega arith
last_off false corner goal j g h = omega arith

tried_to_edge : (beyond : Bool) (corner j : ℕ) → corner < 10 → j ≤ after beyond corner → Between corner (edge_away beyond) (further beyond corner j)
tried_to_edge true corner j c h = record { from = omega arith; to = omega arith }
tried_to_edge false corner j c h = record { from = omega arith; to = omega arith }

all_behind : (beyond : Bool) (x : ℕ) → (beyond ≡ true → x < 10) → further beyond x (after beyond x) ≡ edge_away beyond
all_behind true x h = omega (arith, h refl)
all_behind false x h = omega arith

beyond_of : (goal corner : ℕ) (b : Bool) → (corner ≡ goal → ⊥) → ltb goal corner ≡ b → Beyond b goal corner
beyond_of goal corner true d e = ltb-true goal corner e
beyond_of goal corner false d e = omega (arith, d, ltb-false goal corner e)

distance_some : (a b : ℕ) → (b ≡ a → ⊥) → 0 < distance a b
distance_some a b d = omega (arith, d)

-- ---- the end
module _ (corner goal : FieldCell) (corner_in : Inside corner) (distance-columns : corner.column ≡ goal.column → ⊥) where
  abbrev right : Bool
  right = rightward corner goal

  abbrev down : Bool
  down = downward corner goal

  abbrev rise : ℕ
  rise = distance goal.row corner.row

  abbrev span : ℕ
  span = distance goal.column corner.column

  abbrev room : ℕ
  room = rows_behind corner goal

  abbrev columns : ℕ
  columns = after right corner.column

  abbrev end : ℕ
  end = first_leaving rise span room columns

  abbrev ends : ℕ → Bool
  ends j = leaves rise span room (span + j)

  side : Beyond right goal.column corner.column
  side = beyond_of goal.column corner.column right distance-columns refl

  first : First ends 0 columns end
  first = found ends columns 0 (ends 0) refl

  end_to : end ≤ columns
  end_to = first_to rise span room columns

  -- the row of a column, counted from the goal's
  abbrev the_row_in : ℕ → ℕ
  the_row_in c = nearest rise span (distance goal.column c)

  row_there : the_row_in (further right corner.column end) ≡ nearest rise span (span + end)
  row_there = ap (nearest rise span) (last_off right corner.column goal.column end side end_to)

  pub slanted_first : SlantedBy corner goal (slanted_end right down corner goal)
  unfolding slanted_end
  slanted_first =
      record {
        rows = the_row_in;
        nearest_rows = λ c. nearest_is rise span (distance goal.column c) (distance_some goal.column corner.column distance-columns);
        tried = tried_to_edge right corner.column end corner_in.column_in end_to;
        none_before = λ c b d.
            let w = behind right corner.column goal.column c end side end_to b in
            let a = w.at_most in
            let n : distance corner.column c ≡ end → ⊥ = λ e. d (w.is_last e) in
            let i : distance corner.column c < end = omega (arith, n) in
            rw w.off_goal (ltb-false room _ (first.none_before (distance corner.column c) (omega arith) i));
        leaves_there = λ l.
            let m : min room (nearest rise span (span + end)) ≡ room = omega (arith, rw row_there at l) in
            ap (further down goal.row) m ∙ all_behind down goal.row (λ d. omega (arith, ltb-true goal.row corner.row d, corner_in.row_in));
        else_last = λ l.
            let k = rw row_there at l in
            let m : min room (nearest rise span (span + end)) ≡ nearest rise span (span + end) = omega (arith, k) in
            let e : end ≡ columns = last k (eqb end columns) refl in (
              ap (further right corner.column) e ∙ all_behind right corner.column (λ d. corner_in.column_in),
              ap (further down goal.row) (m ∙ sym row_there),
            );
      }
    where
      last : nearest rise span (span + end) ≤ room → (b : Bool) → eqb end columns ≡ b → end ≡ columns
      last k true e = eqb-true end columns e
      last k false e =
          let t = ltb-true room (nearest rise span (span + end)) (first.ends_there (λ q. eqb-false end columns e (omega arith))) in
          absurd (omega arith)

-- ---- no other cell is
-- of two columns on the way to the edge, one lies on the way to the other
nearer : (corner edge c d : ℕ) → Between corner edge c → Between corner edge d → (b : Bool) → leb corner edge ≡ b
    → Between corner d c ⊎ Between corner c d
nearer corner edge c d p q b e = go b (leb c d) e refl
  where
    go : (b t : Bool) → leb corner edge ≡ b → leb c d ≡ t → Between corner d c ⊎ Between corner c d
    go true true e f = inl (record { from = omega (arith, p.from, leb-true corner edge e); to = omega (arith, leb-true c d f) })
    go true false e f = inr (record { from = omega (arith, q.from, leb-true corner edge e); to = omega (arith, leb-false c d f) })
    go false true e f = inr (record { from = omega (arith, leb-true c d f); to = omega (arith, q.to, leb-false corner edge e) })
    go false false e f = inl (record { from = omega (arith, leb-false c d f); to = omega (arith, p.to, leb-false corner edge e) })

-- a column on the way to another, which is on the way to the edge, is not the edge where they differ
short_of_edge : (corner edge c d : ℕ) → Between corner edge d → Between corner d c → c ≡ edge → c ≡ d
short_of_edge corner edge c d p q e = omega (arith, p.from, p.to, q.from, q.to, e)

module _ (corner goal : FieldCell) (distance-columns : corner.column ≡ goal.column → ⊥) where
  abbrev Ends : FieldCell → Type 0
  Ends = SlantedBy corner goal

  same_rows : (e f : FieldCell) (p : Ends e) (q : Ends f) (c : ℕ) → p.rows c ≡ q.rows c
  same_rows e f p q c =
      let s = distance_some goal.column corner.column distance-columns in
      nearest_only _ _ _ _ s (p.nearest_rows c) ∙ sym (nearest_only _ _ _ _ s (q.nearest_rows c))

  -- an end is not before another
  not_before : (e f : FieldCell) → Ends e → Ends f → Between corner.column f.column e.column → e.column ≡ f.column
  not_before e f p q b = go (eqb e.column f.column) refl
    where
      go : (t : Bool) → eqb e.column f.column ≡ t → e.column ≡ f.column
      go true t = eqb-true e.column f.column t
      go false t =
          let l = q.none_before e.column b (eqb-false e.column f.column t) in
          let k = p.else_last (rw (same_rows e f p q e.column) l) in
          short_of_edge corner.column (edge_away (rightward corner goal)) e.column f.column q.tried b k.0

  same_column : (e f : FieldCell) → Ends e → Ends f → e.column ≡ f.column
  same_column e f p q = go (nearer corner.column (edge_away (rightward corner goal)) e.column f.column p.tried q.tried _ refl)
    where
      go : Between corner.column f.column e.column ⊎ Between corner.column e.column f.column → e.column ≡ f.column
      go (inl b) = not_before e f p q b
      go (inr b) = sym (not_before f e q p b)

  same_row : (e f : FieldCell) → Ends e → Ends f → e.row ≡ f.row
  same_row e f p q = go (leb (p.rows e.column) (rows_behind corner goal)) refl
    where
      r : p.rows e.column ≡ q.rows f.column
      r = same_rows e f p q e.column ∙ ap q.rows (same_column e f p q)

      go : (t : Bool) → leb (p.rows e.column) (rows_behind corner goal) ≡ t → e.row ≡ f.row
      go true t =
          let l = leb-true _ _ t in
          (p.else_last l).1 ∙ ap (further (downward corner goal) goal.row) r ∙ sym (q.else_last (rw (← r) l)).1
      go false t =
          let l = leb-false _ _ t in
          p.leaves_there l ∙ sym (q.leaves_there (rw (← r) l))

  pub slanted_once : (e f : FieldCell) → Ends e → Ends f → e ≡ f
  slanted_once e f p q = rw (same_column e f p q, same_row e f p q)
