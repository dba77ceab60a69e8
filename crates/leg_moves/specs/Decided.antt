-- Whether an arrow leads on is decided, for every sheet and place, and so is whether a cart ever stands still. The definitions of the answers lean on this,
-- and on nothing else, to be total functions: how it was decided makes no difference (`proofs/Told.antt`).
-- Two moves from a place lead to the same place, so that a way has one end. The places on it are all different, since each has another number of moves left,
-- and a floor has 6,400: a way that has not ended after 6,400 moves never does.
--     next          the move from a place, or none
--     stands_once   a way ends after one number of moves alone
--     few_moves     and from a place of the floor after at most 6,399
--     way           the decision
-- Assumes nothing.
use Rattle.std.specs.Prelude.{◌≡◌, refl, Bool, true, false, ◌&&◌, ◌⊎◌, List, ltb, leb}
use Rattle.std.proofs.Common.{sym, ap, ap₂, ◌∙◌, true≢false, inl, inr, ltb-true, leb-true, lt-ltb, le-leb}
use Rattle.std.proofs.Math.Path.{subst}
use Rattle.std.proofs.Math.Bool.{and-eq-true_iff}
use Prim.Native.Nat.{ℕ, zero, suc, ◌+◌, ◌-◌, ◌*◌, ◌/◌, ◌%◌, ◌≤◌, ◌<◌}
use native.Mathlib.Omega.{arith}
use Rattle.flow_arrows.specs.Arrows.{northward, eastward, southward, westward}
use Rattle.flow_arrivals.specs.Decided.{AllDifferent, few}
use Rattle.leg_journey.specs.Place.{Place, OnFloor, the_sector_in, the_cell_in, Points, arrow_at, FloorMove, FloorWalk, stays, goes}
use Rattle.leg_moves.specs.Moving.{Still, Next, moves_to, stands, StandsAfter, Way, stands_after, stands_never}

abbrev pub place : ℕ → ℕ → Place
place c r = record { column = c; row = r }

-- ---- where an arrow points

module _ (a : ℕ) (p : Place) where
  abbrev pub to_row : ℕ
  to_row = p.row + southward a - northward a

  abbrev pub to_column : ℕ
  to_column = p.column + eastward a - westward a

  abbrev pub turns : Bool
  turns = leb 1 a && (leb (northward a + southward a) 1 && leb (eastward a + westward a) 1)

  abbrev row_stays : Bool
  row_stays = leb (northward a) (p.row + southward a) && ltb to_row 80

  abbrev column_stays : Bool
  column_stays = leb (westward a) (p.column + eastward a) && ltb to_column 80

  abbrev pub stays_on : Bool
  stays_on = row_stays && column_stays

  pub points_at : turns ≡ true → stays_on ≡ true → Points a p (place to_column to_row)
  points_at t i =
      let some = (and-eq-true_iff (leb 1 a) (leb (northward a + southward a) 1 && leb (eastward a + westward a) 1)).0 t in
      let one = (and-eq-true_iff (leb (northward a + southward a) 1) (leb (eastward a + westward a) 1)).0 some.1 in
      let both = (and-eq-true_iff row_stays column_stays).0 i in
      let row = (and-eq-true_iff (leb (northward a) (p.row + southward a)) (ltb to_row 80)).0 both.0 in
      let column = (and-eq-true_iff (leb (westward a) (p.column + eastward a)) (ltb to_column 80)).0 both.1 in
      let not-north-off = leb-true (northward a) (p.row + southward a) row.0 in
      let not-west-off = leb-true (westward a) (p.column + eastward a) column.0 in
      record {
        rows = omega arith;
        columns = omega arith;
        somewhere = leb-true 1 a some.0;
        not_north_south = leb-true (northward a + southward a) 1 one.0;
        not_east_west = leb-true (eastward a + westward a) 1 one.1;
        row_on = ltb-true to_row 80 row.1;
        column_on = ltb-true to_column 80 column.1;
      }

  pub points_so : {q : Place} → Points a p q → (turns ≡ true) × (stays_on ≡ true)
  points_so w =
      let r = w.rows in
      let c = w.columns in (
        rw (le-leb 1 a w.somewhere, le-leb (northward a + southward a) 1 w.not_north_south, le-leb (eastward a + westward a) 1 w.not_east_west),
        rw (
          le-leb (northward a) (p.row + southward a) (omega arith),
          lt-ltb to_row 80 (omega (arith, w.row_on)),
          le-leb (westward a) (p.column + eastward a) (omega arith),
          lt-ltb to_column 80 (omega (arith, w.column_on)),
        ),
      )

  pub points_once : {q r : Place} → Points a p q → Points a p r → q ≡ r
  points_once {q} {r} v w = ap₂ place (omega (arith, v.columns, w.columns)) (omega (arith, v.rows, w.rows))

module _ (sheet : List ℕ) where
  unfoldable pub next_if : (p : Place) (b c : Bool) → turns (arrow_at sheet p) p ≡ b → stays_on (arrow_at sheet p) p ≡ c → Next sheet p
  next_if p false c e f = stands (λ q m. true≢false (sym (points_so (arrow_at sheet p) p m).0 ∙ e))
  next_if p true false e f = stands (λ q m. true≢false (sym (points_so (arrow_at sheet p) p m).1 ∙ f))
  next_if p true true e f = moves_to (place (to_column (arrow_at sheet p) p) (to_row (arrow_at sheet p) p)) (points_at (arrow_at sheet p) p e f)

  -- the move from a place, or none
  unfoldable pub next : (p : Place) → Next sheet p
  next p = next_if p (turns (arrow_at sheet p) p) (stays_on (arrow_at sheet p) p) refl refl

  -- ---- a way has one end

  pub move_once : {p q r : Place} → FloorMove sheet p q → FloorMove sheet p r → q ≡ r
  move_once {p} v w = points_once (arrow_at sheet p) p v w

  -- how standing still begins
  pub data Begun (n : ℕ) (p : Place) : Type 0 where
    here : Still sheet p → n ≡ zero → Begun n p
    moved : (m : ℕ) (q : Place) → FloorMove sheet p q → StandsAfter sheet m q → n ≡ suc m → Begun n p

  begun_so : {n : ℕ} {p r : Place} → FloorWalk sheet n p r → Still sheet r → Begun n p
  begun_so stays o = here o refl
  begun_so {r = r} (goes {n = m} {q = q} f w) o = moved m q f (record { at = r; walk = w; still = o }) refl

  pub begun : {n : ℕ} {p : Place} → StandsAfter sheet n p → Begun n p
  begun s = begun_so s.walk s.still

  unfoldable pub stands_here : {p : Place} → Still sheet p → StandsAfter sheet zero p
  stands_here {p} o = record { at = p; walk = stays; still = o }

  unfoldable pub stands_further : {n : ℕ} {p q : Place} → FloorMove sheet p q → StandsAfter sheet n q → StandsAfter sheet (suc n) p
  stands_further f s = record { at = s.at; walk = goes f s.walk; still = s.still }

  pub later : {n : ℕ} {p q : Place} → FloorMove sheet p q → StandsAfter sheet n p → (m : ℕ) × (n ≡ suc m) × StandsAfter sheet m q
  later {n} {p} {q} f s = go (begun s)
    where
      go : Begun n p → (m : ℕ) × (n ≡ suc m) × StandsAfter sheet m q
      go (here o z) = absurd (o q f)
      go (moved m r g t e) = (m, e, subst (StandsAfter sheet m) (move_once g f) t)

  same_end : {n m : ℕ} {p q r : Place} → FloorWalk sheet n p q → FloorWalk sheet m p r → Still sheet q → Still sheet r → (n ≡ m) × (q ≡ r)
  same_end stays stays o u = (refl, refl)
  same_end stays (goes {q = q} f w) o u = absurd (o q f)
  same_end (goes {q = q} f w) stays o u = absurd (u q f)
  same_end {q = q} (goes f w) (goes {n = m} {r = r} g v) o u =
      let s = same_end w (subst (λ (x : Place). FloorWalk sheet m x r) (move_once g f) v) o u in
      (ap suc s.0, s.1)

  pub stands_once : {n m : ℕ} {p : Place} (s : StandsAfter sheet n p) (t : StandsAfter sheet m p) → (n ≡ m) × (s.at ≡ t.at)
  stands_once s t = same_end s.walk t.walk s.still t.still

  -- ---- the places on a way

  unfoldable pub passed : {n : ℕ} {p r : Place} → FloorWalk sheet n p r → ℕ → Place
  passed {p = p} stays i = p
  passed {p = p} (goes f w) zero = p
  passed (goes f w) (suc i) = passed w i

  on_floor : {p q : Place} → FloorMove sheet p q → OnFloor q
  on_floor f = record { row_on = f.row_on; column_on = f.column_on }

  pub passed_on : {n : ℕ} {p r : Place} → OnFloor p → (w : FloorWalk sheet n p r) (i : ℕ) → OnFloor (passed w i)
  unfolding passed
  passed_on h stays i = h
  passed_on h (goes f w) zero = h
  passed_on h (goes f w) (suc i) = passed_on (on_floor f) w i

  passed_left : {n : ℕ} {p r : Place} (w : FloorWalk sheet n p r) → Still sheet r → (i k : ℕ) → i + k ≡ n → StandsAfter sheet k (passed w i)
  unfolding passed
  passed_left {p = p} stays o i k e = let z : zero ≡ k = omega arith in subst (λ (j : ℕ). StandsAfter sheet j p) z (stands_here o)
  passed_left {p = p} {r = r} (goes {n = m} f w) o zero k e =
      let z : suc m ≡ k = omega arith in
      subst (λ (j : ℕ). StandsAfter sheet j p) z (record { at = r; walk = goes f w; still = o })
  passed_left (goes f w) o (suc i) k e = passed_left w o i k (omega arith)

  abbrev pub index_in : Place → ℕ
  index_in p = the_sector_in p * 100 + the_cell_in p

  pub index_below : (p : Place) → OnFloor p → index_in p < 6400
  index_below p h = omega (arith, h.row_on, h.column_on)

  -- a place's index has its sector and its cell, and they its column and its row
  same_sector : (s t x y : ℕ) → x < 100 → y < 100 → s * 100 + x ≡ t * 100 + y → (s ≡ t) × (x ≡ y)
  same_sector s t x y h l e = (omega arith, omega arith)

  same_column : (c r d s : ℕ) → c < 80 → d < 80 → r / 10 * 8 + c / 10 ≡ s / 10 * 8 + d / 10 → r % 10 * 10 + c % 10 ≡ s % 10 * 10 + d % 10 → c ≡ d
  same_column c r d s h l e f = omega arith

  same_row : (c r d s : ℕ) → c < 80 → d < 80 → r / 10 * 8 + c / 10 ≡ s / 10 * 8 + d / 10 → r % 10 * 10 + c % 10 ≡ s % 10 * 10 + d % 10 → r ≡ s
  same_row c r d s h l e f = omega arith

  pub index_once : (p q : Place) → OnFloor p → OnFloor q → index_in p ≡ index_in q → p ≡ q
  index_once p q h l e =
      let i = same_sector (the_sector_in p) (the_sector_in q) (the_cell_in p) (the_cell_in q) (omega arith) (omega arith) e in
      ap₂ place (same_column p.column p.row q.column q.row h.column_on l.column_on i.0 i.1)
      (same_row p.column p.row q.column q.row h.column_on l.column_on i.0 i.1)

  pub few_moves : {n : ℕ} {p : Place} → OnFloor p → StandsAfter sheet n p → n ≤ 6399
  few_moves {n} {p} on s = omega (arith, few 6400 (suc n) index (λ i h. index_below (cell i) (passed_on on s.walk i)) different)
    where
      cell : ℕ → Place
      cell = passed s.walk

      index : ℕ → ℕ
      index i = index_in (cell i)

      left : (i : ℕ) → i ≤ n → StandsAfter sheet (n - i) (cell i)
      left i h = passed_left s.walk s.still i (n - i) (omega arith)

      different : AllDifferent (suc n) index
      different i j h k e =
          let same : cell i ≡ cell j = index_once (cell i) (cell j) (passed_on on s.walk i) (passed_on on s.walk j) e in
          let z = (stands_once (left j (omega arith)) (subst (StandsAfter sheet (n - i)) same (left i (omega arith)))).0 in
          absurd (omega arith)

  -- from any place: its first move leads onto the floor
  pub any_few : {n : ℕ} {p : Place} → StandsAfter sheet n p → n ≤ 6400
  any_few {n} {p} s = go (begun s)
    where
      go : Begun n p → n ≤ 6400
      go (here o z) = omega arith
      go (moved m q f t e) = omega (arith, few_moves (on_floor f) t)

  -- ---- the decision

  abbrev pub Within : ℕ → Place → Type 0
  Within n p = ((k : ℕ) × StandsAfter sheet k p) ⊎ ((k : ℕ) → k < n → StandsAfter sheet k p → ⊥)

  unfoldable pub searched_on : {n : ℕ} {p q : Place} → FloorMove sheet p q → Within n q → Within (suc n) p
  searched_on f (inl s) = inl (suc s.0, stands_further f s.1)
  searched_on f (inr o) = inr (λ k h s. (let l = later f s in o l.0 (omega (arith, l.1)) l.2))

  unfoldable pub searched_from : {n : ℕ} {p : Place} → Next sheet p → ((q : Place) → Within n q) → Within (suc n) p
  searched_from (moves_to q f) rest = searched_on f (rest q)
  searched_from (stands o) rest = inl (zero, stands_here o)

  unfoldable pub searched : (n : ℕ) (p : Place) → Within n p
  searched zero p = inr (λ k h s. absurd (omega arith))
  searched (suc n) p = searched_from {n = n} {p = p} (next p) (λ q. searched n q)

  unfoldable pub decided : {p : Place} → Within 6401 p → Way sheet p
  decided (inl s) = stands_after s.0 s.1
  decided (inr o) = stands_never (λ n s. o n (omega (arith, any_few s)) s)

  unfoldable pub way : (p : Place) → Way sheet p
  way p = decided (searched 6401 p)
