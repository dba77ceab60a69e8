-- Whether followed arrows arrive is decided, for every sheet and every cell. The definition of the answer leans on this, and on nothing else, to be a
-- total function: which way it was decided makes no difference (`moves_any`, `proofs/Told.antt`).
-- The cells that arrows pass before they first arrive are all different, since each has a first number of moves of its own. A sector has 100 cells, so
-- that arrows which have not arrived after 99 moves never do.
--     searched      whether fewer than n moves arrive
--     few           different numbers below n are at most n
--     few_first     the first number of moves is at most 99
--     arrival       the decision
-- That n moves arrive, and no fewer, is told here by these two facts (`AtFirst`), so that the decision does not lean on a word of the promise;
-- `proofs/First.antt` says the same of the promise's own word, `ComesFirst`: `first_there`, `first_further`, `first_once` and `first_few`.
-- Assumes nothing.
use Rattle.std.specs.Prelude.{◌≡◌, refl, Bool, true, false, cond, ◌&&◌, ◌⊎◌, List, ltb, leb, eqb, get_or}
use Rattle.std.proofs.Common.{sym, ap, ◌∙◌, true≢false, inl, inr, ltb-true, leb-true, lt-ltb, le-leb, eq-eqb, ne_eqb}
use Rattle.std.proofs.Math.Path.{subst}
use Rattle.std.proofs.Math.Bool.{and-eq-true_iff}
use Prim.Native.Nat.{ℕ, zero, suc, ◌+◌, ◌-◌, ◌*◌, ◌/◌, ◌%◌, ◌≤◌, ◌<◌}
use native.Mathlib.Omega.{arith}
use Rattle.std.proofs.Math.Decide.{ℕ_discrete, dec_lt}
use Rattle.flow_arrows.specs.Arrows.{northward, eastward, southward, westward, arrow, Away}
use Rattle.flow_arrivals.specs.Following.{is_arrival, Follows, Comes, there, further, Arrival, arrives_after, arrives_never}

-- ---- where an arrow points

-- the row and the column of a cell by its index, and a sum less one of its parts
row_at : (r c : ℕ) → c < 10 → (r * 10 + c) / 10 ≡ r
row_at r c h = omega arith

column_at : (r c : ℕ) → c < 10 → (r * 10 + c) % 10 ≡ c
column_at r c h = omega arith

cell_at : (r c : ℕ) → r < 10 → c < 10 → r * 10 + c < 100
cell_at r c h l = omega arith

back : (x s n : ℕ) → n ≤ x + s → x + s - n + n ≡ x + s
back x s n h = omega arith

-- the row and the column that arrow a points at from cell x, and whether it points at a cell of the sector
module _ (a x : ℕ) where
  abbrev pub to_row : ℕ
  to_row = x / 10 + southward a - northward a

  abbrev pub to_column : ℕ
  to_column = x % 10 + eastward a - westward a

  abbrev pub turns : Bool
  turns = leb 1 a && (leb (northward a + southward a) 1 && leb (eastward a + westward a) 1)

  abbrev pub stays_inside : Bool
  stays_inside =
      (leb (northward a) (x / 10 + southward a) && ltb to_row 10)
      && (leb (westward a) (x % 10 + eastward a) && ltb to_column 10)

  pub points_at : turns ≡ true → stays_inside ≡ true → Away a x (to_row * 10 + to_column) × (to_row * 10 + to_column < 100)
  points_at t i =
      let some = (and-eq-true_iff (leb 1 a) (leb (northward a + southward a) 1 && leb (eastward a + westward a) 1)).0 t in
      let one = (and-eq-true_iff (leb (northward a + southward a) 1) (leb (eastward a + westward a) 1)).0 some.1 in
      let both = (and-eq-true_iff (leb (northward a) (x / 10 + southward a) && ltb to_row 10) (leb (westward a) (x % 10 + eastward a) && ltb to_column 10)).0 i in
      let row = (and-eq-true_iff (leb (northward a) (x / 10 + southward a)) (ltb to_row 10)).0 both.0 in
      let column = (and-eq-true_iff (leb (westward a) (x % 10 + eastward a)) (ltb to_column 10)).0 both.1 in
      let in_row = ltb-true to_row 10 row.1 in
      let in_column = ltb-true to_column 10 column.1 in
      let not-north-off = leb-true (northward a) (x / 10 + southward a) row.0 in
      let not-west-off = leb-true (westward a) (x % 10 + eastward a) column.0 in (
        record {
          rows = ap (λ (k : ℕ). k + northward a) (row_at to_row to_column in_column) ∙ back (x / 10) (southward a) (northward a) not-north-off;
          columns = ap (λ (k : ℕ). k + westward a) (column_at to_row to_column in_column) ∙ back (x % 10) (eastward a) (westward a) not-west-off;
          somewhere = leb-true 1 a some.0;
          not_north_south = leb-true (northward a + southward a) 1 one.0;
          not_east_west = leb-true (eastward a + westward a) 1 one.1;
        },
        cell_at to_row to_column in_row in_column,
      )

  pub points_so : {y : ℕ} → Away a x y → y < 100 → (turns ≡ true) × (stays_inside ≡ true)
  points_so {y} w h =
      let r = w.rows in
      let c = w.columns in (
        rw (le-leb 1 a w.somewhere, le-leb (northward a + southward a) 1 w.not_north_south, le-leb (eastward a + westward a) 1 w.not_east_west),
        rw (
          le-leb (northward a) (x / 10 + southward a) (omega arith),
          lt-ltb to_row 10 (omega arith),
          le-leb (westward a) (x % 10 + eastward a) (omega arith),
          lt-ltb to_column 10 (omega arith),
        ),
      )

  points_once : {y z : ℕ} → Away a x y → Away a x z → y ≡ z
  points_once v w = omega (arith, v.rows, v.columns, w.rows, w.columns)

-- ---- different numbers

-- v in place of n
abbrev instead : ℕ → ℕ → ℕ → ℕ
instead n v k = cond (eqb k n) v k

instead_is : (n v k : ℕ) → ((k ≡ n) × (instead n v k ≡ v)) ⊎ ((k ≡ n → ⊥) × (instead n v k ≡ k))
instead_is n v k = elim (ℕ_discrete k n) [ yes e ↦ inl (e, rw (eq-eqb k n e)) | no e ↦ inr (e, rw (ne_eqb k n e)) ]

-- m different numbers below n: m is at most n
abbrev pub AllBelow : ℕ → ℕ → (ℕ → ℕ) → Type 0
AllBelow n m f = (i : ℕ) → i < m → f i < n

abbrev pub AllDifferent : ℕ → (ℕ → ℕ) → Type 0
AllDifferent m f = (i j : ℕ) → i < j → j < m → f i ≡ f j → ⊥

module _ (n m : ℕ) (f : ℕ → ℕ) (b : AllBelow (suc n) (suc m) f) (d : AllDifferent (suc m) f) where
  -- the last number put where n stands
  abbrev without : ℕ → ℕ
  without i = instead n (f m) (f i)

  without_below : AllBelow n m without
  without_below i h = go (instead_is n (f m) (f i))
    where
      go : ((f i ≡ n) × (without i ≡ f m)) ⊎ ((f i ≡ n → ⊥) × (without i ≡ f i)) → without i < n
      go (inl e) = let other : f m ≡ n → ⊥ = λ q. d i m h (omega arith) (e.0 ∙ sym q) in omega (arith, other, e.1, b m (omega arith))
      go (inr e) = omega (arith, e.0, e.1, b i (omega arith))

  without_different : AllDifferent m without
  without_different i j h k q = go (instead_is n (f m) (f i)) (instead_is n (f m) (f j))
    where
      go : ((f i ≡ n) × (without i ≡ f m)) ⊎ ((f i ≡ n → ⊥) × (without i ≡ f i))
          → ((f j ≡ n) × (without j ≡ f m)) ⊎ ((f j ≡ n → ⊥) × (without j ≡ f j)) → ⊥
      go (inl a) (inl c) = d i j h (omega arith) (a.0 ∙ sym c.0)
      go (inl a) (inr c) = d j m k (omega arith) (sym (sym a.1 ∙ q ∙ c.1))
      go (inr a) (inl c) = d i m (omega arith) (omega arith) (sym a.1 ∙ q ∙ c.1)
      go (inr a) (inr c) = d i j h (omega arith) (sym a.1 ∙ q ∙ c.1)

pub few : (n m : ℕ) (f : ℕ → ℕ) → AllBelow n m f → AllDifferent m f → m ≤ n
few zero zero f b d = omega arith
few zero (suc m) f b d = absurd (omega (arith, b zero (omega arith)))
few (suc n) zero f b d = omega arith
few (suc n) (suc m) f b d = omega (arith, few n m (without n m f b d) (without_below n m f b d) (without_different n m f b d))

-- ---- following

module _ (bytes : List ℕ) where
  -- the move from a cell, or that there is none
  pub data NextMove (x : ℕ) : Type 0 where
    moves_to : (y : ℕ) → Follows bytes x y → NextMove x
    no_move : ((y : ℕ) → Follows bytes x y → ⊥) → NextMove x

  unfoldable pub next_move_if : (x : ℕ) (b c d : Bool) → ltb x 100 ≡ b → turns (arrow bytes x) x ≡ c → stays_inside (arrow bytes x) x ≡ d → NextMove x
  next_move_if x false c d e f g = no_move (λ y w. true≢false (sym (lt-ltb x 100 w.leaves) ∙ e))
  next_move_if x true false d e f g = no_move (λ y w. true≢false (sym (points_so (arrow bytes x) x w.away w.enters).0 ∙ f))
  next_move_if x true true false e f g = no_move (λ y w. true≢false (sym (points_so (arrow bytes x) x w.away w.enters).1 ∙ g))
  next_move_if x true true true e f g =
      let p = points_at (arrow bytes x) x f g in
      moves_to (to_row (arrow bytes x) x * 10 + to_column (arrow bytes x) x) (record { leaves = ltb-true x 100 e; away = p.0; enters = p.1 })

  unfoldable pub next_move : (x : ℕ) → NextMove x
  next_move x = next_move_if x (ltb x 100) (turns (arrow bytes x) x) (stays_inside (arrow bytes x) x) refl refl refl

  -- how coming there begins
  pub data Begun (n x : ℕ) : Type 0 where
    here : is_arrival (get_or bytes x 0) ≡ true → n ≡ zero → Begun n x
    moved : (m y : ℕ) → Follows bytes x y → Comes bytes m y → n ≡ suc m → Begun n x

  pub begun : {n x : ℕ} → Comes bytes n x → Begun n x
  begun (there t) = here t refl
  begun (further {n = m} {y = y} f c) = moved m y f c refl

  -- from a cell that is none of those, after its move
  pub later : {n x y : ℕ} → is_arrival (get_or bytes x 0) ≡ false → Follows bytes x y → Comes bytes n x → (m : ℕ) × (n ≡ suc m) × Comes bytes m y
  later {n} {x} {y} e f c = go (begun c)
    where
      go : Begun n x → (m : ℕ) × (n ≡ suc m) × Comes bytes m y
      go (here t z) = absurd (true≢false (sym t ∙ e))
      go (moved m z g d q) = (m, q, subst (Comes bytes m) (points_once (arrow bytes x) x g.away f.away) d)

  pub stuck : {n x : ℕ} → is_arrival (get_or bytes x 0) ≡ false → ((y : ℕ) → Follows bytes x y → ⊥) → Comes bytes n x → ⊥
  stuck {n} {x} e o c = go (begun c)
    where
      go : Begun n x → ⊥
      go (here t z) = true≢false (sym t ∙ e)
      go (moved m z g d q) = o z g

  -- after n moves, and after no fewer
  abbrev pub AtFirst : ℕ → ℕ → Type 0
  AtFirst n x = Comes bytes n x × ((m : ℕ) → m < n → Comes bytes m x → ⊥)

  pub there_first : {x : ℕ} → is_arrival (get_or bytes x 0) ≡ true → AtFirst zero x
  there_first e = (there e, λ m h c. absurd (omega arith))

  pub further_first : {n x y : ℕ} → is_arrival (get_or bytes x 0) ≡ false → Follows bytes x y → AtFirst n y → AtFirst (suc n) x
  further_first e f c = (further f c.0, λ m h d. (let l = later e f d in c.1 l.0 (omega (arith, l.1)) l.2))

  -- ---- whether fewer than n moves arrive

  abbrev pub Within : ℕ → ℕ → Type 0
  Within n x = ((k : ℕ) × AtFirst k x) ⊎ ((k : ℕ) → k < n → Comes bytes k x → ⊥)

  unfoldable pub searched_on : {n x y : ℕ} → is_arrival (get_or bytes x 0) ≡ false → Follows bytes x y → Within n y → Within (suc n) x
  searched_on e f (inl c) = inl (suc c.0, further_first e f c.1)
  searched_on e f (inr o) = inr (λ k h c. (let l = later e f c in o l.0 (omega (arith, l.1)) l.2))

  unfoldable pub searched_from : {n x : ℕ} (b : Bool) → is_arrival (get_or bytes x 0) ≡ b → NextMove x → ((y : ℕ) → Within n y) → Within (suc n) x
  searched_from true e move rest = inl (zero, there_first e)
  searched_from false e (moves_to y f) rest = searched_on e f (rest y)
  searched_from false e (no_move o) rest = inr (λ k h c. stuck e o c)

  unfoldable pub searched : (n x : ℕ) → Within n x
  searched zero x = inr (λ k h c. absurd (omega arith))
  searched (suc n) x = searched_from {n = n} {x = x} (is_arrival (get_or bytes x 0)) refl (next_move x) (λ y. searched n y)

  -- ---- the cells that are passed

  -- the cell after i moves
  passed : {n x : ℕ} → Comes bytes n x → ℕ → ℕ
  passed {x = x} (there t) i = x
  passed {x = x} (further f c) zero = x
  passed (further f c) (suc i) = passed c i

  passed_inside : {n x : ℕ} → x < 100 → (c : Comes bytes n x) (i : ℕ) → passed c i < 100
  unfolding passed
  passed_inside h (there t) i = h
  passed_inside h (further f c) zero = h
  passed_inside h (further f c) (suc i) = passed_inside f.enters c i

  -- it has the number that is left as its own first one
  passed_first : {n x : ℕ} (c : Comes bytes n x) → ((m : ℕ) → m < n → Comes bytes m x → ⊥) → (i k : ℕ) → i + k ≡ n → AtFirst k (passed c i)
  unfolding passed
  passed_first {x = x} (there t) o i k e =
      let z : zero ≡ k = omega arith in
      subst (λ (j : ℕ). AtFirst j x) z (there_first t)
  passed_first {x = x} (further {n = m} f c) o zero k e =
      let z : suc m ≡ k = omega arith in
      subst (λ (j : ℕ). AtFirst j x) z (further f c, o)
  passed_first (further f c) o (suc i) k e = passed_first c (λ m h d. o (suc m) (omega arith) (further f d)) i k (omega arith)

  pub once_first : {n m x : ℕ} → AtFirst n x → AtFirst m x → n ≡ m
  once_first {n} {m} v w =
      elim (dec_lt n m) [
        | yes p ↦ absurd (w.1 n p v.0)
        | no p ↦ elim (dec_lt m n) [ yes q ↦ absurd (v.1 m q w.0) | no q ↦ omega arith ]
      ]

  pub few_first : {n x : ℕ} → AtFirst n x → n ≤ 99
  few_first {n} {x} v = go (begun v.0)
    where
      cell : ℕ → ℕ
      cell = passed v.0

      first : (i : ℕ) → i ≤ n → AtFirst (n - i) (cell i)
      first i h = passed_first v.0 v.1 i (n - i) (omega arith)

      different : AllDifferent (suc n) cell
      different i j h k e =
          let same : n - j ≡ n - i = once_first (first j (omega arith)) (subst (AtFirst (n - i)) e (first i (omega arith))) in
          absurd (omega arith)

      go : Begun n x → n ≤ 99
      go (here t z) = omega arith
      go (moved m y f c q) = omega (arith, few 100 (suc n) cell (λ i h. passed_inside f.leaves v.0 i) different)

  -- ---- the decision

  pub never_later : {x : ℕ} → ((k : ℕ) → k < 100 → Comes bytes k x → ⊥) → (n : ℕ) → Comes bytes n x → ⊥
  never_later {x} o n c = go (searched (suc n) x)
    where
      go : Within (suc n) x → ⊥
      go (inl d) = o d.0 (omega (arith, few_first d.1)) d.1.0
      go (inr q) = q n (omega arith) c

  unfoldable pub decided : {x : ℕ} → Within 100 x → Arrival bytes x
  decided (inl c) = arrives_after c.0 c.1.0 c.1.1
  decided (inr o) = arrives_never (never_later o)

  unfoldable pub arrival : (x : ℕ) → Arrival bytes x
  arrival x = decided (searched 100 x)
