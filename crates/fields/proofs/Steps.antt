-- Laws of cells and steps that later layers cite.
--     inside_true, true_inside      what the test of a cell says
--     index_told                    what `as_1d_index` answers of a cell of the sector
--     index_known                   and of the cell at an index
--     near_made                     a step may be made from the cell at any index
--     cell_of_index, index_of_cell  a cell of the sector and its index
--     stepped_cell, steps_to        where a step arrives: at the two sums, inside
--     told, steps_by                the same by what the differences add and take away
--     steps_out                     else it leaves the sector
--     summed_in, summed_out         a step worked out by two sums and their range
--     step_told, step_stays         where a step from an index arrives, by what its calls answer; so it stays inside
--     arrived_once                  it arrives at one cell
--     index_arrived                 the index of where it arrives, by the index that it was made from
--     step_back                     a step is undone by the opposite step
--     by_sums, undone, promised     what is promised of a step
--     pointless                     Zero leads nowhere
-- Assumes nothing.
use mathlib.Core.Path.{◌≡◌, refl, sym, subst, ap, ◌∙◌}
use mathlib.Core.Bool.{Bool, true, false, and-eq-true_iff, false≢true}
use mathlib.Core.Logic.{◌⊎◌, inl, inr}
use Prim.Native.Nat.{ℕ, ◌+◌, ◌*◌, ◌<◌, ◌/◌, ◌%◌}
use native.Mathlib.Omega.{arith}
use borrow.Author.Tests.{lt-ltb, ltb-true}
use lib.Dec.{ltb}
use lib.IntN.{ℤ, pos, nat_abs, ◌+ℤ◌, ◌*ℤ◌}
use mir.Syntax.{w64}
use mir.Val.{Fits}
use Rattle.utilities.specs.declared.CompassDir.{CompassDir}
use Rattle.utilities.specs.declared.Differences.{Differences}
use Rattle.utilities.specs.Compass.{differences, points, within, rises, falls, opposite}
use Rattle.utilities.proofs.Compass.{small, opposite_differences, opposite_points}
use Rattle.utilities.proofs.Sums.{sum_told, sum_made, within_true, true_within, back, ten_rises, ten_falls}
use Rattle.fields.specs.declared.FieldCell.{FieldCell}
use Rattle.std.specs.Prelude.{Option, Some, None}
use Rattle.fields.specs.Cell.{cell, Inside, inside, index_of, cell_at, index_or, cell_if, stepped}
use Rattle.fields.specs.Steps.{Arrives, BySums, Undone}
use Rattle.fields.specs.Inner.{Near, StaysInside}

pub inside_true : (c : FieldCell) → inside c ≡ true → Inside c
inside_true c e =
    let p = (and-eq-true_iff (ltb c.column 10) (ltb c.row 10)).0 e in
    record { column_in = ltb-true c.column 10 p.0; row_in = ltb-true c.row 10 p.1 }

pub true_inside : (c : FieldCell) → Inside c → inside c ≡ true
true_inside c h = rw (lt-ltb c.column 10 h.column_in, lt-ltb c.row 10 h.row_in)

pub cell_inside : (i : ℕ) → i < 100 → Inside (cell_at i)
cell_inside i h = record { column_in = omega arith; row_in = omega arith }

-- and a cell made of any index can be stepped from
pub near_made : {c : FieldCell} {i : ℕ} → c ≡ cell_at i → Fits w64 i → Near c
near_made e f = rw e (record { column_near = omega arith; row_near = omega (arith, f.fits) })

pub index_below : (c : FieldCell) → Inside c → index_of c < 100
index_below c h = omega arith

pub index_told : {c : FieldCell} {i : ℕ} → Inside c → i ≡ index_or 100 c → (i ≡ index_of c) × (i < 100)
unfolding index_or
index_told {c} {i} h e =
    let k : i ≡ index_of c = e ∙ rw (lt-ltb c.column 10 h.column_in, lt-ltb c.row 10 h.row_in) in
    (k, omega (arith, k))

-- what stands for the index of a cell outside the sector, by computation: one column and one row beyond
pub index_outside : (index_or 100 (cell 10 0) ≡ 100) × (index_or 100 (cell 0 10) ≡ 100)
unfolding index_or
index_outside = (refl, refl)

pub index_of_cell : (i : ℕ) → index_of (cell_at i) ≡ i
index_of_cell i = omega arith

pub index_known : (i : ℕ) → i < 100 → index_or 100 (cell_at i) ≡ i
index_known i h = (index_told (cell_inside i h) refl).0 ∙ index_of_cell i

pub cell_of_index : (c : FieldCell) → Inside c → cell_at (index_of c) ≡ c
cell_of_index c h =
    let p : index_of c % 10 ≡ c.column = omega arith in
    let q : index_of c / 10 ≡ c.row = omega arith in
    rw (p, q)

if_cell : (b : Bool) (x n : FieldCell) → cell_if b x ≡ Some n → (b ≡ true) × (x ≡ n)
if_cell true x n e = (refl, cc)
if_cell false x n e = let z : ◌≡◌ {A = ℕ} 0 1 = cc in absurd (omega arith)

-- the two sums of a step that arrives, told by what the differences add and take away
pub record Told (c : FieldCell) (d : CompassDir) (n : FieldCell) : Type 0 where
  pub columns : n.column + falls (differences d).column ≡ c.column + rises (differences d).column
  pub rows : n.row + falls (differences d).row ≡ c.row + rises (differences d).row

module _ (c : FieldCell) (d : CompassDir) where
  abbrev δ : Differences
  δ = differences d

  -- the two sums
  abbrev pub column_sum : ℤ
  column_sum = pos c.column +ℤ δ.column

  abbrev pub row_sum : ℤ
  row_sum = pos c.row +ℤ δ.row

  pub stepped_cell : (n : FieldCell) → stepped c d ≡ Some n → Arrives c d n
  unfolding stepped
  stepped_cell n e =
      let i = if_cell _ _ n e in
      let p = (and-eq-true_iff _ _).0 i.0 in
      let q = (and-eq-true_iff _ _).0 p.1 in
      let u = within_true 9 column_sum q.0 in
      let v = within_true 9 row_sum q.1 in
      subst (Arrives c d) i.1 (record {
        pointing = p.0;
        column_at = sym u.0;
        row_at = sym v.0;
        within = record { column_in = omega (arith, u.1); row_in = omega (arith, v.1) };
      })

  -- and the converse: a step arrives where its sums lie in 0 to 9
  pub steps_to : (n : FieldCell) → Arrives c d n → stepped c d ≡ Some n
  unfolding stepped
  steps_to n a =
      rw (
        a.pointing,
        ← a.column_at,
        ← a.row_at,
        true_within 9 n.column (omega (arith, a.within.column_in)),
        true_within 9 n.row (omega (arith, a.within.row_in)),
      )

  -- the same, told without sums in ℤ
  pub told : (n : FieldCell) → Arrives c d n → Told c d n
  told n a = record {
    columns = sum_told c.column n.column δ.column a.column_at;
    rows = sum_told c.row n.row δ.row a.row_at;
  }

  pub steps_by : (n : FieldCell) → points d ≡ true → Told c d n → Inside n → stepped c d ≡ Some n
  steps_by n t w i = steps_to n (record {
    pointing = t;
    column_at = sum_made c.column n.column δ.column w.columns;
    row_at = sum_made c.row n.row δ.row w.rows;
    within = i;
  })

  -- a step that arrives nowhere leaves the sector
  pub steps_out : ((n : FieldCell) → Arrives c d n → ⊥) → stepped c d ≡ None
  steps_out none = told (stepped c d) refl
    where
      told : (t : Option FieldCell) → stepped c d ≡ t → t ≡ None
      told (Some n) e = absurd (none n (stepped_cell n e))
      told None e = refl

  cell_or : (n : FieldCell) → Some n ≡ None → ⊥
  cell_or n e = let z : ◌≡◌ {A = ℕ} 0 1 = cc in omega arith

  -- what is promised of a step: it goes by sums ..
  pub by_sums : (r : Option FieldCell) → r ≡ stepped c d → BySums c d r
  by_sums r e = record {
    arrives = λ n. (λ f. stepped_cell n (sym e ∙ f), λ a. e ∙ steps_to n a);
    leaves = (λ f n a. cell_or n (sym (steps_to n a) ∙ sym e ∙ f), λ none. e ∙ steps_out none);
  }

  -- a step worked out by its two sums: the cell at them, or outside
  pub summed_in : points d ≡ true → within 9 column_sum ≡ true → within 9 row_sum ≡ true → stepped c d ≡ Some (cell (nat_abs column_sum) (nat_abs row_sum))
  unfolding stepped
  summed_in t h k = rw (t, h, k)

  pub summed_out : (within 9 column_sum ≡ false) ⊎ (within 9 row_sum ≡ false) → stepped c d ≡ None
  summed_out o = steps_out (λ n a. none o n a)
    where
      none : (within 9 column_sum ≡ false) ⊎ (within 9 row_sum ≡ false) → (n : FieldCell) → Arrives c d n → ⊥
      none (inl h) n a = false≢true (sym h ∙ rw (← a.column_at) (true_within 9 n.column (omega (arith, a.within.column_in))))
      none (inr h) n a = false≢true (sym h ∙ rw (← a.row_at) (true_within 9 n.row (omega (arith, a.within.row_in))))

-- where a step from an index arrives
pub step_told : (from : ℕ) (d : CompassDir) {c : FieldCell} {t u : Option FieldCell} → c ≡ cell_at from → t ≡ stepped c d → t ≡ u → stepped (cell_at from) d ≡ u
step_told from d e f g = ap (λ (x : FieldCell). stepped x d) (sym e) ∙ sym f ∙ g

-- where that is a cell, the step stays inside
pub step_stays : (from : ℕ) (d : CompassDir) {c n : FieldCell} {t : Option FieldCell} → c ≡ cell_at from → t ≡ stepped c d → t ≡ Some n → StaysInside from d
step_stays from d {n = n} e f g = (n, step_told from d e f g)

-- and that is one cell
pub arrived_once : {t : Option FieldCell} {n m : FieldCell} → t ≡ Some n → t ≡ Some m → n ≡ m
arrived_once e f = cc

-- the index of where it arrives: ten apart for a row, one for a column
pub record Indexed (from : ℕ) (δ : Differences) (n : FieldCell) : Type 0 where
  pub index_few : from < 110
  pub row_few : n.row * 10 + from % 10 < 100
  pub row_sum_law : pos (n.row * 10 + from % 10) ≡ pos from +ℤ δ.row *ℤ pos 10
  pub few : index_of n < 100
  pub sum : pos (index_of n) ≡ pos from +ℤ δ.row *ℤ pos 10 +ℤ δ.column

pub index_arrived : (from : ℕ) (d : CompassDir) (n : FieldCell) → Arrives (cell_at from) d n → Indexed from (differences d) n
index_arrived from d n a =
    let t = told (cell_at from) d n a in
    let s = small d refl in
    let δ = differences d in
    let down =
    sum_made from (n.row * 10 + from % 10) (δ.row *ℤ pos 10) (omega (arith, t.rows, ten_rises δ.row, ten_falls δ.row)) in
    record {
      index_few = omega (arith, t.rows, s.rows.one, a.within.row_in);
      row_few = omega (arith, a.within.row_in);
      row_sum_law = down;
      few = index_below n a.within;
      sum = rw (← down) (sum_made (n.row * 10 + from % 10) (index_of n) (differences d).column (omega (arith, t.columns)));
    }

-- a step that stays inside is undone by the opposite step
pub step_back : (c : FieldCell) (d : CompassDir) (n : FieldCell) → Inside c → stepped c d ≡ Some n → stepped n (opposite d) ≡ Some c
step_back c d n i e =
    let a = stepped_cell c d n e in
    let o = opposite_differences d in
    steps_to n (opposite d) c (record {
      pointing = opposite_points d ∙ a.pointing;
      column_at = rw o (back c.column n.column (differences d).column a.column_at);
      row_at = rw o (back c.row n.row (differences d).row a.row_at);
      within = i;
    })

-- .. and is undone
pub undone : (c : FieldCell) (d : CompassDir) (r : Option FieldCell) → r ≡ stepped c d → Undone c d r
undone c d r e = record {
  back = λ i n f. step_back c d n (record { column_in = omega (arith, i.column_in); row_in = omega (arith, i.row_in) }) (sym e ∙ f);
}

-- all that is promised of a step
pub promised : (c : FieldCell) (d : CompassDir) {r : Option FieldCell} → r ≡ stepped c d → (r ≡ stepped c d) × (BySums c d r × Undone c d r)
promised c d {r} e = (e, (by_sums c d r e, undone c d r e))

-- `Zero` leads nowhere
pub pointless : (c : FieldCell) (d : CompassDir) → points d ≡ false → stepped c d ≡ None
pointless c d e = steps_out c d (λ n a. false≢true (sym e ∙ a.pointing))
