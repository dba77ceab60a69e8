-- The cells that a wave's offers change, listed as they change.
--     changed_none                     before the first offer none is listed
--     not_below_more                   what is no lower than a value that is not below all is neither
--     changed_few                      at most 99 are listed, since a cell with the least value stays as it was: there is a place behind them
--     changed_behind                   what stands in the place behind the list does not count
--     changed_first, changed_again     a cell that an offer lowers for the first time, and one that an offer lowered already
--     changed_offer                    one offer
--     changed_first_member             the first listed cell is in the list of the definition
--     changed_member, member_changed   the listed cells are those of that list
-- Assumes nothing.
use mathlib.Core.Path.{◌≡◌, refl, sym, ap, subst, ◌∙◌}
use mathlib.Core.Bool.{Bool, true, false, cond, ◌&&◌, and-eq-true_iff}
use mathlib.Core.List.{List, Memᴰ}
use Prim.Native.Nat.{ℕ, zero, suc, ◌+◌, ◌<◌, ◌≤◌}
use native.Mathlib.Omega.{arith}
use native.Mathlib.Nat.{zero-add}
use native.Mathlib.Decide.{dec_lt, ℕ_discrete}
use lib.Dec.{eqb, ltb}
use lib.ListN.{length, get_or, set, replicate, length-set, get_or-replicate}
use lib.Seq.{get_or-set_same, get_or-set_other, get_or-take, length-take-le}
use borrow.Author.Tests.{eqb-true, eqb-false, ltb-true}
use Rattle.utilities.proofs.Count.{Each, Once, Passes, once_room, count_room, at_set}
use Rattle.fields.specs.declared.CellList.{CellList}
use Rattle.fields.specs.CellList.{held, pushed, pushed_if}
use Rattle.integration_field.specs.Word.{low, is_open}
use Rattle.integration_field.specs.Wave.{is_written, relaxed, changed_from}
use Rattle.integration_field.proofs.Offers.{differs_changed, changed_differs}
use Rattle.integration_field.proofs.Position.{listed_at}
use Rattle.integration_build.specs.Inner.{Differs, NotBelowAll, Fallen, StandsIn, ChangedCells}

pub changed_none : (cells : List ℕ) (next : CellList 100) → length cells ≡ 100 → length next.cells ≡ 100 → next.count ≡ 0 → ChangedCells cells cells next
changed_none cells next full long none = record {
  full = full;
  indexes = record { full = long; count_in = omega arith; cells_in = λ i h. absurd (omega arith) };
  once = λ i j h k e. absurd (omega arith);
  differs = λ i h e. absurd (omega arith);
  listed = λ x d. absurd (d refl);
  lowered = λ x d. absurd (d refl);
}

pub not_below_more : {before : List ℕ} {v w : ℕ} → NotBelowAll before v → v ≤ w → NotBelowAll before w
not_below_more n h = record { cell = n.cell; cell_in = n.cell_in; no_lower = omega (arith, n.no_lower) }

-- of the first n cells, one with the least value
record Least (l : List ℕ) (n : ℕ) : Type 0 where
  cell : ℕ
  cell_in : cell < n
  least : (y : ℕ) → y < n → low (get_or l cell 0) ≤ low (get_or l y 0)

least_of : (l : List ℕ) (n : ℕ) → 0 < n → Least l n
least_of l zero h = absurd (omega arith)
least_of l (suc zero) h = record { cell = 0; cell_in = omega arith; least = λ y k. let q : y ≡ 0 = omega arith in rw q (omega arith) }
least_of l (suc (suc n)) h =
    let m = least_of l (suc n) (omega arith) in
    elim (dec_lt (low (get_or l (suc n) 0)) (low (get_or l m.cell 0))) [
      | yes less ↦ record { cell = suc n; cell_in = omega arith; least = λ y k. or_last m y k (omega arith) (λ e. omega (arith, e)) }
      | no more ↦ record { cell = m.cell; cell_in = omega (arith, m.cell_in); least = λ y k. or_last m y k (omega arith) (λ e. e) }
    ]
  where
    -- v is no more than the value of cell y, which is the last or another
    or_last : (m : Least l (suc n)) (y : ℕ) → y < suc (suc n) → {v : ℕ} → v ≤ low (get_or l (suc n) 0)
        → (low (get_or l m.cell 0) ≤ low (get_or l y 0) → v ≤ low (get_or l y 0)) → v ≤ low (get_or l y 0)
    or_last m y k last other = elim (ℕ_discrete y (suc n)) [ yes q ↦ rw q last | no d ↦ other (m.least y (omega arith)) ]

-- a sum that is written is not the word before: its value is lower
not_before : (sum old was : ℕ) → sum < low old → low old ≤ low was → sum ≡ was → ⊥
not_before sum old was h k e = let q : low sum ≡ low was = ap low e in absurd (omega arith)

module _ {before cells : List ℕ} {next : CellList 100} (c : ChangedCells before cells next) where
  list_length : length (held next) ≡ next.count
  list_length = length-take-le next.count next.cells (omega (arith, c.indexes.full, c.indexes.count_in))

  list_at : (i : ℕ) → i < next.count → get_or (held next) i 0 ≡ get_or next.cells i 0
  list_at i h = get_or-take next.count next.cells i 0 h

  -- values have only fallen
  fallen : (x : ℕ) → low (get_or cells x 0) ≤ low (get_or before x 0)
  fallen x = elim (ℕ_discrete (get_or cells x 0) (get_or before x 0)) [ yes e ↦ rw e (omega arith) | no d ↦ omega (arith, (c.lowered x d).lower) ]

  -- ---- at most 99 are listed

  abbrev is_one : ℕ → Bool
  is_one = eqb 1

  -- Of a hundred ones, that of a cell m with the least value is made 0. The cell stays as it was, so that each listed cell counts another one.
  module _ (m : Least before 100) where
    ones : List ℕ
    ones = set (replicate 100 1) m.cell 0

    ones_full : length ones ≡ 100
    unfolding ones
    ones_full = length-set (replicate 100 1) m.cell 0

    zero_there : is_one (get_or ones m.cell 0) ≡ false
    unfolding ones
    zero_there = ap is_one (get_or-set_same (replicate 100 1) m.cell 0 0 m.cell_in)

    one_elsewhere : (x : ℕ) → x < 100 → (x ≡ m.cell → ⊥) → is_one (get_or ones x 0) ≡ true
    unfolding ones
    one_elsewhere x h other = ap is_one (get_or-set_other (replicate 100 1) m.cell x 0 0 other ∙ get_or-replicate 100 x 1 0 h)

    stays : Differs before cells m.cell → ⊥
    stays d = let f = c.lowered m.cell d in absurd (omega (arith, f.lower, f.is_offered_by.no_lower, m.least _ f.is_offered_by.cell_in))

    one_each : Each (Passes is_one ones) (held next)
    one_each i h =
        let k : i < next.count = omega (arith, list_length) in
        let x-in = c.indexes.cells_in i k in
        let other : get_or next.cells i 0 ≡ m.cell → ⊥ = λ q. stays (subst (Differs before cells) q (c.differs i k)) in
        rw (list_at i k) (omega (arith, ones_full, x-in), one_elsewhere (get_or next.cells i 0) x-in other)

    distinct : Once (held next)
    distinct i j h k e =
        let l : j < next.count = omega (arith, list_length) in
        c.once i j h l (sym (list_at i (omega arith)) ∙ e ∙ list_at j l)

    few : next.count ≤ 99
    few =
        let less = count_room is_one ones m.cell (omega (arith, ones_full, m.cell_in)) zero_there in
        omega (arith, list_length, ones_full, less, once_room is_one refl (held next) ones one_each distinct)

  pub changed_few : next.count ≤ 99
  changed_few = few (least_of before 100 (omega arith))

  module _ (x : ℕ) (inside : x < 100) where
    behind : (i : ℕ) → i < next.count → get_or (set next.cells next.count x) i 0 ≡ get_or next.cells i 0
    behind i h = get_or-set_other next.cells next.count i x 0 (λ q. absurd (omega arith))

    last : (i : ℕ) → i ≡ next.count → get_or (set next.cells next.count x) i 0 ≡ x
    last i e = rw e (get_or-set_same next.cells next.count x 0 (omega (arith, changed_few, c.indexes.full)))

    still_listed : {z : ℕ} → StandsIn next z → StandsIn (pushed_if false x next) z
    still_listed r = record { place = r.place; place_in = r.place_in; there = behind r.place r.place_in ∙ r.there }

    pub changed_behind : ChangedCells before cells (pushed_if false x next)
    changed_behind = record {
      full = c.full;
      indexes = record {
        full = length-set next.cells next.count x ∙ c.indexes.full;
        count_in = c.indexes.count_in;
        cells_in = λ i h. rw (behind i h) (c.indexes.cells_in i h);
      };
      once = λ i j h k e. c.once i j h k (sym (behind i (omega arith)) ∙ e ∙ behind j k);
      differs = λ i h. rw (behind i h) (c.differs i h);
      listed = λ z d. still_listed (c.listed z d);
      lowered = c.lowered;
    }

    module _ (sum : ℕ) (less : sum < low (get_or cells x 0)) (offer : NotBelowAll before sum) where
      now_differs : (z : ℕ) → z ≡ x → sum ≡ get_or before z 0 → ⊥
      now_differs z q e = not_before sum (get_or cells x 0) (get_or before x 0) less (fallen x) (e ∙ ap (λ (k : ℕ). get_or before k 0) q)

      size : length (set cells x sum) ≡ 100
      size = length-set cells x sum ∙ c.full

      -- what is offered to cell x is lower than its value before the wave
      fallen_now : (z : ℕ) → z ≡ x → Fallen before z sum
      fallen_now z q = rw q (record {
        lower = omega (arith, fallen x);
        is_offered_by = not_below_more offer (omega arith);
      })

      now_lowered : (z : ℕ) → Differs before (set cells x sum) z → Fallen before z (get_or (set cells x sum) z 0)
      now_lowered z =
          at_set (λ w. (w ≡ get_or before z 0 → ⊥) → Fallen before z w) cells x sum z (omega (arith, c.full)) (λ q d. fallen_now z q) (λ n. c.lowered z)

      elsewhere : (z : ℕ) → (z ≡ x → ⊥) → Differs before (set cells x sum) z → Differs before cells z
      elsewhere z n d e = d (get_or-set_other cells x z sum 0 n ∙ e)

      pub changed_again : Differs before cells x → ChangedCells before (set cells x sum) next
      changed_again was = record {
        full = size;
        indexes = c.indexes;
        once = c.once;
        differs = λ i h.
            at_set (λ w. w ≡ get_or before (get_or next.cells i 0) 0 → ⊥) cells x sum (get_or next.cells i 0) (omega (arith, c.full))
            (now_differs (get_or next.cells i 0)) (λ n. c.differs i h);
        listed = λ z d. elim (ℕ_discrete z x) [
          | yes q ↦ rw q (c.listed x was)
          | no n ↦ c.listed z (elsewhere z n d)
        ];
        lowered = now_lowered;
      }

      module _ (was : get_or cells x 0 ≡ get_or before x 0) where
        -- it is not in the list
        fresh : (i : ℕ) → i < next.count → get_or next.cells i 0 ≡ x → ⊥
        fresh i h q = c.differs i h (rw q was)

        first_once : (i j : ℕ) → i < j → j < next.count + 1 → get_or (set next.cells next.count x) i 0 ≡ get_or (set next.cells next.count x) j 0 → ⊥
        first_once i j h k e =
            let l : i < next.count = omega arith in
            elim (dec_lt j next.count) [
              | yes m ↦ c.once i j h m (sym (behind i l) ∙ e ∙ behind j m)
              | no m ↦ fresh i l (sym (behind i l) ∙ e ∙ last j (omega arith))
            ]

        first_differs : (i : ℕ) → i < next.count + 1 → Differs before (set cells x sum) (get_or (set next.cells next.count x) i 0)
        first_differs i h =
            let z = get_or (set next.cells next.count x) i 0 in
            at_set (λ w. w ≡ get_or before z 0 → ⊥) cells x sum z (omega (arith, c.full))
            (now_differs z)
            (λ n. elim (dec_lt i next.count) [
              | yes m ↦ subst (Differs before cells) (sym (behind i m)) (c.differs i m)
              | no m ↦ absurd (n (last i (omega arith)))
            ])

        one_more_law : {z : ℕ} → StandsIn (pushed_if false x next) z → StandsIn (pushed x next) z
        one_more_law r = record { place = r.place; place_in = omega (arith, r.place_in); there = r.there }

        pub changed_first : ChangedCells before (set cells x sum) (pushed x next)
        changed_first = record {
          full = size;
          indexes = record {
            full = length-set next.cells next.count x ∙ c.indexes.full;
            count_in = omega (arith, changed_few);
            cells_in = λ i h.
                at_set (λ q. q < 100) next.cells next.count x i (omega (arith, changed_few, c.indexes.full))
                (λ q. inside) (λ n. c.indexes.cells_in i (omega arith));
          };
          once = first_once;
          differs = first_differs;
          listed = λ z d. elim (ℕ_discrete z x) [
            | yes q ↦ record { place = next.count; place_in = omega arith; there = last next.count refl ∙ sym q }
            | no n ↦ one_more_law (still_listed (c.listed z (elsewhere z n d)))
          ];
          lowered = now_lowered;
        }

-- an offer of this sum to cell x
module _ {before cells : List ℕ} {next : CellList 100} (c : ChangedCells before cells next) (x : ℕ) (inside : x < 100) (sum : ℕ)
    (offer : NotBelowAll before sum) where
  abbrev old : ℕ
  old = get_or cells x 0

  abbrev was : ℕ
  was = get_or before x 0

  lower : (same : Bool) → eqb old was ≡ same → sum < low old → ChangedCells before (set cells x sum) (pushed_if same x next)
  lower true q less = changed_first c x inside sum less offer (eqb-true old was q)
  lower false q less = changed_again (changed_behind c x inside) x inside sum less offer (eqb-false old was q)

  offered_once : ChangedCells before (relaxed sum x cells) (pushed_if (is_written old sum && eqb old was) x next)
  unfolding relaxed
  offered_once = go (is_written old sum) (eqb old was) refl refl
    where
      go : (written same : Bool) → is_written old sum ≡ written → eqb old was ≡ same
          → ChangedCells before (cond written (set cells x sum) cells) (pushed_if (written && same) x next)
      go false same p q = changed_behind c x inside
      go true same p q = lower same q (ltb-true sum (low old) ((and-eq-true_iff (is_open old) (ltb sum (low old))).0 p).1)

  pub changed_offer : {new : List ℕ} {left : CellList 100} {written first : Bool} → new ≡ relaxed sum x cells → written ≡ is_written old sum
      → first ≡ (written && eqb old was) → left ≡ pushed_if first x next → ChangedCells before new left
  changed_offer e w f l = rw (e, l, f, w) offered_once

-- ---- the list, and that of the definition

-- what holds of each entry holds of each member
each_member : (P : ℕ → Type 0) (l : List ℕ) → Each P l → (x : ℕ) → Memᴰ x l → P x
each_member P l e x m = go x l m e
  where
    go : (x : ℕ) (l : List ℕ) → Memᴰ x l → Each P l → P x
    go x l (Memᴰ.head q) e = subst P (sym q) (e 0 (omega arith))
    go x l (Memᴰ.tail {xs = ys} m) e = go x ys m (λ i h. e (suc i) (omega arith))

module _ {before cells : List ℕ} {next : CellList 100} (c : ChangedCells before cells next) (was-full : length before ≡ 100) where
  differs_member : (x : ℕ) → Differs before cells x → Memᴰ x (changed_from 0 before cells)
  differs_member x d = rw zero-add at (differs_changed 0 before cells x d (c.full ∙ sym was-full))

  pub changed_first_member : 0 < next.count → Memᴰ (get_or next.cells 0 0) (changed_from 0 before cells)
  changed_first_member h = differs_member (get_or next.cells 0 0) (c.differs 0 h)

  each_differs : Each (Differs before cells) (held next)
  each_differs i h = let k : i < next.count = omega (arith, list_length c) in rw (list_at c i k) (c.differs i k)

  pub changed_member : (x : ℕ) → Memᴰ x (held next) → Memᴰ x (changed_from 0 before cells)
  changed_member x m = differs_member x (each_member (Differs before cells) (held next) each_differs x m)

  pub member_changed : (x : ℕ) → Memᴰ x (changed_from 0 before cells) → Memᴰ x (held next)
  member_changed x m =
      let d = changed_differs 0 before cells x m in
      let r = c.listed d.0 d.2 in
      let q : get_or (held next) r.place 0 ≡ x = list_at c r.place r.place_in ∙ r.there ∙ sym (zero-add d.0) ∙ sym d.1 in
      subst (λ (z : ℕ). Memᴰ z (held next)) q (listed_at (held next) r.place (omega (arith, list_length c, r.place_in)))
