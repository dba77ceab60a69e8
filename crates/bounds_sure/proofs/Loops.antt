-- Laws of the loops here, and of what is found in one direction after the other.
--     some_same                                      tests that agree on cells
--     indexes_more                                   an index more in an array with a count
--     along_more                                     the neighbours in a list of directions, those in the first before the rest
--     along_outside, along_passed, along_found       and what is found in one direction
--     listed_over, listed_more, listed_all           a list that grows direction by direction
--     sure_flagged                                   the test of a cell, with window cells told by their flags
-- Assumes nothing.
use mathlib.Core.Path.{◌≡◌, refl, sym, ap, ◌∙◌}
use mathlib.Core.Bool.{Bool, true, false, not, ◌&&◌, ◌||◌}
use mathlib.Core.List.{List, [], ◌∷◌, ◌++◌, Memᴰ, append_assoc, append-nil}
use Prim.Native.Nat.{ℕ, ◌+◌, ◌≤◌, ◌<◌}
use native.Mathlib.Numerals.{add-one}
use native.Mathlib.Omega.{arith}
use native.Mathlib.Decide.{ℕ_discrete}
use lib.Dec.{ltb}
use lib.ListN.{length, get_or, set, drop, length-set}
use lib.Seq.{take-suc-set, get_or-set_same, get_or-set_other}
use Rattle.std.proofs.lemmas.List.{at_drop_more, at_drop_all}
use Rattle.utilities.specs.declared.CompassDir.{CompassDir}
use Rattle.utilities.specs.declared.CompassDir.TheVariants.{North}
use Rattle.utilities.specs.Lists.{cons_if}
use Rattle.fields.specs.declared.FieldCell.{FieldCell}
use Rattle.std.specs.Prelude.{Option, Some, None}
use Rattle.fields.specs.Cell.{cell_at, index_of, stepped}
use Rattle.fields.specs.declared.CellList.{CellList}
use Rattle.fields.specs.CellList.{held, pushed}
use Rattle.integration_field.specs.Word.{is_portal}
use Rattle.integration_field.specs.Diagonal.{wall_at}
use Rattle.integration_field.specs.Listed.{Indexes}
use Rattle.flow_byte.specs.New.{is_in}
use Rattle.flow_byte.specs.Look.{is_passed_over}
use Rattle.bounds_told.specs.Bounds.{some_of, cons_permitted, permitted_along, permitted_from, is_below_others, is_sure}
use Rattle.bounds_told.proofs.Permitted.{listed_told, permitted_in}

-- tests that agree on the entries of a list
pub some_same : (p q : ℕ → Bool) (l : List ℕ) → ((x : ℕ) → Memᴰ x l → p x ≡ q x) → some_of p l ≡ some_of q l
some_same p q [] h = refl
some_same p q (x ∷ l) h = rw (h x (Memᴰ.head refl), some_same p q l (λ y m. h y (Memᴰ.tail m)))

-- ---- one more in an array

pub indexes_more : (places : ℕ) (l : List ℕ) (k n : ℕ) → Indexes places l k → k < places → n < 100 → Indexes places (set l k n) (k + 1)
indexes_more places l k n t h m = record {
  full = length-set l k n ∙ t.full;
  count_in = omega arith;
  cells_in = λ i j. inside i j (ℕ_discrete i k);
}
  where
    inside : (i : ℕ) → i < k + 1 → Dec (i ≡ k) → get_or (set l k n) i 0 < 100
    inside i j (yes e) = rw (e, get_or-set_same l k n 0 (omega (arith, t.full))) m
    inside i j (no e) = rw (get_or-set_other l k i n 0 e) (t.cells_in i (omega arith))

-- ---- one direction after the other

module _ (cells : List ℕ) (i : ℕ) where
  pub along_split : (d : CompassDir) (ds : List CompassDir) → permitted_along cells i (d ∷ ds) ≡ permitted_along cells i (d ∷ []) ++ permitted_along cells i ds
  unfolding permitted_along
  along_split d ds = go (stepped (cell_at i) d)
    where
      tested : (b : Bool) (n : ℕ) → cons_if b n (permitted_along cells i ds) ≡ cons_if b n [] ++ permitted_along cells i ds
      tested true n = refl
      tested false n = refl

      go : (t : Option FieldCell) → cons_permitted cells i t (permitted_along cells i ds) ≡ cons_permitted cells i t [] ++ permitted_along cells i ds
      go (Some c) = tested (not (is_passed_over cells i (index_of c))) (index_of c)
      go None = refl

  -- what is found in one direction: nothing, or the cell there
  pub along_outside : (d : CompassDir) → stepped (cell_at i) d ≡ None → permitted_along cells i (d ∷ []) ≡ []
  unfolding permitted_along
  along_outside d e = rw e

  pub along_passed : (d : CompassDir) (c : FieldCell) → stepped (cell_at i) d ≡ Some c → is_passed_over cells i (index_of c) ≡ true
      → permitted_along cells i (d ∷ []) ≡ []
  unfolding permitted_along
  along_passed d c e p = rw (e, p)

  pub along_found : (d : CompassDir) (c : FieldCell) → stepped (cell_at i) d ≡ Some c → is_passed_over cells i (index_of c) ≡ false
      → permitted_along cells i (d ∷ []) ≡ index_of c ∷ []
  unfolding permitted_along
  along_found d c e p = rw (e, p)

  pub along_more : (l : List ℕ) (d : CompassDir) (ds : List CompassDir)
      → l ++ permitted_along cells i (d ∷ ds) ≡ (l ++ permitted_along cells i (d ∷ [])) ++ permitted_along cells i ds
  along_more l d ds = ap (λ r. l ++ r) (along_split d ds) ∙ sym (append_assoc l (permitted_along cells i (d ∷ [])) (permitted_along cells i ds))

  -- what is listed after k directions of a list: the neighbours in these, so that with those in the others they are all
  pub record Listed (ds : List CompassDir) (k : ℕ) (l : CellList 8) : Type 0 where
    pub cells_in : Indexes 8 l.cells l.count
    pub few : l.count ≤ k
    pub rest : held l ++ permitted_along cells i (drop k ds) ≡ permitted_along cells i ds

  next : (ds : List CompassDir) (k : ℕ) (l : List ℕ) → k < length ds
      → l ++ permitted_along cells i (drop k ds) ≡ (l ++ permitted_along cells i (get_or ds k North ∷ [])) ++ permitted_along cells i (drop (k + 1) ds)
  next ds k l h = at_drop_more (λ r. l ++ permitted_along cells i r) ds k North h ∙ along_more l (get_or ds k North) (drop (k + 1) ds)

  pub listed_over : (ds : List CompassDir) (k : ℕ) (l : CellList 8) → k < length ds → Listed ds k l
      → permitted_along cells i (get_or ds k North ∷ []) ≡ [] → Listed ds (k + 1) l
  listed_over ds k l h t e = record {
    cells_in = t.cells_in;
    few = omega (arith, t.few);
    rest = sym (next ds k (held l) h ∙ rw (e, append-nil (held l))) ∙ t.rest;
  }

  pub listed_more : (ds : List CompassDir) (k : ℕ) (l : CellList 8) (n : ℕ) → k < length ds → length ds ≤ 8 → n < 100 → Listed ds k l
      → n ∷ [] ≡ permitted_along cells i (get_or ds k North ∷ []) → Listed ds (k + 1) (pushed n l)
  listed_more ds k l n h few m t e =
      let full : l.count < length l.cells = omega (arith, t.few, t.cells_in.full) in
      record {
        cells_in = indexes_more 8 l.cells l.count n t.cells_in (omega (arith, t.few)) m;
        few = omega (arith, t.few);
        rest = rw (add-one l.count, take-suc-set l.cells l.count n full, e) (sym (next ds k (held l) h) ∙ t.rest);
      }

  pub listed_all : (ds : List CompassDir) (k : ℕ) (l : CellList 8) → length ds ≤ k → Listed ds k l → held l ≡ permitted_along cells i ds
  unfolding permitted_along
  listed_all ds k l h t = sym (append-nil (held l)) ∙ sym (at_drop_all (λ r. held l ++ permitted_along cells i r) ds k h) ∙ t.rest

-- ---- a sure cell, its window cells told by their flags

module _ (cells window least greatest : List ℕ) (i : ℕ) (h : i < 100) (portals : (n : ℕ) → n < 100 → is_portal (get_or cells n 0) ≡ is_in n window) where
  pub sure_flagged : (neighbours : List ℕ) → neighbours ≡ permitted_from cells i
      → is_sure cells window least greatest i
      ≡ ((not (wall_at cells i) && not (is_portal (get_or cells i 0)))
      && (some_of (λ n. is_portal (get_or cells n 0)) neighbours
      || some_of (λ n. ltb (get_or greatest n 0) 65535 && is_below_others least greatest neighbours n) neighbours))
  unfolding is_sure
  sure_flagged neighbours e =
      let same : some_of (λ n. is_portal (get_or cells n 0)) (permitted_from cells i) ≡ some_of (λ n. is_in n window) (permitted_from cells i)
      = some_same _ _ (permitted_from cells i) (λ n m. portals n (permitted_in cells i h ((listed_told cells i h n).0 m))) in
      rw (e, portals i h, same)
