-- What building by hand answers.
--     all_cells_law, all_below    the test of the listed corners, as a fact of each
--     accepted          what is known of a call that is not refused
--     number_costs, number_count, number_corners, number_accepted    the number, case by case
--     answer_least      least walks, of the answer
--     answer_counted    the count, of the answer
--     answer_positions  positions, of the answer
--     answer_promises   all three, of whatever equals the answer
--     zero_field_law        the field of a refused answer, part by part
--     build_refused     a refused answer, part by part
--     list_kept         the list of a built field
-- Assumes nothing.
use mathlib.Core.Path.{◌≡◌, refl, sym, ap, ◌∙◌}
use mathlib.Core.Bool.{Bool, true, false, not, cond, ◌||◌, and-eq-true_iff}
use mathlib.Core.List.{List, [], ◌∷◌, Memᴰ}
use Prim.Native.Nat.{ℕ, zero, suc, ◌≤◌, ◌<◌}
use native.Mathlib.Omega.{arith}
use lib.Dec.{ltb, eqb}
use lib.ListN.{length, get_or}
use lib.Seq.{get_or-take}
use borrow.Author.Tests.{ltb-true, ltb-false, lt-ltb, le-ltb, eqb-true, eq-eqb, ne_eqb}
use Rattle.utilities.proofs.Padded.{all_zero}
use Rattle.integration_field.specs.declared.IntegrationField.{IntegrationField}
use Rattle.integration_field.specs.declared.BuildAnswer.{BuildAnswer}
use Rattle.integration_field.specs.Listed.{list_of, zero_field}
use Rattle.integration_field.specs.Answer.{answer_of, all_cells, build_number, Accepted, build_answer}
use Rattle.integration_field.specs.Promise.{LeastWalks, Counted, EarliestCorners, ListKept, ZeroField, BuildRefused}
use Rattle.integration_field.proofs.Lists.{padded_at, padded_beyond, corners_length}
use Rattle.integration_field.proofs.Least.{least_walks, waves_counted}
use Rattle.integration_field.proofs.Position.{positions_told}

pub all_cells_law : (l : List ℕ) → all_cells l ≡ true → (x : ℕ) → Memᴰ x l → x < 100
unfolding all_cells
all_cells_law l e x m = go x l m e
  where
    go : (x : ℕ) (l : List ℕ) → Memᴰ x l → all_cells l ≡ true → x < 100
    go x l (Memᴰ.head {x = y} {xs = ys} q) e = rw q (ltb-true y 100 ((and-eq-true_iff (ltb y 100) (all_cells ys)).0 e).0)
    go x l (Memᴰ.tail {x = y} {xs = ys} m) e = go x ys m ((and-eq-true_iff (ltb y 100) (all_cells ys)).0 e).1

pub all_below : (l : List ℕ) → all_cells l ≡ true → (i : ℕ) → i < length l → get_or l i 0 < 100
unfolding all_cells
all_below [] e i h = absurd (omega arith)
all_below (x ∷ xs) e zero h = ltb-true x 100 ((and-eq-true_iff (ltb x 100) (all_cells xs)).0 e).0
all_below (x ∷ xs) e (suc i) h = all_below xs ((and-eq-true_iff (ltb x 100) (all_cells xs)).0 e).1 i (omega arith)

pub accepted : (costs : List ℕ) (f : IntegrationField) → build_number costs f ≡ 0 → Accepted costs f
unfolding build_number
accepted costs f = go (eqb (length costs) 100) (ltb 100 f.count) (all_cells (list_of f)) refl refl refl
  where
    go : (a b c : Bool) → eqb (length costs) 100 ≡ a → ltb 100 f.count ≡ b → all_cells (list_of f) ≡ c
        → ◌≡◌ {A = ℕ} (cond (not a) 1 (cond (b || not c) 11 0)) 0 → Accepted costs f
    go true false true p q r e = record { costs_hundred = eqb-true _ _ p; count_in = ltb-false _ _ q; corners_in = r }
    go true false false p q r e = absurd (omega arith)
    go true true c p q r e = absurd (omega arith)
    go false b c p q r e = absurd (omega arith)

module _ (costs : List ℕ) (f : IntegrationField) where
  pub number_costs : (length costs ≡ 100 → ⊥) → build_number costs f ≡ 1
  unfolding build_number
  number_costs h = rw (ne_eqb (length costs) 100 h)

  pub number_count : length costs ≡ 100 → 100 < f.count → build_number costs f ≡ 11
  unfolding build_number
  number_count h l = rw (eq-eqb (length costs) 100 h, lt-ltb 100 f.count l)

  pub number_corners : length costs ≡ 100 → f.count ≤ 100 → all_cells (list_of f) ≡ false → build_number costs f ≡ 11
  unfolding build_number
  number_corners h l e = rw (eq-eqb (length costs) 100 h, le-ltb 100 f.count l, e)

  pub number_accepted : Accepted costs f → build_number costs f ≡ 0
  unfolding build_number
  number_accepted a = rw (eq-eqb (length costs) 100 a.costs_hundred, le-ltb 100 f.count a.count_in, a.corners_in)

number_of : (n : ℕ) (costs : List ℕ) (f : IntegrationField) → (answer_of n costs f).number ≡ n
number_of zero costs f = refl
number_of (suc n) costs f = refl

module _ (costs : List ℕ) (f : IntegrationField) (full : length f.field ≡ 100) where
  number_is : (build_answer costs f).number ≡ 0 → build_number costs f ≡ 0
  number_is e = sym (number_of (build_number costs f) costs f) ∙ e

  corners_inside : build_number costs f ≡ 0 → (x : ℕ) → Memᴰ x (list_of f) → x < 100
  corners_inside e = all_cells_law (list_of f) (accepted costs f e).corners_in

  pub answer_least : (build_answer costs f).number ≡ 0 → LeastWalks costs f.field (list_of f) (build_answer costs f).field.field
  answer_least e = let z = number_is e in rw z (least_walks costs f.field (list_of f) full (corners_inside z))

  pub answer_counted : (build_answer costs f).number ≡ 0 → Counted costs f.field (list_of f) (build_answer costs f).field.field (build_answer costs f).waves
  answer_counted e = let z = number_is e in rw z (waves_counted costs f.field (list_of f) full (corners_inside z))

  pub answer_positions : (build_answer costs f).number ≡ 0
      → EarliestCorners costs f.field (list_of f) (build_answer costs f).field.field (build_answer costs f).field.positions
  answer_positions e = let z = number_is e in rw z (positions_told costs f.field (list_of f) full (corners_inside z))

  pub answer_promises : (r : BuildAnswer) → r ≡ build_answer costs f
      → (r ≡ build_answer costs f)
      × ((r.number ≡ 0 → LeastWalks costs f.field (list_of f) r.field.field)
      × ((r.number ≡ 0 → Counted costs f.field (list_of f) r.field.field r.waves)
      × (r.number ≡ 0 → EarliestCorners costs f.field (list_of f) r.field.field r.field.positions)))
  answer_promises r e = (e, rw e (answer_least, (answer_counted, answer_positions)))

-- ---- lists and refused answers, place by place

pub zero_field_law : {f : IntegrationField} → f ≡ zero_field → ZeroField f
zero_field_law e = rw e (record { cells = all_zero 100 0; corners = all_zero 100 0; count = refl; positions = all_zero 100 0 })

pub build_refused : (n : ℕ) (costs : List ℕ) (f : IntegrationField) (r : BuildAnswer) → r ≡ answer_of n costs f → (r.number ≡ 0 → ⊥) → BuildRefused r
build_refused zero costs f r e h = absurd (h (ap (λ (a : BuildAnswer). a.number) e))
build_refused (suc n) costs f r e h = rw e (record { field = zero_field_law refl; waves = refl })

pub list_kept : (costs : List ℕ) (f : IntegrationField) → length f.los_corners ≡ 100 → (r : BuildAnswer) → r ≡ build_answer costs f → r.number ≡ 0
    → ListKept f r.field
list_kept costs f long r e z =
    let n : build_number costs f ≡ 0 = sym (number_of (build_number costs f) costs f) ∙ sym (ap (λ (a : BuildAnswer). a.number) e) ∙ z in
    let many : length (list_of f) ≡ f.count = corners_length f long (accepted costs f n).count_in in
    rw (e, n) (record {
      beyond = λ i h. padded_beyond (list_of f) i (omega arith);
      count = many;
      corners = λ i h. padded_at (list_of f) i (omega arith) ∙ get_or-take f.count f.los_corners i 0 h;
    })
