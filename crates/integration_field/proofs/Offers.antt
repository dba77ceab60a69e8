-- What offers do to the cells, cell by cell.
--     Held                    a word after offers: as it was, or a lower one that was offered, without flags
--     offers_made             all that the offers of a wave may do
--     offers_taken            an open cell ends at or below each offer made to it
--     changed_differs, differs_changed    the cells that a wave changed are those whose word differs
-- Assumes nothing.
use mathlib.Core.Path.{◌≡◌, refl, sym, ap, ◌∙◌}
use mathlib.Core.Bool.{Bool, true, false, not, cond, ◌&&◌, true≢false}
use mathlib.Core.Logic.{⊎_elim}
use mathlib.Core.List.Memᴰ
use mathlib.Core.List.{List, [], ◌∷◌, Memᴰ}
use Prim.Native.Nat.{ℕ, zero, suc, ◌+◌, ◌^◌, ◌≤◌, ◌<◌}
use native.Mathlib.Omega.{arith}
use native.Mathlib.Decide.{dec_lt, ℕ_discrete}
use lib.Dec.{ltb, eqb}
use lib.ListN.{length, get_or, set, length-set, get_or-eq_default}
use lib.Seq.{get_or-set_same, get_or-set_other}
use borrow.Author.Tests.{ltb-true, ltb-false, not-true, eq-eqb, ne_eqb}
use Rattle.utilities.specs.Lists.{cons_if}
use Rattle.utilities.specs.declared.CompassDir.{CompassDir}
use Rattle.utilities.specs.Compass.{orthogonal}
use Rattle.fields.specs.declared.FieldCell.{FieldCell}
use Rattle.std.specs.Prelude.{Option, Some, None}
use Rattle.fields.specs.Cell.{index_of, cell_at, stepped}
use Rattle.integration_field.specs.Word.{low, is_open}
use Rattle.integration_field.specs.Wave.{relaxed, offered, offered_around, offered_by, changed_from}
use Rattle.integration_field.proofs.Flags.{small_flag}
use Rattle.integration_field.proofs.Neighbours.{Neighbour, later}

-- ---- a word

-- a word without flags is open
pub small_open : (w : ℕ) → w < 2 ^ 16 → is_open w ≡ true
small_open w h = simp (small_flag w 16 h, small_flag w 17 (omega arith), small_flag w 25 (omega arith))

-- a word w after offers, of which P says which were made
pub data Held (P : ℕ → Type 0) (w : ℕ) : ℕ → Type 0 where
  kept : {r : ℕ} → r ≡ w → Held P w r
  written : {r : ℕ} → r < low w → is_open w ≡ true → P r → Held P w r

pub held_le : {P : ℕ → Type 0} {w r : ℕ} → Held P w r → low r ≤ low w
held_le (kept e) = rw e (omega arith)
held_le (written l o p) = omega arith

pub held_open : {P : ℕ → Type 0} {w r : ℕ} → Held P w r → is_open r ≡ is_open w
held_open (kept e) = ap is_open e
held_open {r = r} (written l o p) = small_open r (omega arith) ∙ sym o

held_then : {P : ℕ → Type 0} {w r q : ℕ} → Held P w r → Held P r q → Held P w q
held_then (kept e) h = rw e at h
held_then (written l o p) (kept e) = rw e (written l o p)
held_then {q = q} (written l o p) (written m u r) = written {r = q} (omega arith) o r

held_map : {P Q : ℕ → Type 0} {w r : ℕ} → ((s : ℕ) → P s → Q s) → Held P w r → Held Q w r
held_map f (kept e) = kept e
held_map f (written l o p) = written l o (f _ p)

-- ---- the cells

-- b is a after offers, of which P x s says that s was offered to cell x
pub record Made (P : ℕ → ℕ → Type 0) (a b : List ℕ) : Type 0 where
  pub size : length b ≡ length a
  pub cell : (x : ℕ) → Held (P x) (get_or a x 0) (get_or b x 0)

made_none : {P : ℕ → ℕ → Type 0} (a : List ℕ) → Made P a a
made_none a = record { size = refl; cell = λ x. kept refl }

made_then : {P : ℕ → ℕ → Type 0} {a b c : List ℕ} → Made P a b → Made P b c → Made P a c
made_then g h = record { size = h.size ∙ g.size; cell = λ x. held_then (g.cell x) (h.cell x) }

made_map : {P Q : ℕ → ℕ → Type 0} {a b : List ℕ} → ((x s : ℕ) → P x s → Q x s) → Made P a b → Made Q a b
made_map f h = record { size = h.size; cell = λ x. held_map (f x) (h.cell x) }

-- ---- an offer, and the offers of a cell

module _ (costs : List ℕ) (v : ℕ) where
  module _ (x : ℕ) (cells : List ℕ) where
    abbrev sum : ℕ
    sum = v + get_or costs x 0

    abbrev here : ℕ
    here = get_or cells x 0

    -- an offer is not taken, or is less and stands there
    data Taken : List ℕ → Type 0 where
      passed : {r : List ℕ} → r ≡ cells → (is_open here ≡ true → low here ≤ sum) → Taken r
      lowered : {r : List ℕ} → r ≡ set cells x sum → is_open here ≡ true → sum < low here → Taken r

    taken : Taken (relaxed sum x cells)
    unfolding relaxed
    taken = go (is_open here) (ltb sum (low here)) refl refl
      where
        go : (a b : Bool) → is_open here ≡ a → ltb sum (low here) ≡ b → Taken (cond (a && b) (set cells x sum) cells)
        go false b p q = passed refl (λ e. absurd (true≢false (sym e ∙ p)))
        go true true p q = lowered refl p (ltb-true _ _ q)
        go true false p q = passed refl (λ _. ltb-false _ _ q)

    within : sum < low here → x < length cells
    within h = elim (dec_lt x (length cells)) [ yes l ↦ l | no l ↦ absurd (omega (arith, ap low (get_or-eq_default cells 0 {n = x} (omega arith)))) ]

    taken_made : {r : List ℕ} → Taken r → Made (λ z s. (z ≡ x) × (s ≡ v + get_or costs z 0)) cells r
    taken_made (passed e h) = rw e (made_none cells)
    taken_made (lowered e o h) = rw e (record { size = length-set cells x sum; cell = λ z. at z (ℕ_discrete z x) })
      where
        at : (z : ℕ) → Dec (z ≡ x) → Held (λ s. (z ≡ x) × (s ≡ v + get_or costs z 0)) (get_or cells z 0) (get_or (set cells x sum) z 0)
        at z (yes q) = rw (q, get_or-set_same cells x sum 0 (within h)) (written h o (refl, refl))
        at z (no q) = kept (get_or-set_other cells x z sum 0 q)

    taken_le : {r : List ℕ} → Taken r → is_open here ≡ true → low (get_or r x 0) ≤ sum
    taken_le (passed e h) o = rw e (h o)
    taken_le (lowered e _ h) o = rw (e, get_or-set_same cells x sum 0 (within h)) (omega arith)

  module _ (c : FieldCell) where
    abbrev Around : List CompassDir → ℕ → ℕ → Type 0
    Around ds z s = Neighbour c ds z × (s ≡ v + get_or costs z 0)

    step_made : (d : CompassDir) (ds : List CompassDir) (t : Option FieldCell) (cells : List ℕ) → stepped c d ≡ t
        → Made (Around (d ∷ ds)) cells (offered costs v t cells)
    step_made d ds (Some n) cells e = made_map
        (λ z s o. (record { way = d; listed = Memᴰ.head refl; cell = n; step = e; index = o.0 }, o.1))
        (taken_made (index_of n) cells (taken (index_of n) cells))
    step_made d ds None cells e = made_none cells

    around_made : (ds : List CompassDir) (cells : List ℕ) → Made (Around ds) cells (offered_around costs v c ds cells)
    unfolding offered_around
    around_made [] cells = made_none cells
    around_made (d ∷ ds) cells = made_then
        (step_made d ds (stepped c d) cells refl)
        (made_map (λ z s o. (later o.0, o.1)) (around_made ds (offered costs v (stepped c d) cells)))

    step_taken : (t : Option FieldCell) (cells : List ℕ) (z : ℕ) (m : FieldCell) → t ≡ Some m → z ≡ index_of m → is_open (get_or cells z 0) ≡ true
        → low (get_or (offered costs v t cells) z 0) ≤ v + get_or costs z 0
    step_taken (Some k) cells z m e q o =
        let same : m ≡ k = cc in
        let p : z ≡ index_of k = q ∙ ap index_of same in
        rw p (taken_le (index_of k) cells (taken (index_of k) cells) (rw p at o))
    step_taken None cells z m e q o = let n : ◌≡◌ {A = ℕ} 0 1 = cc in absurd (omega arith)

    around_taken : (ds : List CompassDir) (cells : List ℕ) (z : ℕ) → Neighbour c ds z → is_open (get_or cells z 0) ≡ true
        → low (get_or (offered_around costs v c ds cells) z 0) ≤ v + get_or costs z 0
    unfolding offered_around
    around_taken [] cells z n o = absurd (Memᴰ.not-nil n.listed)
    around_taken (d ∷ ds) cells z n o =
        let mid = offered costs v (stepped c d) cells in
        ⊎_elim
        (λ q. omega (arith, held_le ((around_made ds mid).cell z), step_taken (stepped c d) cells z n.cell (ap (stepped c) (sym q) ∙ n.step) n.index o))
        (λ m. around_taken ds mid z (record { way = n.way; listed = m; cell = n.cell; step = n.step; index = n.index })
        (held_open ((step_made d ds (stepped c d) cells refl).cell z) ∙ o))
        (Memᴰ.cases_cons n.listed)

-- ---- the offers of a wave

module _ (costs old : List ℕ) where
  -- s is what a cell of the list offers to cell z
  pub record Offer (is : List ℕ) (z s : ℕ) : Type 0 where
    pub origin : ℕ
    pub listed : Memᴰ origin is
    pub neighbour : Neighbour (cell_at origin) orthogonal z
    pub sum : s ≡ low (get_or old origin 0) + get_or costs z 0

  pub offers_made : (is cells : List ℕ) → Made (Offer is) cells (offered_by costs old is cells)
  unfolding offered_by
  offers_made [] cells = made_none cells
  offers_made (i ∷ is) cells =
      let v = low (get_or old i 0) in
      made_then
      (made_map (λ z s o. record { origin = i; listed = Memᴰ.head refl; neighbour = o.0; sum = o.1 }) (around_made costs v (cell_at i) orthogonal cells))
      (made_map (λ z s o. record { origin = o.origin; listed = Memᴰ.tail o.listed; neighbour = o.neighbour; sum = o.sum })
      (offers_made is (offered_around costs v (cell_at i) orthogonal cells)))

  pub offers_taken : (is cells : List ℕ) (y z : ℕ) → Memᴰ y is → Neighbour (cell_at y) orthogonal z → is_open (get_or cells z 0) ≡ true
      → low (get_or (offered_by costs old is cells) z 0) ≤ low (get_or old y 0) + get_or costs z 0
  unfolding offered_by
  offers_taken is cells y z m n o = go y is m cells n o
    where
      go : (y : ℕ) (is : List ℕ) → Memᴰ y is → (cells : List ℕ) → Neighbour (cell_at y) orthogonal z → is_open (get_or cells z 0) ≡ true
          → low (get_or (offered_by costs old is cells) z 0) ≤ low (get_or old y 0) + get_or costs z 0
      go y is (Memᴰ.head {x = i} {xs = js} e) cells n o =
          let v = low (get_or old i 0) in
          rw e (omega (
            arith,
            held_le ((offers_made js (offered_around costs v (cell_at i) orthogonal cells)).cell z),
            around_taken costs v (cell_at i) orthogonal cells z (rw e at n) o,
          ))
      go y is (Memᴰ.tail {x = i} {xs = js} m) cells n o =
          let v = low (get_or old i 0) in
          go y js m (offered_around costs v (cell_at i) orthogonal cells) n (held_open ((around_made costs v (cell_at i) orthogonal cells).cell z) ∙ o)

-- ---- which cells a wave changed

cons_here : (b : Bool) (x : ℕ) (l : List ℕ) (y : ℕ) → b ≡ true → y ≡ x → Memᴰ y (cons_if b x l)
cons_here true x l y e q = Memᴰ.head q
cons_here false x l y e q = absurd (true≢false (sym e))

cons_there : (b : Bool) (x : ℕ) (l : List ℕ) (y : ℕ) → Memᴰ y l → Memᴰ y (cons_if b x l)
cons_there true x l y m = Memᴰ.tail m
cons_there false x l y m = m

cons-cases {ℓ} : {X : Type ℓ} (b : Bool) (x : ℕ) (l : List ℕ) (y : ℕ) → Memᴰ y (cons_if b x l) → (b ≡ true → y ≡ x → X) → (Memᴰ y l → X) → X
cons-cases true x l y m f g = ⊎_elim (f refl) g (Memᴰ.cases_cons m)
cons-cases false x l y m f g = g m

pub differs_changed : (i : ℕ) (olds news : List ℕ) (x : ℕ) → (get_or news x 0 ≡ get_or olds x 0 → ⊥) → length news ≡ length olds
    → Memᴰ (i + x) (changed_from i olds news)
unfolding changed_from
differs_changed i [] [] x h e = absurd (h refl)
differs_changed i [] (b ∷ news) x h e = absurd (omega arith)
differs_changed i (a ∷ olds) [] x h e = absurd (omega arith)
differs_changed i (a ∷ olds) (b ∷ news) zero h e = cons_here _ _ _ _ (ap not (ne_eqb a b (λ q. h (sym q)))) (omega arith)
differs_changed i (a ∷ olds) (b ∷ news) (suc x) h e =
    let q : i + suc x ≡ suc i + x = omega arith in
    cons_there (not (eqb a b)) i (changed_from (suc i) olds news) (i + suc x) (rw q (differs_changed (suc i) olds news x h (omega arith)))

pub changed_differs : (i : ℕ) (olds news : List ℕ) (z : ℕ) → Memᴰ z (changed_from i olds news)
    → (x : ℕ) × (z ≡ i + x) × (get_or news x 0 ≡ get_or olds x 0 → ⊥)
unfolding changed_from
changed_differs i [] news z m = absurd (Memᴰ.not-nil m)
changed_differs i (a ∷ olds) [] z m = absurd (Memᴰ.not-nil m)
changed_differs i (a ∷ olds) (b ∷ news) z m = cons-cases (not (eqb a b)) i (changed_from (suc i) olds news) z m
    (λ t e. (0, omega arith, λ q. true≢false (sym (eq-eqb a b (sym q)) ∙ not-true (eqb a b) t)))
    (λ k. let r = changed_differs (suc i) olds news z k in (suc r.0, omega (arith, r.1), r.2))
