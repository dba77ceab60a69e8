-- The sheet of a leg, sector by sector.
--     part_same, part_other    a sheet with other bytes as a sector's part: that part, and every other one
--     from_none                what stands in the place of a previous field before the first step plays no part
--     full_after, kept         the sheet keeps its length, and a sector that no step names its bytes
--     written, built_is        the sector of the step at a place, and its built costs
-- Assumes nothing.
use mathlib.Core.Path.{◌≡◌, refl, sym, ap, ◌∙◌}
use mathlib.Core.Bool.{Bool, true, false}
use mathlib.Core.List.{List, [], ◌∷◌, ◌++◌}
use Prim.Native.Nat.{ℕ, zero, suc, ◌+◌, ◌-◌, ◌*◌, ◌<◌, ◌≤◌}
use native.Mathlib.Omega.{arith}
use lib.Dec.{eqb, ltb}
use lib.ListN.{length, take, drop, length-append, length-drop}
use lib.Seq.{take_at, drop_at, length-take-le, take-add, drop-drop, take-take}
use borrow.Author.Tests.{ltb-true, ltb-false, eqb-false}
use Rattle.route.specs.Step.{sector_of, portal_of}
use Rattle.route.specs.Target.{by_sight, target_of}
use Rattle.sector.specs.Sector.{sector_field, sector_bytes}
use Rattle.sector.proofs.Planned.{bytes_hundred, none_read}
use Rattle.leg_counting.specs.Counting.{leg_target}
use Rattle.leg_plan.specs.Leg.{part, names, names_twice, step_field, step_bytes, closed_from, with_part, planned_from}
use Rattle.step_list.proofs.Steps.{neither}
use Rattle.step_list.specs.Steps.{step_of}
use Rattle.leg_plan.specs.Promise.{sector_at, target_at, portal_at, costs_at, built_at, has_before, built_before}

-- the k elements from m on, cut the other way round
part_of_front : (l : List ℕ) (m k : ℕ) → m ≤ length l → take k (drop m l) ≡ drop m (take (m + k) l)
part_of_front l m k h = sym (rw (take-add m k l) (drop_at (take m l) (take k (drop m l)) m (length-take-le m l h)))

-- what follows the first m, cut in two
rest_of_rest : (l : List ℕ) (e m : ℕ) → e ≤ m → drop m l ≡ drop (m - e) (drop e l)
rest_of_rest l e m h = let z : e + (m - e) ≡ m = omega arith in sym (drop-drop (m - e) e l ∙ ap (λ (n : ℕ). drop n l) z)

module _ (l p : List ℕ) (s : ℕ) (fits : s * 100 + 100 ≤ length l) (full : length p ≡ 100) where
  head_long : length (take (s * 100) l) ≡ s * 100
  head_long = length-take-le (s * 100) l (omega arith)

  pub with_length : length (with_part l s p) ≡ length l
  with_length = simp (length-append, length-drop, full, head_long) (omega arith)

  pub part_same : part (with_part l s p) s ≡ p
  part_same = rw (drop_at (take (s * 100) l) (p ++ drop (s * 100 + 100) l) (s * 100) head_long) (take_at p (drop (s * 100 + 100) l) 100 full)

  front : take (s * 100) (with_part l s p) ≡ take (s * 100) l
  front = take_at (take (s * 100) l) (p ++ drop (s * 100 + 100) l) (s * 100) head_long

  back : drop (s * 100 + 100) (with_part l s p) ≡ drop (s * 100 + 100) l
  back =
      sym (drop-drop 100 (s * 100) (with_part l s p))
      ∙ ap (drop 100) (drop_at (take (s * 100) l) (p ++ drop (s * 100 + 100) l) (s * 100) head_long)
      ∙ drop_at p (drop (s * 100 + 100) l) 100 full

  part_before : (t : ℕ) → t < s → part (with_part l s p) t ≡ part l t
  part_before t h =
      part_of_front (with_part l s p) (t * 100) 100 (omega (arith, with_length))
      ∙ ap (drop (t * 100))
      (sym (take-take (t * 100 + 100) (s * 100) (with_part l s p) (omega arith))
      ∙ ap (take (t * 100 + 100)) front
      ∙ take-take (t * 100 + 100) (s * 100) l (omega arith))
      ∙ sym (part_of_front l (t * 100) 100 (omega arith))

  part_after : (t : ℕ) → s < t → part (with_part l s p) t ≡ part l t
  part_after t h =
      ap (take 100)
      (rest_of_rest (with_part l s p) (s * 100 + 100) (t * 100) (omega arith)
      ∙ ap (drop (t * 100 - (s * 100 + 100))) back
      ∙ sym (rest_of_rest l (s * 100 + 100) (t * 100) (omega arith)))

  pub part_other : (t : ℕ) → (s ≡ t → ⊥) → part (with_part l s p) t ≡ part l t
  part_other t ne = go (ltb t s) refl
    where
      go : (b : Bool) → ltb t s ≡ b → part (with_part l s p) t ≡ part l t
      go true h = part_before t (ltb-true t s h)
      go false h = let g = ltb-false t s h in part_after t (omega arith)

-- ---- step after step

-- steps that each name a sector of the floor, and a sheet of 64 sectors
pub record Fits (ss : List (List ℕ)) (sheet : List ℕ) : Type 0 where
  pub in_floor : (k : ℕ) → k < length ss → sector_at ss k < 64
  pub full : length sheet ≡ 6400

module _ (sight : Bool) (floor : List ℕ) where
  -- the first step has no previous field, so that what stands in its place plays no part
  pub from_none : (ss : List (List ℕ)) (previous other sheet : List ℕ)
      → planned_from sight floor ss false previous sheet ≡ planned_from sight floor ss false other sheet
  unfolding planned_from
  from_none [] previous other sheet = refl
  from_none (s ∷ ss) previous other sheet =
      ap (λ (b : List ℕ). planned_from sight floor ss true (step_field sight floor false previous s) (with_part sheet (sector_of s) b))
      (none_read (part floor (sector_of s)) (by_sight sight (target_of s)) (portal_of s) previous other)

  pub closed_from_none : (ss : List (List ℕ)) (previous other : List ℕ) → closed_from sight floor ss false previous ≡ closed_from sight floor ss false other
  unfolding closed_from
  closed_from_none [] previous other = refl
  closed_from_none (s ∷ ss) previous other = refl

  -- one step: what fits still fits, its own part is written, and every other one is as it was
  module _ {s : List ℕ} {ss : List (List ℕ)} {sheet : List ℕ} (fits : Fits (s ∷ ss) sheet) (has : Bool) (previous : List ℕ) where
    abbrev bytes : List ℕ
    bytes = step_bytes sight floor has previous s

    hundred : length bytes ≡ 100
    hundred = bytes_hundred (part floor (sector_of s)) (leg_target sight has previous s) (portal_of s) has previous

    in_sheet : sector_of s * 100 + 100 ≤ length sheet
    in_sheet = let h : sector_of s < 64 = fits.in_floor zero (omega arith) in omega (arith, fits.full)

    rest : Fits ss (with_part sheet (sector_of s) bytes)
    rest = record { in_floor = λ k h. fits.in_floor (suc k) (omega arith); full = with_length sheet bytes (sector_of s) in_sheet hundred ∙ fits.full }

    own : part (with_part sheet (sector_of s) bytes) (sector_of s) ≡ bytes
    own = part_same sheet bytes (sector_of s) in_sheet hundred

    other : (n : ℕ) → eqb (sector_of s) n ≡ false → part (with_part sheet (sector_of s) bytes) n ≡ part sheet n
    other n e = part_other sheet bytes (sector_of s) in_sheet hundred n (eqb-false (sector_of s) n e)

  pub full_after : (ss : List (List ℕ)) (has : Bool) (previous : List ℕ) {sheet : List ℕ}
      → Fits ss sheet → length (planned_from sight floor ss has previous sheet) ≡ 6400
  unfolding planned_from
  full_after [] has previous fits = fits.full
  full_after (s ∷ ss) has previous fits = full_after ss true (step_field sight floor has previous s) (rest fits has previous)

  -- a sector that no step names keeps its bytes
  pub kept : (ss : List (List ℕ)) (has : Bool) (previous : List ℕ) {sheet : List ℕ} → Fits ss sheet
      → (n : ℕ) → names n ss ≡ false → part (planned_from sight floor ss has previous sheet) n ≡ part sheet n
  unfolding planned_from
  kept [] has previous fits n e = refl
  kept (s ∷ ss) has previous fits n e =
      let none = neither (eqb (sector_of s) n) (names n ss) e in
      kept ss true (step_field sight floor has previous s) (rest fits has previous) n none.1 ∙ other fits has previous n none.0

  -- ---- what the step at a place writes

  -- whether there is a step before the one at a place, and that step's built field; `has` and `previous` tell of the step before the list
  abbrev has_from : Bool → ℕ → Bool
  has_from has zero = has
  has_from has (suc k) = true

  field_from : List (List ℕ) → Bool → List ℕ → ℕ → List ℕ
  field_from [] has previous k = previous
  field_from (s ∷ ss) has previous zero = previous
  field_from (s ∷ ss) has previous (suc k) = field_from ss true (step_field sight floor has previous s) k

  field_here : (ss : List (List ℕ)) (has : Bool) (previous : List ℕ) → field_from ss has previous zero ≡ previous
  unfolding field_from
  field_here [] has previous = refl
  field_here (s ∷ ss) has previous = refl

  -- the built field behind the step at a place
  field_next : (ss : List (List ℕ)) (has : Bool) (previous : List ℕ) (k : ℕ) → k < length ss
      → field_from ss has previous (suc k) ≡ step_field sight floor (has_from has k) (field_from ss has previous k) (step_of ss k)
  unfolding field_from
  field_next [] has previous k h = absurd (omega arith)
  field_next (s ∷ ss) has previous zero h = field_here ss true (step_field sight floor has previous s)
  field_next (s ∷ ss) has previous (suc zero) h = field_next ss true (step_field sight floor has previous s) zero (omega arith)
  field_next (s ∷ ss) has previous (suc (suc k)) h = field_next ss true (step_field sight floor has previous s) (suc k) (omega arith)

  -- the sector of the step at place k holds what that step wrote, since no later one names it
  written_from : (ss : List (List ℕ)) (has : Bool) (previous : List ℕ) {sheet : List ℕ} → Fits ss sheet → names_twice ss ≡ false → (k : ℕ) → k < length ss
      → part (planned_from sight floor ss has previous sheet) (sector_at ss k)
      ≡ step_bytes sight floor (has_from has k) (field_from ss has previous k) (step_of ss k)
  unfolding planned_from field_from
  written_from [] has previous fits once k h = absurd (omega arith)
  written_from (s ∷ ss) has previous fits once zero h =
      let later = neither (names (sector_of s) ss) (names_twice ss) once in
      kept ss true (step_field sight floor has previous s) (rest fits has previous) (sector_of s) later.0 ∙ own fits has previous
  written_from (s ∷ ss) has previous fits once (suc zero) h =
      let later = neither (names (sector_of s) ss) (names_twice ss) once in
      written_from ss true (step_field sight floor has previous s) (rest fits has previous) later.1 zero (omega arith)
  written_from (s ∷ ss) has previous fits once (suc (suc k)) h =
      let later = neither (names (sector_of s) ss) (names_twice ss) once in
      written_from ss true (step_field sight floor has previous s) (rest fits has previous) later.1 (suc k) (omega arith)

  -- from the first step of a leg on, that is the built field of the step before
  field_at : (ss : List (List ℕ)) (k : ℕ) → k < length ss → field_from ss false [] (suc k) ≡ built_at sight floor ss k
  unfolding built_at
  field_at ss zero h = field_next ss false [] zero h ∙ ap (λ (f : List ℕ). step_field sight floor false f (step_of ss zero)) (field_here ss false [])
  field_at ss (suc k) h =
      field_next ss false [] (suc k) h ∙ ap (λ (f : List ℕ). step_field sight floor true f (step_of ss (suc k))) (field_at ss k (omega arith))

  pub written : (ss : List (List ℕ)) {sheet : List ℕ} → Fits ss sheet → names_twice ss ≡ false → (k : ℕ) → k < length ss
      → part (planned_from sight floor ss false [] sheet) (sector_at ss k)
      ≡ sector_bytes (costs_at floor ss k) (target_at sight floor ss k) (portal_at ss k) (has_before k) (built_before sight floor ss k)
  written ss fits once zero h =
      written_from ss false [] fits once zero h ∙ ap (λ (f : List ℕ). step_bytes sight floor false f (step_of ss zero)) (field_here ss false [])
  written ss fits once (suc k) h =
      written_from ss false [] fits once (suc k) h ∙ ap (λ (f : List ℕ). step_bytes sight floor true f (step_of ss (suc k))) (field_at ss k (omega arith))

  -- its built costs are those of its target
  pub built_is : (ss : List (List ℕ)) (k : ℕ) → built_at sight floor ss k ≡ (sector_field (costs_at floor ss k) (target_at sight floor ss k)).field
  unfolding built_at
  built_is ss zero = refl
  built_is ss (suc k) = refl
