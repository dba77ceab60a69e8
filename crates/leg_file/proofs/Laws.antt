-- Writer and reader.
--     is_list       1 to 16 steps are a list that is not refused
--     good, right   a file is taken exactly where mark, version, count and length are right
--     shape         such a file is the file of its steps
--     read_back     the file of a list is taken, and its steps are the list
--     written_same  so the writer gives that file for them
--     part_of       the part is empty exactly where the number is 14
--     refuses, writes   what the writer promises, by its number
--     copied, stored    the six bytes of the head, with the steps copied behind them, are the file
-- Assumes nothing.
use mathlib.Core.Path.{◌≡◌, refl, sym, ap, ◌∙◌}
use mathlib.Core.Bool.{Bool, true, false, not, cond, ◌&&◌, and-eq-true_iff}
use mathlib.Core.List.{List, [], ◌∷◌, ◌++◌, append-nil}
use mathlib.Core.Logic.{◌⊎◌, inl, inr, ⊎_elim}
use Prim.Native.Nat.{ℕ, ◌+◌, ◌*◌, ◌/◌, ◌%◌, ◌≤◌}
use native.Mathlib.Omega.{arith}
use lib.Dec.{eqb, leb}
use lib.ListN.{length, take, drop, length-drop, drop_of_length-le}
use lib.Seq.{sets, sets-eq, paste, take-length}
use borrow.Author.Tests.{eqb-true, eq-eqb, ne_eqb, le-ltb, le-leb, leb-true}
use Rattle.route.specs.Step.{no_step_list}
use Rattle.route.proofs.Accepted.{accepted_list}
use Rattle.leg_file.specs.File.{file_of, write_number, written_file, is_marked, version_of, count_of, is_count, is_leg_file, file_number, file_steps}
use Rattle.leg_file.specs.Promise.{ReadBack, WrittenSame, PartOf}

pub is_list : (k : ℕ) (steps : List ℕ) → 1 ≤ k → k ≤ 16 → length steps ≡ 8 * k → no_step_list steps ≡ false
unfolding no_step_list
is_list k steps some few e =
    rw (ne_eqb (length steps) 0 (λ z. omega arith), le-ltb 128 (length steps) (omega arith), eq-eqb (length steps % 8) 0 (omega arith))

-- ---- a file that is taken

pub record Good (file : List ℕ) : Type 0 where
  pub mark : is_marked file ≡ true
  pub version : version_of file ≡ 1
  pub some : 1 ≤ count_of file
  pub few : count_of file ≤ 16
  pub long : length file ≡ 6 + 8 * count_of file

both : (a b : Bool) → (a && b) ≡ true → (a ≡ true) × (b ≡ true)
both a b = (and-eq-true_iff a b).0

either : (b : Bool) → (◌≡◌ {A = ℕ} (cond (not b) 14 0) 0 → b ≡ true) × ((◌≡◌ {A = ℕ} (cond (not b) 14 0) 0) ⊎ (◌≡◌ {A = ℕ} (cond (not b) 14 0) 14))
either true = (λ z. refl, inl refl)
either false = (λ z. absurd (omega arith), inr refl)

pub numbers : (file : List ℕ) → (file_number file ≡ 0) ⊎ (file_number file ≡ 14)
unfolding file_number
numbers file = (either (is_leg_file file)).1

pub good : (file : List ℕ) → file_number file ≡ 0 → Good file
unfolding file_number is_leg_file
good file h =
    let whole =
    both (is_marked file && eqb (version_of file) 1 && is_count (count_of file)) (eqb (length file) (6 + 8 * count_of file))
    ((either (is_leg_file file)).0 h) in
    let counted = both (is_marked file && eqb (version_of file) 1) (is_count (count_of file)) whole.0 in
    let count = both (leb 1 (count_of file)) (leb (count_of file) 16) counted.1 in
    let version = both (is_marked file) (eqb (version_of file) 1) counted.0 in
    record {
      mark = version.0;
      version = eqb-true (version_of file) 1 version.1;
      some = leb-true 1 (count_of file) count.0;
      few = leb-true (count_of file) 16 count.1;
      long = eqb-true (length file) (6 + 8 * count_of file) whole.1;
    }

pub right : (file : List ℕ) → Good file → file_number file ≡ 0
unfolding file_number is_leg_file
right file p = rw (
  p.mark,
  eq-eqb (version_of file) 1 p.version,
  le-leb 1 (count_of file) p.some,
  le-leb (count_of file) 16 p.few,
  eq-eqb (length file) (6 + 8 * count_of file) p.long,
)

pub wrong : (file : List ℕ) → (Good file → ⊥) → file_number file ≡ 14
wrong file bad = ⊎_elim (λ h. absurd (bad (good file h))) (λ h. h) (numbers file)

-- the bytes before the steps are the mark, the version and the count
shaped : (file : List ℕ) → Good file → file_of (drop 6 file) ≡ file
unfolding is_marked
shaped [] p = absurd (omega (arith, p.long))
shaped (a ∷ []) p = absurd (omega (arith, p.long))
shaped (a ∷ b ∷ []) p = absurd (omega (arith, p.long))
shaped (a ∷ b ∷ c ∷ []) p = absurd (omega (arith, p.long))
shaped (a ∷ b ∷ c ∷ d ∷ []) p = absurd (omega (arith, p.long))
shaped (a ∷ b ∷ c ∷ d ∷ e ∷ []) p = absurd (omega (arith, p.long))
shaped (a ∷ b ∷ c ∷ d ∷ e ∷ n ∷ steps) p =
    let mark = both (eqb a 76 && eqb b 69) (eqb c 71) p.mark in
    let first = both (eqb a 76) (eqb b 69) mark.0 in
    let low : d ≡ 1 = omega (arith, p.version) in
    let high : e ≡ 0 = omega (arith, p.version) in
    let count : length steps / 8 ≡ n = omega (arith, p.long) in
    cc (eqb-true a 76 first.0, eqb-true b 69 first.1, eqb-true c 71 mark.1, low, high, count)

pub shape : (file : List ℕ) → file_number file ≡ 0 → file_of (drop 6 file) ≡ file
shape file h = shaped file (good file h)

-- ---- a list that is written

pub back_taken : (steps : List ℕ) → no_step_list steps ≡ false → file_number (file_of steps) ≡ 0
unfolding is_marked
back_taken steps h =
    let l = accepted_list steps h in
    right (file_of steps) (record { mark = refl; version = refl; some = omega arith; few = omega arith; long = omega arith })

pub read_back : (steps : List ℕ) → no_step_list steps ≡ false → file_steps (file_of steps) ≡ steps
unfolding file_steps
read_back steps h = rw (back_taken steps h)

-- ---- a file that is read

-- its steps are 1 to 16
listed : (file : List ℕ) → file_number file ≡ 0 → no_step_list (drop 6 file) ≡ false
listed file h =
    let p = good file h in
    is_list (count_of file) (drop 6 file) p.some p.few (omega (arith, length-drop 6 file))

part_read : (file : List ℕ) → file_number file ≡ 0 → file_steps file ≡ drop 6 file
unfolding file_steps
part_read file h = rw h

pub written_same : (file : List ℕ) → WrittenSame file (file_steps file)
unfolding written_file write_number
written_same file = record { taken = number; same = λ h buffer e. rw (number h buffer e, part_read file h) (shape file h) }
  where
    number : file_number file ≡ 0 → (buffer : List ℕ) → length buffer ≡ length file → write_number (file_steps file) buffer ≡ 0
    number h buffer e = rw (part_read file h, listed file h, eq-eqb (length buffer) (length (file_of (drop 6 file))) (e ∙ sym (ap length (shape file h))))

-- ---- the part, beside the number

pub part_of : (file : List ℕ) → PartOf file (file_steps file)
unfolding file_steps
part_of file = record { refused = λ h. rw h; empty = λ z. ⊎_elim (λ h. absurd (some z h)) (λ h. h) (numbers file); read = part_read file }
  where
    some : file_steps file ≡ [] → file_number file ≡ 0 → ⊥
    some z h =
        let p = good file h in
        let e : length (drop 6 file) ≡ 0 = ap length (sym (part_read file h) ∙ z) in
        omega (arith, length-drop 6 file)

pub part_refused : (file : List ℕ) → (file_number file ≡ 0 → ⊥) → file_steps file ≡ []
unfolding file_steps
part_refused file bad = rw (ne_eqb (file_number file) 0 bad)

-- what `read` promises of a part, refused and read
promised : (file part : List ℕ) → part ≡ file_steps file → (part ≡ file_steps file) × (PartOf file part × WrittenSame file part)
promised file part e = (e, (rw e (part_of file), rw e (written_same file)))

pub promised_refused : (file : List ℕ) → (file_number file ≡ 0 → ⊥) → ([] ≡ file_steps file) × (PartOf file [] × WrittenSame file [])
promised_refused file bad = promised file [] (sym (part_refused file bad))

pub promised_read : (file part : List ℕ) → file_number file ≡ 0 → part ≡ drop 6 file → (part ≡ file_steps file) × (PartOf file part × WrittenSame file part)
promised_read file part h e = promised file part (e ∙ sym (part_read file h))

-- where the part stands
pub place_read : (file : List ℕ) → file_number file ≡ 0 → take (length (file_steps file)) (drop 6 file) ≡ file_steps file
place_read file h = rw (part_read file h) (take-length (drop 6 file))

pub place_refused : (file : List ℕ) → (file_number file ≡ 0 → ⊥) → take (length (file_steps file)) file ≡ file_steps file
place_refused file bad = rw (part_refused file bad)

-- ---- the writer

number_zero : (steps file : List ℕ) → no_step_list steps ≡ false → length file ≡ length (file_of steps) → write_number steps file ≡ 0
unfolding write_number
number_zero steps file list long = rw (list, eq-eqb (length file) (length (file_of steps)) long)

pub record Fits (steps file : List ℕ) : Type 0 where
  pub list : no_step_list steps ≡ false
  pub long : length file ≡ 6 + length steps

pub fits : (steps file : List ℕ) → write_number steps file ≡ 0 → Fits steps file
unfolding write_number
fits steps file z = go (no_step_list steps) (eqb (length file) (length (file_of steps))) refl refl
  where
    go : (a b : Bool) → no_step_list steps ≡ a → eqb (length file) (length (file_of steps)) ≡ b → Fits steps file
    go true true p q = let bad = simp (p, q) at z in absurd (omega arith)
    go true false p q = let bad = simp (p, q) at z in absurd (omega arith)
    go false false p q = let bad = simp (p, q) at z in absurd (omega arith)
    go false true p q = record { list = p; long = omega (arith, eqb-true (length file) (length (file_of steps)) q) }

written : (steps file : List ℕ) (n : ℕ) → n ≡ write_number steps file → (k : ℕ) → 1 ≤ k → k ≤ 16 → length steps ≡ 8 * k → length file ≡ 6 + 8 * k → n ≡ 0
written steps file n e k some few list long = e ∙ number_zero steps file (is_list k steps some few list) (omega arith)

-- what `write` promises, refused and accepted
pub refuses : (steps file : List ℕ) (n : ℕ) → n ≡ write_number steps file → (n ≡ 0 → ⊥)
    → (n ≡ write_number steps file) × ((file ≡ written_file steps file) × ReadBack steps file file n)
unfolding written_file
refuses steps file n e bad = (
  e,
  (
    rw (ne_eqb (write_number steps file) 0 (λ z. bad (e ∙ z))),
    record { written = written steps file n e; taken = λ z. absurd (bad z); back = λ z. absurd (bad z) },
  ),
)

pub writes : (steps file after : List ℕ) → write_number steps file ≡ 0 → after ≡ file_of steps
    → (0 ≡ write_number steps file) × ((after ≡ written_file steps file) × ReadBack steps file after 0)
unfolding written_file
writes steps file after e s =
    let f = fits steps file e in (
      sym e,
      (
        rw (e, s),
        record { written = written steps file 0 (sym e); taken = λ z. rw s (back_taken steps f.list); back = λ z. rw s (read_back steps f.list) },
      ),
    )

-- ---- the bytes stored: the six of the head, and the steps copied behind them

-- a copy of all the steps behind the first six bytes ends the file, since nothing stands behind it
pub copied : (steps file : List ℕ) → length file ≡ 6 + length steps → paste file 6 steps (length steps) ≡ take 6 file ++ steps
copied steps file long =
    let behind : drop (6 + length steps) file ≡ [] = drop_of_length-le file {i = 6 + length steps} (omega arith) in
    rw (take-length steps, behind) (append-nil (take 6 file ++ steps))

abbrev head : ℕ → List ℕ
head count = 76 ∷ 69 ∷ 71 ∷ 1 ∷ 0 ∷ count ∷ []

pub stored : (steps file : List ℕ) (count : ℕ) → 6 ≤ length file → count ≡ length steps / 8 → take 6 (sets file 0 (head count)) ++ steps ≡ file_of steps
stored steps file count long c = rw (sets-eq (head count) file 0 long, c)
