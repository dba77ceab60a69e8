-- What is printed for an input, from what the sector call answers.
--     printed_short      an input of fewer than 100 bytes
--     printed_answer     the text of what the sector call answers for the parts of an input
--     printed_window     a step with a window, where no earlier number is due, prints `no 17` (02, "Job 8")
-- Assumes nothing.
use mathlib.Core.Path.{◌≡◌, refl}
use mathlib.Core.Bool.{Bool, true, false, cond}
use mathlib.Core.List.{List, []}
use Prim.Native.Nat.{ℕ, zero, suc, ◌<◌, ◌≤◌}
use native.Mathlib.Omega.{arith}
use lib.ListN.{length, take, drop, replicate, length-take}
use lib.Seq.{length-take-le}
use lib.Dec.{eqb}
use borrow.Author.Tests.{ne_eqb}
use Rattle.integration_field.specs.declared.IntegrationField.{IntegrationField}
use Rattle.integration_field.specs.declared.BuildAnswer.{BuildAnswer}
use Rattle.integration_field.specs.Answer.{answer_of}
use Rattle.route.specs.Step.{mark_of, portal_of, step_number_on}
use Rattle.route.specs.Target.{target_of}
use Rattle.integration_started.specs.Started.{started}
use Rattle.sector.specs.Sector.{sector_number, sector_bytes, sector_answer, sector_sheet}
use Rattle.sector.proofs.Numbers.{seventeen_told}
use Rattle.sector_text.specs.Text.{no_text, rendered, printed}

-- an input of fewer than 100 bytes is refused with 1, whatever is made of it
pub printed_short : (input sheet : List ℕ) → length input < 100 → rendered 1 sheet ≡ printed input
unfolding printed rendered sector_number
printed_short input sheet h =
    let e : length (take 100 input) ≡ 100 → ⊥ = λ z. omega (arith, length-take 100 input, z) in
    rw (ne_eqb (length (take 100 input)) 100 e)

number_of : (n : ℕ) (costs : List ℕ) (f : IntegrationField) → (answer_of n costs f).number ≡ n
number_of zero costs f = refl
number_of (suc n) costs f = refl

-- a refused answer's text does not look at the sheet
rendered_by : (n : ℕ) (bytes sheet : List ℕ) (t : Bool) → eqb n 0 ≡ t → rendered n (cond t bytes sheet) ≡ rendered n bytes
unfolding rendered
rendered_by n bytes sheet true h = refl
rendered_by n bytes sheet false h = rw h

-- the text of what the sector call answers for the parts of an input
pub printed_answer : (input : List ℕ) (a : BuildAnswer) (s : List ℕ)
    → a ≡ sector_answer (take 100 input) (drop 100 input) false [] (replicate 100 0)
    → s ≡ sector_sheet (take 100 input) (drop 100 input) false [] (replicate 100 0)
    → rendered a.number s ≡ printed input
unfolding printed
printed_answer input a s e f =
    let costs = take 100 input in
    let step = drop 100 input in
    let n = sector_number costs step false [] (replicate 100 0) in
    rw (e, f, number_of n costs (started costs (target_of step)))
    (rendered_by n (sector_bytes costs (target_of step) (portal_of step) false []) (replicate 100 0) (eqb n 0) refl)

pub printed_window : (input : List ℕ) → 100 ≤ length input → step_number_on (take 100 input) (drop 100 input) ≡ 0 → mark_of (drop 100 input) ≡ 1
    → printed input ≡ no_text 17
unfolding printed rendered
printed_window input full taken window =
    let long : length (take 100 input) ≡ 100 = length-take-le 100 input full in
    let told = (seventeen_told (take 100 input) (drop 100 input) false [] (replicate 100 0)).1 (record {
      costs_hundred = long;
      sheet_hundred = refl;
      step_taken = taken;
      mark = window;
      none_lent = refl;
    }) in
    rw told
