-- `leg_reader::read` meets its contract: no part of a file that is refused, and of any other all from byte 6 on.
-- Assumes nothing.
use Rattle.std.proofs.Common.{◌≡◌, ℕ, List, length, drop, take, ◌-◌, ◌≤◌, arith, rules, sym, ◌∙◌, length-drop}
use lib.Seq.{take_all}
use Rattle.refusals.proofs.Numbers.{not_zero}
use Rattle.leg_file.specs.File.{file_number, file_steps}
use Rattle.leg_file.specs.Promise.{PartOf, WrittenSame}
use Rattle.leg_file.proofs.Laws.{good, promised_refused, promised_read}
use Rattle.leg_reader.proofs.read.Goals as goal

-- what is promised of the part from byte 6 on of a file that is taken
abbrev part : List ℕ → List ℕ
part file = take (length file - 6) (drop 6 file)

from_six : (file : List ℕ) → 0 ≡ file_number file
    → (part file ≡ file_steps file) × (PartOf file (part file) × WrittenSame file (part file))
from_six file zero = promised_read file _ (sym zero) (take_all (length file - 6) (drop 6 file) (omega (arith, length-drop 6 file)))

pub slice_bounds-result-count : goal.slice_bounds-result-count
slice_bounds-result-count c = let p = good _ (sym c.in-Ok.ensures) in omega (arith, p.long)

pub slice_bounds-result-start : goal.slice_bounds-result-start
slice_bounds-result-start c =
    let p = good _ (sym c.in-Ok.ensures) in
    let h : 6 ≤ length c.args.file.now = omega (arith, p.long) in
    search rules

pub returns-in-Ok-clause-part : goal.returns-in-Ok-clause-part
returns-in-Ok-clause-part c = (from_six c.args.file.now c.in-Ok.ensures).0

pub returns-in-Ok-clause-number : goal.returns-in-Ok-clause-number
returns-in-Ok-clause-number c = (from_six c.args.file.now c.in-Ok.ensures).1.0

pub returns-in-Ok-clause-same : goal.returns-in-Ok-clause-same
returns-in-Ok-clause-same c = (from_six c.args.file.now c.in-Ok.ensures).1.1

pub returns-in-Err-clause-part : goal.returns-in-Err-clause-part
returns-in-Err-clause-part c = (promised_refused c.args.file.now (λ z. not_zero _ (c.in-Err.ensures ∙ z))).0

pub returns-in-Err-clause-number : goal.returns-in-Err-clause-number
returns-in-Err-clause-number c = (promised_refused c.args.file.now (λ z. not_zero _ (c.in-Err.ensures ∙ z))).1.0
