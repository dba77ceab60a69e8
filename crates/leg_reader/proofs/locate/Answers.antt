-- How the reader is shown to keep its promises. `is_marked` and `version` read the head's bytes, and `number` tests what `is_leg_file` tests: both need
-- no answer. `read` lends the part from byte 6 on, which holds the steps; that writing them again gives the same file is leg_file's `written_same`.
--
-- `leg_reader::locate` meets its contract: what `number` and `read` answer, and where that part stands.
-- Assumes nothing.
use Rattle.std.proofs.Common.{◌≡◌, refl, sym, ap, length, ◌∙◌}
use borrow.Author.Tests.{ne_eqb}
use Rattle.refusals.proofs.Numbers.{not_zero}
use Rattle.leg_file.specs.File.{file_answer, file_number}
use Rattle.leg_file.proofs.Laws.{part_refused, place_refused}
use Rattle.leg_reader.proofs.locate.Goals as goal

pub returns-in-Ok-clause-answer : goal.returns-in-Ok-clause-answer
unfolding file_answer
returns-in-Ok-clause-answer c = rw (ap length c.read-length.ensures.part, sym c.in-Ok.ensures)

pub returns-in-Err-clause-answer : goal.returns-in-Err-clause-answer
unfolding file_answer
returns-in-Err-clause-answer c =
    let file = c.args.file.now in
    let bad : file_number file ≡ 0 → ⊥ = λ z. not_zero c.in-Err.refusal (c.in-Err.ensures ∙ z) in
    rw (ap length c.read-length.ensures.part, c.number-in-Err.ensures ∙ c.in-Err.ensures, ne_eqb (file_number file) 0 bad)

pub returns-in-Err-clause-part : goal.returns-in-Err-clause-part
returns-in-Err-clause-part c =
    rw c.read-length.ensures.part (place_refused c.args.file.now (λ z. not_zero c.in-Err.refusal (c.in-Err.ensures ∙ z)))

pub returns-in-Err-clause-refused : goal.returns-in-Err-clause-refused
returns-in-Err-clause-refused c h =
    record {
      start = refl;
      length = rw (c.read-length.ensures.part, part_refused c.args.file.now (λ z. not_zero c.in-Err.refusal (c.in-Err.ensures ∙ z)));
    }
