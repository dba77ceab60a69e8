-- How the writer is shown to leave the file of its steps. Its number is judged before the first byte is written (`write_number`). Then the head's six
-- bytes are put (`put_head`) and the steps are copied behind them (`put_steps`): that is the file (leg_file, `stored`).
--
-- `leg_writer::write` meets its contract: a number before the first write, or the head and the steps behind it.
-- Assumes nothing.
use Rattle.std.proofs.Common.{length, arith, refl, sym, ap, ◌∙◌}
use Rattle.std.proofs.lemmas.Result.{err_from_is_err_and}
use lib.Seq.{length-sets}
use Rattle.route.proofs.Accepted.{accepted_list}
use Rattle.refusals.proofs.Numbers.{not_zero}
use Rattle.leg_file.proofs.Laws.{fits, refuses, writes, stored}
use Rattle.leg_writer.proofs.write.Goals as goal

pub returns-in_err-write_number-clause-file : goal.returns-in_err-write_number-clause-file
returns-in_err-write_number-clause-file c =
    (refuses c.args.steps.now c.args.file.now _ (c.in_err-write_number.ensures c.args.file.now refl) (not_zero c.in_err-write_number.field-0.0)).1.0

pub returns-in_err-write_number-clause-back : goal.returns-in_err-write_number-clause-back
returns-in_err-write_number-clause-back c =
    let p = err_from_is_err_and c.from_residual.result c.from_residual.ensures.1 in
    rw (p.1, p.2)
    (refuses c.args.steps.now c.args.file.now _ (c.in_err-write_number.ensures c.args.file.now refl) (not_zero c.in_err-write_number.field-0.0)).1.1

pub overflow_cast-count : goal.overflow_cast-count
overflow_cast-count c =
    let f = fits c.args.steps.now c.args.file.now (sym (c.in_ok-write_number.ensures c.args.file.now refl)) in
    let l = accepted_list c.args.steps.now f.list in
    omega arith

pub put_head-requires : goal.put_head-requires
put_head-requires c =
    let f = fits c.args.steps.now c.args.file.now (sym (c.in_ok-write_number.ensures c.args.file.now refl)) in
    omega arith

pub put_steps-requires : goal.put_steps-requires
put_steps-requires c =
    let f = fits c.args.steps.now c.args.file.now (sym (c.in_ok-write_number.ensures c.args.file.now refl)) in
    ap length c.put_head.ensures ∙ simp length-sets f.long

pub returns-clause-file : goal.returns-clause-file
returns-clause-file c =
    let zero = sym (c.in_ok-write_number.ensures c.args.file.now refl) in
    let f = fits c.args.steps.now c.args.file.now zero in
    (writes c.args.steps.now c.args.file.now _ zero
    (c.put_steps.ensures ∙ rw c.put_head.ensures (stored c.args.steps.now c.args.file.now _ (omega arith) refl))).1.0

pub returns-clause-back : goal.returns-clause-back
returns-clause-back c =
    let zero = sym (c.in_ok-write_number.ensures c.args.file.now refl) in
    let f = fits c.args.steps.now c.args.file.now zero in
    (writes c.args.steps.now c.args.file.now _ zero
    (c.put_steps.ensures ∙ rw c.put_head.ensures (stored c.args.steps.now c.args.file.now _ (omega arith) refl))).1.1
