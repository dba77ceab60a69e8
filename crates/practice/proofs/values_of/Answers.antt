-- `practice::values_of` meets its contract. The loop's invariant: the places before n hold the definition's values.
-- Assumes nothing.
use Rattle.std.proofs.Common.{refl, ◌∙◌, arith, length-set}
use Rattle.practice.specs.Values.{values_to}
use Rattle.practice.proofs.Values.{one_place_more}
use Rattle.practice.proofs.values_of.Goals as goal

pub loop-n-init : goal.loop-n-init
unfolding values_to
loop-n-init c = (refl, refl)

pub loop-n-preserved : goal.loop-n-preserved
loop-n-preserved c =
    let l = c.loop-n in
    let next = c.next_value in (
      length-set l.values l.n next.result ∙ l.invariant.0,
      one_place_more c.args.seed l.n next.result l.values (omega arith) (omega arith) next.ensures l.invariant.1,
    )
