-- `tour_ranking::factorial` meets its contract. The loop's invariant: the product is that of the numbers from 1 to `number`.
-- Assumes nothing.
use Rattle.std.proofs.Common.{◌+◌, arith}
use Rattle.tour_ranking.proofs.Loops.{factorial_more, factorial_few}
use Rattle.tour_ranking.proofs.factorial.Goals as goal

pub overflow_mul-product : goal.overflow_mul-product
overflow_mul-product c =
    let number = c.loop-number.number in
    rw (c.loop-number.invariant, factorial_more number) (omega (arith, factorial_few (number + 1) (omega arith)))
