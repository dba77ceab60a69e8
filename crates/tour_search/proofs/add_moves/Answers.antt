-- `tour_search::add_moves` meets its contract. The loop's invariant: the sums of the places before `at` are kept, and the last of them is `sum`.
-- Assumes nothing.
use Rattle.std.proofs.Common.{◌≡◌, ap, ◌∙◌, List, ℕ, ◌+◌, ◌-◌, ◌<◌, ◌≤◌, get_or, set, arith}
use Rattle.tour_sums.specs.Tours.{move_cost}
use Rattle.tour_sums.specs.Promise.{TourSquare}
use Rattle.tour_search.specs.Inner.{weight, weighed}
use Rattle.tour_search.proofs.Loops.{weighed_more, weighed_small, sums_more}
use Rattle.tour_search.proofs.add_moves.Invariants.{Holds}
use Rattle.tour_search.proofs.add_moves.Goals as goal

-- where the move into place `at` is weighed
module _ (square : List (List ℕ)) (order : List ℕ) (n : ℕ) (sums : List ℕ) (sum at added : ℕ) (some : 1 ≤ at) (h : Holds square order sums sum at)
    (e : added ≡ weight (move_cost square (get_or order (at - 1) 0) (get_or order at 0))) where
  sum_is : sum + added ≡ weighed square order at
  sum_is = omega (arith, h.last, e, weighed_more square order at some)

  sum_small : TourSquare square n → at < n → sum + added ≤ 4194304
  sum_small s more = omega (arith, sum_is, s.few, weighed_small square s.costs order at)

  one_more : TourSquare square n → at < n → Holds square order (set sums at (sum + added)) (sum + added) (at + 1)
  one_more s more =
      let same : at ≡ at + 1 - 1 = omega arith in
      record {
        last = sum_is ∙ ap (weighed square order) same;
        kept = sums_more square order at sums (sum + added) (omega (arith, s.few)) sum_is h.kept;
      }

pub overflow_add-sum : goal.overflow_add-sum
overflow_add-sum c =
    let l = c.loop-at in
    let added = c.move_weight-sum in
    let small : l.sum + added.result ≤ 4194304 =
    sum_small c.args.square.now c.args.order.now c.args.n l.sums l.sum l.at _ (omega (arith, c.requires.some)) l.invariant added.ensures c.requires.square_held (omega (arith, c.loop-at-test.true)) in
    omega arith

pub loop-at-preserved : goal.loop-at-preserved
loop-at-preserved c =
    let l = c.loop-at in
    let added = c.move_weight-sum in
    one_more c.args.square.now c.args.order.now c.args.n l.sums l.sum l.at _ (omega (arith, c.requires.some)) l.invariant added.ensures c.requires.square_held (omega (arith, c.loop-at-test.true))
