-- `tour_search::best_tour` meets its contract. The loop's invariant: the best of the first `place` orders is known; and where there is an order at
-- `place`, it is the one made, and its sums are kept for the places before `changed`.
-- Assumes nothing.
use Rattle.std.proofs.Common.{◌≡◌, ◌∙◌, sym, ◌-◌, ◌<◌, ◌≤◌, suc, take, add-one, arith}
use mathlib.Core.Path.{subst}
use Rattle.std.specs.Prelude.{Option}
use Rattle.tour_sums.specs.declared.Tour.{Tour}
use Rattle.tour_orders.specs.Orders.{orders, factorial}
use Rattle.tour_sums.specs.Tours.{no_tour, best_tour}
use Rattle.tour_search.specs.Inner.{lowest}
use Rattle.tour_search.proofs.Loops.{sums_front, order_numbers}
use Rattle.tour_search.proofs.Answers.{tried_taken, tried_kept}
use Rattle.tour_search.proofs.best_tour.Goals as goal
use Rattle.tour_search.proofs.best_tour.Goals.{then-sum-lowest, else-sum-lowest}

pub add_moves-sum-requires : goal.add_moves-sum-requires
add_moves-sum-requires c =
    let l = c.loop-place in
    let s = c.requires.0 in
    let inside : l._place < factorial (c.args.n - 1) = omega (arith, c.requires.1) in
    let m = l.invariant.made inside in
    record {
      square_held = s;
      numbers = rw m.is (order_numbers c.args.n (omega (arith, s.some)) s.few l._place inside);
      some = m.some;
      inside = m.inside;
      kept = m.kept;
    }

-- behind the sum: the best of the orders tried, that of this turn among them
module _ (c : goal.After-next_order-changed) where
  inside : c.loop-place._place < factorial (c.args.n - 1)
  inside = omega (arith, c.requires.1)

  abbrev Better : Option Tour → Type 0
  Better best = (best ≡ best_tour c.args.square.now no_tour (take (suc c.loop-place._place) (orders c.args.n))) × (lowest best ≤ 524288)

  better : Better c.if-sum-lowest.best
  better =
      let l = c.loop-place in
      let square = c.args.square.now in
      let s = c.requires.0 in
      let is = (l.invariant.made inside).is in
      let weighs = c.add_moves-sum.ensures.0 in
      let most = l.invariant.most in
      let below = c.lowest.ensures in
      elim c.if-sum-lowest.branch [
        | then-sum-lowest w ↦
            let less : c.add_moves-sum.result < lowest l.best = omega (arith, below, w.if-sum-lowest.true) in
            subst Better (sym (w.best-is ∙ w.taken-best.ensures)) (
              tried_taken square c.args.n s l._place inside l.best l.invariant.known l.order is _ weighs most less,
              omega (arith, less, most),
            )
        | else-sum-lowest w ↦
            let more : lowest l.best ≤ c.add_moves-sum.result = omega (arith, below, w.if-sum-lowest.false) in
            subst Better (sym w.best-is) (
              tried_kept square c.args.n s l._place inside l.best l.invariant.known l.order is _ weighs more,
              most,
            )
      ]

pub loop-place-preserved : goal.loop-place-preserved
loop-place-preserved c =
    let l = c.loop-place in
    let b = better c in
    record {
      most = b.1;
      known = rw add-one b.0;
      made = λ h.
          (let next = c.next_order-changed.ensures l._place h (l.invariant.made (inside c)).is in
          record {
            some = next.some;
            inside = omega (arith, next.inside);
            is = next.is;
            kept = sums_front c.args.square.now _ _ _ c.args.n _ (omega (arith, next.inside)) next.front_same c.add_moves-sum.ensures.1;
          });
    }
