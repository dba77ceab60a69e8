-- `bounds::bounds_found` meets its contract: a line of the table at each refusal, else what the run over the step's window leaves.
-- Assumes nothing.
use Rattle.std.proofs.Common.{◌≡◌, ℕ, List, Bool, true, false, not, ◌||◌, sym, ap, ◌∙◌}
use Rattle.std.proofs.lemmas.Result.{err_from_is_err_and}
use Rattle.refusals.proofs.Numbers.{above_zero}
use Rattle.utilities.specs.Lists.{below}
use Rattle.route.specs.Step.{is_window, step_number_on}
use Rattle.route.specs.Target.{by_window}
use Rattle.route.specs.Inner.{held_target}
use Rattle.route.proofs.Targets.{made_target, made_marked, made_held}
use Rattle.bounds_told.specs.Bounds.{some_of, no_range, accepted_bounds}
use Rattle.bounds_told.proofs.Numbers.{accepted}
use Rattle.bounds.proofs.Laws.{not_low, not_high, on_low, on_high, no_bounds, taken, unmarked, held_as}
use Rattle.bounds.proofs.bounds_found.Goals as goal

-- the last line's condition, for a step with a window
ranged : (step low high l h : List ℕ) {b : Bool} → l ≡ low → h ≡ high → is_window step ≡ true → b ≡ some_of (no_range l h) (below 100)
    → (not (is_window step) || some_of (no_range low high) (below 100)) ≡ b
ranged step low high l h p q w e = rw (w, ← p, ← q) (sym e)

at : (step low l : List ℕ) {n : ℕ} → l ≡ low → n ≡ step_number_on l step → n ≡ step_number_on low step
at step low l p e = e ∙ ap (λ (c : List ℕ). step_number_on c step) p

pub returns-in_default-clause-number : goal.returns-in_default-clause-number
returns-in_default-clause-number c = not_low c.args.low.now c.args.high.now c.args.step.now c.in_default.ensures.cases

pub returns-in_default-as_array-clause-number : goal.returns-in_default-as_array-clause-number
returns-in_default-as_array-clause-number c =
    not_high c.args.low.now c.args.high.now c.args.step.now c.in-Some.ensures.cases.long c.in_default-as_array.ensures.cases

pub returns-in_err-number_with_target-clause-number : goal.returns-in_err-number_with_target-clause-number
returns-in_err-number_with_target-clause-number c =
    let a = c.args in
    let low = c.in-Some.ensures.cases in
    let high = c.in-Some-as_array.ensures.cases in
    let p = err_from_is_err_and c.from_residual.result c.from_residual.ensures.1 in
    rw (p.1, p.2)
    (on_low a.low.now a.high.now a.step.now low.long high.long _ (at a.step.now a.low.now _ low.same c.in_err-number_with_target.ensures) (above_zero _))

pub returns-in_err-number_with_target-2-clause-number : goal.returns-in_err-number_with_target-2-clause-number
returns-in_err-number_with_target-2-clause-number c =
    let a = c.args in
    let low = c.in-Some.ensures.cases in
    let high = c.in-Some-as_array.ensures.cases in
    let good = at a.step.now a.low.now _ low.same c.in_ok-number_with_target.ensures in
    let p = err_from_is_err_and c.from_residual-in_err-number_with_target-2.result c.from_residual-in_err-number_with_target-2.ensures.1 in
    rw (p.1, p.2)
    (on_high a.low.now a.high.now a.step.now low.long high.long good _ (at a.step.now a.high.now _ high.same c.in_err-number_with_target-2.ensures) (above_zero _))

pub returns-in_default-target : goal.returns-in_default-target
returns-in_default-target c =
    let a = c.args in
    let low = c.in-Some.ensures.cases in
    let high = c.in-Some-as_array.ensures.cases in
    let good = at a.step.now a.low.now _ low.same c.in_ok-number_with_target.ensures in
    let well = at a.step.now a.high.now _ high.same c.in_ok-number_with_target-2.ensures in
    let without : is_window a.step.now ≡ false
    = sym (made_marked a.step.now c.new.result c.as_target-target.result c.new.ensures c.as_target-target.ensures)
    ∙ unmarked c.as_target-target.result c.in_default-target.not-Window in
    record { number = no_bounds a.low.now a.high.now a.step.now low.long high.long good well (rw without); run = tt }

pub returns-then-has_no_range-clause-number : goal.returns-then-has_no_range-clause-number
returns-then-has_no_range-clause-number c =
    let a = c.args in
    let low = c.in-Some.ensures.cases in
    let high = c.in-Some-as_array.ensures.cases in
    let good = at a.step.now a.low.now _ low.same c.in_ok-number_with_target.ensures in
    let well = at a.step.now a.high.now _ high.same c.in_ok-number_with_target-2.ensures in
    let marked : is_window a.step.now ≡ true
    = sym (made_marked a.step.now c.new.result c.as_target-target.result c.new.ensures c.as_target-target.ensures)
    ∙ ap (λ t. by_window (held_target t)) c.in-Window.is in
    let r = ranged a.step.now a.low.now a.high.now _ _ low.same high.same marked c.has_no_range.ensures in
    no_bounds a.low.now a.high.now a.step.now low.long high.long good well (r ∙ c.if-has_no_range.true)

pub run-requires : goal.run-requires
run-requires c =
    let a = c.args in
    let low = c.in-Some.ensures.cases in
    let high = c.in-Some-as_array.ensures.cases in
    let good = at a.step.now a.low.now _ low.same c.in_ok-number_with_target.ensures in
    let well = at a.step.now a.high.now _ high.same c.in_ok-number_with_target-2.ensures in
    let marked : is_window a.step.now ≡ true
    = sym (made_marked a.step.now c.new.result c.as_target-target.result c.new.ensures c.as_target-target.ensures)
    ∙ ap (λ t. by_window (held_target t)) c.in-Window.is in
    let r = ranged a.step.now a.low.now a.high.now _ _ low.same high.same marked c.has_no_range.ensures in
    let z = taken a.low.now a.high.now a.step.now low.long high.long good well (r ∙ c.if-has_no_range.false) in
    let ok = accepted a.low.now a.high.now a.step.now (sym z) in
    held_as c.in-Window.is (made_held a.step.now c.new.result c.as_target-target.result c.new.ensures c.as_target-target.ensures ok.step_good)

pub returns-clause-number : goal.returns-clause-number
returns-clause-number c =
    let a = c.args in
    let low = c.in-Some.ensures.cases in
    let high = c.in-Some-as_array.ensures.cases in
    let good = at a.step.now a.low.now _ low.same c.in_ok-number_with_target.ensures in
    let well = at a.step.now a.high.now _ high.same c.in_ok-number_with_target-2.ensures in
    let marked : is_window a.step.now ≡ true
    = sym (made_marked a.step.now c.new.result c.as_target-target.result c.new.ensures c.as_target-target.ensures)
    ∙ ap (λ t. by_window (held_target t)) c.in-Window.is in
    let r = ranged a.step.now a.low.now a.high.now _ _ low.same high.same marked c.has_no_range.ensures in
    taken a.low.now a.high.now a.step.now low.long high.long good well (r ∙ c.if-has_no_range.false)

pub returns-clause-run : goal.returns-clause-run
returns-clause-run c =
    let a = c.args in
    let target = sym (ap held_target c.in-Window.is) ∙ made_target a.step.now c.new.result c.as_target-target.result c.new.ensures c.as_target-target.ensures in
    c.run.ensures ∙ rw (c.in-Some.ensures.cases.same, c.in-Some-as_array.ensures.cases.same) (ap (accepted_bounds a.low.now a.high.now) target)
