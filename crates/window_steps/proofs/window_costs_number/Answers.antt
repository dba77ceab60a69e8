-- How the number of a list of windows is shown to be the table's: at each return one line of the table decides, and none before it is due. The lines
-- of the steps come from the loop of `each_window_step`, whose invariant is that the steps from place k on decide.
--
-- `window_steps::window_costs_number` meets its contract: a line of the table at each return.
-- Assumes nothing.
use Rattle.std.proofs.Common.{◌≡◌, ℕ, ◌<◌, ◌/◌, ◌%◌, ◌≤◌, List, true, false, length, get_or, arith, sym, ap, ◌∙◌}
use lib.Dec.{ltb}
use borrow.Author.Tests.{lt-ltb, le-ltb, eq-eqb, ne_eqb}
use Rattle.route.specs.Table.{first_number}
use Rattle.route.specs.Step.{sector_of}
use Rattle.step_list.specs.Steps.{steps_of, step_of}
use Rattle.step_list.proofs.Steps.{steps_count, step_of_law, sector_at_law}
use Rattle.window_square.specs.Square.{window_step_rows, window_costs_number}
use Rattle.window_steps.proofs.window_costs_number.Goals as goal
use Rattle.window_steps.proofs.window_costs_number.Goals.{then-count-lt2-via-then-count-lt2, then-count-lt2-via-else-count-lt2+then-count-gt8}

-- 19 is not due for fewer than 2 steps; nor for more than 8
two : (steps : List ℕ) → 2 ≤ length steps / 8 → ltb (length (steps_of steps)) 2 ≡ false
two steps h = let e = steps_count steps in rw e (le-ltb _ 2 h)

eight : (steps : List ℕ) → length steps / 8 ≤ 8 → ltb 8 (length (steps_of steps)) ≡ false
eight steps h = let e = steps_count steps in rw e (le-ltb 8 _ h)

-- the first step's sector is the first byte
first_sector : (l : List ℕ) → 0 < length l / 8 → sector_of (step_of (steps_of l) 0) ≡ get_or l 0 0
first_sector l h = ap sector_of (step_of_law l 0 h) ∙ sector_at_law l 0

-- where none of 1, 3 and 19 is due, the lines of the steps decide
each_step : (costs steps : List ℕ) {n : ℕ} → length costs ≡ 100 → length steps % 8 ≡ 0 → 2 ≤ length steps / 8 → length steps / 8 ≤ 8
    → n ≡ first_number (window_step_rows costs (get_or steps 0 0) (steps_of steps)) → n ≡ window_costs_number costs steps
unfolding window_costs_number
each_step costs steps full whole some few e =
    let sector = sym (first_sector steps (omega arith)) in
    rw (eq-eqb _ 100 full, eq-eqb _ 0 whole, two steps some, eight steps few)
    (e ∙ ap (λ (k : ℕ). first_number (window_step_rows costs k (steps_of steps))) sector)

pub returns-then-costs-ne100 : goal.returns-then-costs-ne100
unfolding window_costs_number
returns-then-costs-ne100 c = rw (ne_eqb _ 100 c.if-costs-ne100.true)

pub returns-then-steps-ne0 : goal.returns-then-steps-ne0
unfolding window_costs_number
returns-then-steps-ne0 c = rw (eq-eqb _ 100 c.if-costs-ne100.false, ne_eqb _ 0 c.if-steps-ne0.true)

pub returns-then-count-lt2 : goal.returns-then-count-lt2
unfolding window_costs_number
returns-then-count-lt2 c =
    let steps = c.args.steps.now in
    let count = steps_count steps in
    elim c.then-count-lt2.branch [
      | then-count-lt2-via-then-count-lt2 w ↦
          let few : ltb (length (steps_of steps)) 2 ≡ true = rw count (lt-ltb _ 2 (omega (arith, w.if-count-lt2.true))) in
          rw (eq-eqb _ 100 c.if-costs-ne100.false, eq-eqb _ 0 c.if-steps-ne0.false, few)
      | then-count-lt2-via-else-count-lt2+then-count-gt8 w ↦
          let some = two steps (omega (arith, w.if-count-lt2.false)) in
          let many : ltb 8 (length (steps_of steps)) ≡ true = rw count (lt-ltb 8 _ (omega (arith, w.if-count-gt8.true))) in
          rw (eq-eqb _ 100 c.if-costs-ne100.false, eq-eqb _ 0 c.if-steps-ne0.false, some, many)
    ]

pub returns : goal.returns
returns c =
    each_step c.args.costs.now c.args.steps.now c.if-costs-ne100.false c.if-steps-ne0.false (omega (arith, c.if-count-lt2.false))
    (omega (arith, c.if-count-gt8.false)) c.each_window_step.ensures
