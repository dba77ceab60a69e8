-- What `init` answers, by its numbers.
--     costs_refused, step_refused, accepts    each way to answer
--     promised                                with each answer goes what an accepted field is, what it is once built, the arrows made of it, and a refused one
-- Assumes nothing.
use mathlib.Core.Path.{◌≡◌}
use mathlib.Core.List.{List}
use Prim.Native.Nat.{ℕ, ◌≤◌, ◌<◌}
use lib.ListN.{length, get_or}
use borrow.Author.Tests.{eq-eqb, ne_eqb}
use Rattle.route.specs.Step.{step_number_on}
use Rattle.route.specs.Target.{target_of}
use Rattle.integration_field.specs.Promise.{ZeroField}
use Rattle.integration_started.specs.declared.InitAnswer.{InitAnswer}
use Rattle.integration_started.specs.Started.{started, init_number, init_refused, init_accepted, init_answer, StartedField}
use Rattle.integration_started.proofs.Started.{answer_told, init_refused_law}
use Rattle.integration_walks.specs.Promise.{OnceBuilt}
use Rattle.integration_walks.proofs.Promise.{once_built}
use Rattle.flow_arrows.specs.Promise.{OnceBuiltArrows}
use Rattle.flow_arrows.proofs.Lead.{once_built_arrows}

module _ (costs step : List ℕ) where
  pub costs_refused : (length costs ≡ 100 → ⊥) → init_refused 1 ≡ init_answer costs step
  unfolding init_answer init_number
  costs_refused h = rw (ne_eqb (length costs) 100 h)

  module _ (hundred : length costs ≡ 100) where
    pub step_refused : (step_number_on costs step ≡ 0 → ⊥) → init_refused (step_number_on costs step) ≡ init_answer costs step
    unfolding init_answer init_number
    step_refused h = rw (eq-eqb (length costs) 100 hundred, ne_eqb (step_number_on costs step) 0 h)

    pub accepts : step_number_on costs step ≡ 0 → init_accepted (started costs (target_of step)) ≡ init_answer costs step
    unfolding init_answer init_number
    accepts e = rw (eq-eqb (length costs) 100 hundred, e)

  -- costs are bytes
  pub promised : ((x : ℕ) → x < 100 → get_or costs x 0 ≤ 255) → (r : InitAnswer) → r ≡ init_answer costs step
      → (r ≡ init_answer costs step)
      × ((r.number ≡ 0 → StartedField costs (target_of step) r.field)
      × ((r.number ≡ 0 → OnceBuilt costs (target_of step) r.field)
      × ((r.number ≡ 0 → OnceBuiltArrows costs step r.field) × ((r.number ≡ 0 → ⊥) → ZeroField r.field))))
  promised byte r e =
      (e, (answer_told costs step r e, (once_built costs step r e, (once_built_arrows costs byte step r e, init_refused_law costs step r e))))
