-- `integration_build::build` meets its contract: what is answered is what the definition says, and so all that it promises.
-- Assumes nothing.
use mathlib.Core.Path.{ap, ap₂, ◌∙◌}
use mathlib.Core.List.{List}
use Prim.Native.Nat.{ℕ}
use native.Mathlib.Omega.{arith}
use borrow.Author.Rules.{rules}
use Rattle.refusals.proofs.Numbers.{not_zero}
use Rattle.integration_field.specs.Answer.{refusal, answer_of}
use Rattle.integration_build.proofs.Promised.{Given, promised, is_refusal}
use Rattle.integration_build.proofs.build.Goals as goal

pub returns-in-Ok : goal.returns-in-Ok
returns-in-Ok c =
    let costs = c.args.costs.now in
    let f = c.args.field in
    let given : Given costs f = record { byte = λ x h. omega (arith, c.type_inv.costs x); cells_hundred = search rules; corners_hundred = search rules } in
    let is = c.in-Ok.ensures in
    let p = promised costs f given _ (c.build_with_positions.ensures ∙ ap₂ (λ (l : List ℕ) (n : ℕ). answer_of n l f) is.accepted.0 is.number) in
    record {
      answer = p.answer;
      least = p.least;
      counted = p.counted;
      positions = p.positions;
      started = p.started;
      arrows = p.arrows;
      list = p.list;
      refused = p.refused;
    }

pub returns-in-Err : goal.returns-in-Err
returns-in-Err c =
    let costs = c.args.costs.now in
    let f = c.args.field in
    let given : Given costs f = record { byte = λ x h. omega (arith, c.type_inv.costs x); cells_hundred = search rules; corners_hundred = search rules } in
    let is = c.refused.ensures
    ∙ ap refusal c.number.ensures
    ∙ is_refusal costs f _ (not_zero c.in-Err.refusal)
    ∙ ap (λ (n : ℕ). answer_of n costs f) c.in-Err.ensures.number in
    let p = promised costs f given _ is in
    record {
      answer = p.answer;
      least = p.least;
      counted = p.counted;
      positions = p.positions;
      started = p.started;
      arrows = p.arrows;
      list = p.list;
      refused = p.refused;
    }
