-- All that is promised of an answer that is a line of the table.
-- Assumes nothing.
use mathlib.Core.Path.{◌≡◌, refl}
use mathlib.Core.List.{List}
use Prim.Native.Nat.{ℕ, zero, suc, ◌<◌, ◌≤◌}
use lib.ListN.{length, get_or}
use Rattle.integration_field.specs.declared.IntegrationField.{IntegrationField}
use Rattle.integration_field.specs.declared.BuildAnswer.{BuildAnswer}
use Rattle.integration_field.specs.Listed.{list_of}
use Rattle.integration_field.specs.Answer.{refusal, answer_of, build_number, build_answer}
use Rattle.integration_field.specs.Promise.{LeastWalks, Counted, EarliestCorners, ListKept, BuildRefused}
use Rattle.integration_field.proofs.Answers.{answer_promises, list_kept, build_refused}
use Rattle.integration_walks.specs.Promise.{BuildsStarted}
use Rattle.integration_walks.proofs.Promise.{builds_started}
use Rattle.flow_arrows.specs.Promise.{StartedArrows}
use Rattle.flow_arrows.proofs.Lead.{started_arrows}

-- what is given: costs are bytes, and the field's arrays have a hundred places
pub record Given (costs : List ℕ) (f : IntegrationField) : Type 0 where
  pub byte : (x : ℕ) → x < 100 → get_or costs x 0 ≤ 255
  pub cells_hundred : length f.field ≡ 100
  pub corners_hundred : length f.los_corners ≡ 100

pub record Promises (costs : List ℕ) (f : IntegrationField) (r : BuildAnswer) : Type 0 where
  pub answer : r ≡ build_answer costs f
  pub least : r.number ≡ 0 → LeastWalks costs f.field (list_of f) r.field.field
  pub counted : r.number ≡ 0 → Counted costs f.field (list_of f) r.field.field r.waves
  pub positions : r.number ≡ 0 → EarliestCorners costs f.field (list_of f) r.field.field r.field.positions
  pub started : BuildsStarted costs f r
  pub arrows : StartedArrows costs f r.field.field
  pub list : r.number ≡ 0 → ListKept f r.field
  pub refused : (r.number ≡ 0 → ⊥) → BuildRefused r

module _ (costs : List ℕ) (f : IntegrationField) where
  pub promised : Given costs f → (r : BuildAnswer) → r ≡ build_answer costs f → Promises costs f r
  promised g r e =
      let p = answer_promises costs f g.cells_hundred r e in
      record {
        answer = e;
        least = p.1.0;
        counted = p.1.1.0;
        positions = p.1.1.1;
        started = builds_started costs f r e;
        arrows = started_arrows costs g.byte f r e;
        list = list_kept costs f g.corners_hundred r e;
        refused = build_refused (build_number costs f) costs f r e;
      }

  -- a number of the table but 0 answers a refusal
  pub is_refusal : (n : ℕ) → (n ≡ 0 → ⊥) → refusal n ≡ answer_of n costs f
  is_refusal zero h = absurd (h refl)
  is_refusal (suc n) h = refl
