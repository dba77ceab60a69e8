-- What building by hand answers (01, the table, and under it: a refusal answers its number with every other part of the answer zero).
-- Assumes nothing.
use Rattle.std.specs.Prelude.{◌≡◌, Bool, true, not, cond, ◌&&◌, ◌||◌, List, [], ◌∷◌, ℕ, zero, suc, ◌≤◌, ltb, eqb, length}
use Rattle.integration_field.specs.declared.IntegrationField.{IntegrationField}
use Rattle.integration_field.specs.declared.BuildAnswer.{BuildAnswer}
use Rattle.integration_field.specs.Listed.{list_of, zero_field}
use Rattle.integration_field.specs.Built.{built_field, wave_count}

-- a refused answer
abbrev pub refusal : ℕ → BuildAnswer
refusal n = record { number = n; field = zero_field; waves = 0 }

-- a number of the table as an answer: 0 is the built field and its count, any other a refusal
abbrev pub answer_of : ℕ → List ℕ → IntegrationField → BuildAnswer
answer_of zero costs f = record { number = 0; field = built_field costs f; waves = wave_count costs f }
answer_of (suc n) costs f = refusal (suc n)

-- each of the list is the index of a cell
unfoldable pub all_cells : List ℕ → Bool
all_cells [] = true
all_cells (x ∷ xs) = ltb x 100 && all_cells xs

-- building by hand: 1, cost bytes not 100; 11, corner count over 100, or a listed corner over 99
unfoldable pub build_number : List ℕ → IntegrationField → ℕ
build_number costs f = cond (not (eqb (length costs) 100)) 1 (cond (ltb 100 f.count || not (all_cells (list_of f))) 11 0)

-- what holds of a call that is not refused
pub record Accepted (costs : List ℕ) (f : IntegrationField) : Type 0 where
  pub costs_hundred : length costs ≡ 100
  pub count_in : f.count ≤ 100
  pub corners_in : all_cells (list_of f) ≡ true

-- what building by hand answers
abbrev pub build_answer : List ℕ → IntegrationField → BuildAnswer
build_answer costs f = answer_of (build_number costs f) costs f
