-- A previous field lent as an Option, against one lent as a yes or no beside numbers: the numbers count only where one is lent.
--     number_none, sheet_none    without a previous field, what is lent in its place plays no part
--     lent_answer, lent_sheet    so an Option that holds the numbers where there are any gives the same answer and sheet
-- Assumes nothing.
use Rattle.std.proofs.Common.{◌≡◌, ℕ, Bool, true, false, List, Option, Bor, is_some, refl, ap}
use Rattle.route.specs.Step.{portal_of}
use Rattle.route.specs.Target.{Target, by_sight, target_of}
use Rattle.integration_field.specs.Answer.{answer_of}
use Rattle.integration_started.specs.Started.{started}
use Rattle.flow_byte.specs.Previous.{given}
use Rattle.sector.specs.Sector.{sector_number, sector_answer_by, sector_sheet_by}
use Rattle.sector.proofs.Planned.{none_read}

module _ (sight : Bool) (costs step sheet : List ℕ) where
  abbrev target : Target
  target = by_sight sight (target_of step)

  pub number_none : (previous other : List ℕ) → sector_number costs step false previous sheet ≡ sector_number costs step false other sheet
  unfolding sector_number
  number_none previous other = refl

  answer_none : (previous other : List ℕ) → sector_answer_by sight costs step false previous sheet ≡ sector_answer_by sight costs step false other sheet
  answer_none previous other = ap (λ (n : ℕ). answer_of n costs (started costs target)) (number_none previous other)

  pub sheet_none : (previous other : List ℕ) → sector_sheet_by sight costs step false previous sheet ≡ sector_sheet_by sight costs step false other sheet
  sheet_none previous other = rw (number_none previous other, none_read costs target (portal_of step) previous other)

  module _ (lent : Option (Bor (List ℕ))) (previous : List ℕ) where
    pub lent_answer : (has : Bool) → is_some lent ≡ has → (has ≡ true → given lent ≡ previous)
        → sector_answer_by sight costs step (is_some lent) (given lent) sheet ≡ sector_answer_by sight costs step has previous sheet
    lent_answer true e f = rw (e, f refl)
    lent_answer false e f = rw e (answer_none (given lent) previous)

    pub lent_sheet : (has : Bool) → is_some lent ≡ has → (has ≡ true → given lent ≡ previous)
        → sector_sheet_by sight costs step (is_some lent) (given lent) sheet ≡ sector_sheet_by sight costs step has previous sheet
    lent_sheet true e f = rw (e, f refl)
    lent_sheet false e f = rw e (sheet_none (given lent) previous)
