-- A previous field as C lends it, a yes or no beside numbers, and as the calls beneath take it, an Option.
--     some_lent, given_lent    the one as the other
--     number_lent, sheet_lent  the flow call's number and sheet go by either
-- Assumes nothing.
use Rattle.std.proofs.Common.{◌≡◌, ℕ, Bool, true, false, List, Bor, is_some, refl, sym}
use mathlib.Core.Bool.{true≢false}
use Rattle.std.specs.Bool.{then_some}
use Rattle.flow_byte.specs.Previous.{given}
use Rattle.flow_byte.specs.New.{new_bytes, new_byte, window_bits}
use Rattle.flow_new.specs.Flow.{new_number, new_sheet}

module _ (previous : Bor (List ℕ)) where
  pub some_lent : (has : Bool) → is_some (then_some has previous) ≡ has
  some_lent true = refl
  some_lent false = refl

  pub given_lent : (has : Bool) → has ≡ true → given (then_some has previous) ≡ previous.now
  given_lent true e = refl
  given_lent false e = absurd (true≢false (sym e))

module _ (step cells sheet : List ℕ) (previous : Bor (List ℕ)) where
  pub number_lent : (has : Bool) → new_number step (is_some (then_some has previous)) (given (then_some has previous)) sheet ≡ new_number step has previous.now sheet
  unfolding new_number
  number_lent true = refl
  number_lent false = refl

  pub sheet_lent : (has : Bool)
      → new_sheet step cells (is_some (then_some has previous)) (given (then_some has previous)) sheet ≡ new_sheet step cells has previous.now sheet
  unfolding new_number new_bytes new_byte window_bits
  sheet_lent true = refl
  sheet_lent false = refl
