-- Laws of the call.
--     accepts, refuses     all that it promises, of a sheet of 100 bytes and of any other
-- Assumes nothing.
use mathlib.Core.Path.{◌≡◌, refl}
use mathlib.Core.List.{List, map}
use Prim.Native.Nat.{ℕ}
use native.Mathlib.Omega.{arith}
use lib.ListN.{length, replicate}
use borrow.Author.Tests.{eq-eqb, ne_eqb}
use Rattle.utilities.specs.Lists.{below}
use Rattle.utilities.specs.Padded.{AllZero}
use Rattle.utilities.proofs.Padded.{all_zero}
use Rattle.flow_arrivals.specs.declared.Arrivals.{Arrivals}
use Rattle.flow_arrivals.specs.Arrivals.{moves_from, arrivals_answer}
use Rattle.flow_arrivals.specs.Promise.{ArrivalsTold}
use Rattle.flow_arrivals.proofs.Told as t
use Rattle.flow_arrivals_planned.specs.Promise.{WindowArrives, SightlessArrives, LegTold}
use Rattle.flow_arrivals_planned.proofs.Window.{window_arrives, sightless_arrives}
use Rattle.flow_arrivals_planned.proofs.Way.{leg_told}

-- the clauses of the call, by their names
pub record Promised (sheet : List ℕ) (r : Arrivals) : Type 0 where
  pub answer : r ≡ arrivals_answer sheet
  pub told : r.number ≡ 0 → ArrivalsTold sheet r.moves
  pub by_window : r.number ≡ 0 → WindowArrives sheet r.moves
  pub whole_way : r.number ≡ 0 → LegTold sheet r.moves
  pub without_sight : r.number ≡ 0 → SightlessArrives sheet r.moves
  pub refused : (r.number ≡ 0 → ⊥) → AllZero 0 r.moves

pub accepts : (sheet moves : List ℕ) → length sheet ≡ 100 → moves ≡ map (moves_from sheet) (below 100)
    → Promised sheet (record { number = 0; moves = moves })
unfolding arrivals_answer
accepts sheet moves full e =
    let so = t.told sheet moves e in
    record {
      answer = rw (eq-eqb (length sheet) 100 full, e);
      told = λ z. so;
      by_window = λ z. window_arrives sheet moves e;
      whole_way = λ z. leg_told sheet moves so;
      without_sight = λ z. sightless_arrives sheet moves e;
      refused = λ z. absurd (z refl);
    }

pub refuses : (sheet : List ℕ) (n : ℕ) → n ≡ 2 → (length sheet ≡ 100 → ⊥) → Promised sheet (record { number = n; moves = replicate 100 0 })
unfolding arrivals_answer
refuses sheet n e other =
    let no : n ≡ 0 → ⊥ = λ z. omega arith in
    record {
      answer = rw (e, ne_eqb (length sheet) 100 other);
      told = λ z. absurd (no z);
      by_window = λ z. absurd (no z);
      whole_way = λ z. absurd (no z);
      without_sight = λ z. absurd (no z);
      refused = λ z. all_zero 100 0;
    }
