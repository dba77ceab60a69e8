-- What is promised of the numbers of moves: they are told by the relation of following alone.
--     moves_any      the number does not depend on how it was decided
--     told           the promise
--     moves_few      where so many moves arrive, at most as many are answered
-- Assumes nothing.
use mathlib.Core.Path.{◌≡◌, refl, sym, ap, subst, ◌∙◌}
use mathlib.Core.Logic.{◌⊎◌, inl, inr}
use mathlib.Core.List.{List, map}
use Prim.Native.Nat.{ℕ, ◌≤◌, ◌<◌}
use native.Mathlib.Omega.{arith}
use native.Mathlib.Decide.{dec_lt}
use lib.ListN.{get_or}
use Rattle.utilities.specs.Lists.{below}
use Rattle.utilities.proofs.Lists.{table_at}
use Rattle.flow_arrivals.specs.Following.{Comes, ComesFirst, Arrival, arrives_after, arrives_never}
use Rattle.flow_arrivals.specs.Decided.{arrival}
use Rattle.flow_arrivals.specs.Arrivals.{moves_of, moves_from}
use Rattle.flow_arrivals.specs.Promise.{ArrivalsTold}
use Rattle.flow_arrivals.proofs.First.{first_once, first_few}

module _ (bytes : List ℕ) where
  pub moves_any : {x : ℕ} (a b : Arrival bytes x) → moves_of a ≡ moves_of b
  moves_any (arrives_after n c o) (arrives_after m d p) = first_once bytes (record { comes = c; no_fewer = o }) (record { comes = d; no_fewer = p })
  moves_any (arrives_after n c o) (arrives_never p) = absurd (p n c)
  moves_any (arrives_never o) (arrives_after m d p) = absurd (o m d)
  moves_any (arrives_never o) (arrives_never p) = refl

  -- ---- of one cell

  number_first : {x : ℕ} (a : Arrival bytes x) (n : ℕ) → n < 255 → moves_of a ≡ n → ComesFirst bytes n x
  number_first {x} (arrives_after m c o) n h e = subst (λ (k : ℕ). ComesFirst bytes k x) e (record { comes = c; no_fewer = o })
  number_first (arrives_never o) n h e = absurd (omega arith)

  first_number_law : {x : ℕ} (a : Arrival bytes x) (n : ℕ) → ComesFirst bytes n x → moves_of a ≡ n
  first_number_law (arrives_after m c o) n w = first_once bytes (record { comes = c; no_fewer = o }) w
  first_number_law (arrives_never o) n w = absurd (o n w.comes)

  number_never : {x : ℕ} (a : Arrival bytes x) → moves_of a ≡ 255 → (n : ℕ) → Comes bytes n x → ⊥
  number_never (arrives_after m c o) e = absurd (omega (arith, first_few bytes (record { comes = c; no_fewer = o })))
  number_never (arrives_never o) e = o

  never_number : {x : ℕ} (a : Arrival bytes x) → ((n : ℕ) → Comes bytes n x → ⊥) → moves_of a ≡ 255
  never_number (arrives_after m c p) o = absurd (o m c)
  never_number (arrives_never p) o = refl

  number_within : {x : ℕ} (a : Arrival bytes x) → (moves_of a ≤ 99) ⊎ (moves_of a ≡ 255)
  number_within (arrives_after m c o) = inl (first_few bytes (record { comes = c; no_fewer = o }))
  number_within (arrives_never o) = inr refl

  number_few : {x : ℕ} (a : Arrival bytes x) (n : ℕ) → Comes bytes n x → moves_of a ≤ n
  number_few (arrives_after m d o) n c = elim (dec_lt n m) [ yes p ↦ absurd (o n p c) | no p ↦ omega arith ]
  number_few (arrives_never o) n c = absurd (o n c)

  -- ---- of an answer

  module _ (moves : List ℕ) (answer : moves ≡ map (moves_from bytes) (below 100)) where
    number : (x : ℕ) → x < 100 → get_or moves x 0 ≡ moves_of (arrival bytes x)
    unfolding moves_from
    number x h = ap (λ (l : List ℕ). get_or l x 0) answer ∙ table_at (moves_from bytes) 0 100 x h

    pub told : ArrivalsTold bytes moves
    told = record {
      first = λ x h n l. (
        λ e. number_first (arrival bytes x) n l (sym (number x h) ∙ e),
        λ w. number x h ∙ first_number_law (arrival bytes x) n w,
      );
      not_ever = λ x h. (λ e. number_never (arrival bytes x) (sym (number x h) ∙ e), λ o. number x h ∙ never_number (arrival bytes x) o);
      within = λ x h. subst (λ (k : ℕ). (k ≤ 99) ⊎ (k ≡ 255)) (sym (number x h)) (number_within (arrival bytes x));
    }

    pub moves_few : (x : ℕ) → x < 100 → (n : ℕ) → Comes bytes n x → get_or moves x 0 ≤ n
    moves_few x h n c = omega (arith, number x h, number_few (arrival bytes x) n c)
