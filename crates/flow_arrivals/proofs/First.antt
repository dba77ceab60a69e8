-- The first number of moves, in the words of the promise (`ComesFirst`): these laws say what their like in `specs/Decided.antt` say by its two facts.
--     first_there, first_further     where it is none, and one more than of the cell where a move leads
--     first_once                     it is one alone
--     first_few                      it is at most 99
-- Assumes nothing.
use Rattle.std.specs.Prelude.{◌≡◌, true, false, List, ℕ, zero, suc, ◌≤◌, get_or}
use Rattle.flow_arrivals.specs.Following.{is_arrival, Follows, ComesFirst}
use Rattle.flow_arrivals.specs.Decided.{there_first, further_first, once_first, few_first}

module _ (bytes : List ℕ) where
  pub first_there : {x : ℕ} → is_arrival (get_or bytes x 0) ≡ true → ComesFirst bytes zero x
  first_there e = let f = there_first bytes e in record { comes = f.0; no_fewer = f.1 }

  pub first_further : {n x y : ℕ} → is_arrival (get_or bytes x 0) ≡ false → Follows bytes x y → ComesFirst bytes n y → ComesFirst bytes (suc n) x
  first_further e f c = let g = further_first bytes e f (c.comes, c.no_fewer) in record { comes = g.0; no_fewer = g.1 }

  pub first_once : {n m x : ℕ} → ComesFirst bytes n x → ComesFirst bytes m x → n ≡ m
  first_once v w = once_first bytes (v.comes, v.no_fewer) (w.comes, w.no_fewer)

  pub first_few : {n x : ℕ} → ComesFirst bytes n x → n ≤ 99
  first_few v = few_first bytes (v.comes, v.no_fewer)
