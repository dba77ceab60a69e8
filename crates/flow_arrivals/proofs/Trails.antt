-- Trails tell the number of moves that is defined, once their moves decide.
--     first_made        the trail of one move is told by the cell's own byte
--     round_made        a round makes as many moves again, from all cells
--     short_made        a round may start from the trails of fewer than 100 moves
--     moves_followed    what a trail tells is the number of moves that is defined, where its moves decide
--     told_all          so do those of all cells
--     all_decide        where none of the trails has made all of its moves, they decide
-- Assumes nothing.
use mathlib.Core.Path.{◌≡◌, refl, ap, ◌∙◌}
use mathlib.Core.Bool.{Bool, true, false}
use mathlib.Core.Logic.{◌⊎◌, inl, inr}
use mathlib.Core.List.{List, map}
use Prim.Native.Nat.{ℕ, ◌+◌, ◌/◌, ◌%◌, ◌≤◌, ◌<◌}
use native.Mathlib.Omega.{arith}
use native.Mathlib.Decide.{dec_lt}
use lib.ListN.{get_or}
use borrow.Author.Tests.{lt-ltb, le-ltb}
use Rattle.utilities.specs.Lists.{below}
use Rattle.utilities.proofs.Lists.{table_at, table_same}
use Rattle.flow_arrivals.specs.Following.{is_arrival, ComesFirst, Arrival, arrives_after, arrives_never}
use Rattle.flow_arrivals.specs.Decided.{arrival}
use Rattle.flow_arrivals.specs.Arrivals.{moves_of, moves_from}
use Rattle.flow_arrivals.specs.Inner.{read_step, stepped_to, cell_after, moves_in, trail_after, first_trail, doubled_trail, ShortTrails, AllArrived, told_moves}
use Rattle.flow_arrivals.proofs.First.{first_few}
use Rattle.flow_arrivals.proofs.Followed.{stays, goes, one_made, after_inside, moves_most, cell_further, moves_further, made_first, made_all}

module _ (bytes : List ℕ) where
  -- ---- rounds

  module _ (n x : ℕ) (h : x < 100) where
    trail_moves : trail_after bytes n x / 256 ≡ moves_in bytes n x
    trail_moves = omega (arith, after_inside bytes n x h)

    trail_cell : trail_after bytes n x % 256 ≡ cell_after bytes n x
    trail_cell = omega (arith, after_inside bytes n x h)

  pub first_made : (x : ℕ) → first_trail (get_or bytes x 0) x ≡ trail_after bytes 1 x
  first_made x = pick (is_arrival (get_or bytes x 0)) refl
    where
      pick : (b : Bool) → is_arrival (get_or bytes x 0) ≡ b → first_trail (get_or bytes x 0) x ≡ trail_after bytes 1 x
      pick true e =
          let own : first_trail (get_or bytes x 0) x ≡ x = rw e in
          let move = stays bytes x e in
          omega (arith, own, move.0, move.1, (one_made bytes x).0, (one_made bytes x).1)
      pick false e =
          let own : first_trail (get_or bytes x 0) x ≡ 256 + stepped_to x (read_step bytes x) = rw e in
          let move = goes bytes x e (read_step bytes x) refl in
          omega (arith, own, move.0, move.1, (one_made bytes x).0, (one_made bytes x).1)

  -- the trails of all cells after n moves
  abbrev pub Made : ℕ → List ℕ → Type 0
  Made n trails = trails ≡ map (trail_after bytes n) (below 100)

  module _ (n : ℕ) (trails : List ℕ) (made : Made n trails) where
    trail_at : (x : ℕ) → x < 100 → get_or trails x 0 ≡ trail_after bytes n x
    trail_at x h = ap (λ (l : List ℕ). get_or l x 0) made ∙ table_at (trail_after bytes n) 0 100 x h

    cell_at : (x : ℕ) → x < 100 → get_or trails x 0 % 256 ≡ cell_after bytes n x
    cell_at x h = ap (λ (t : ℕ). t % 256) (trail_at x h) ∙ trail_cell n x h

    round_at : (x : ℕ) → x < 100 → doubled_trail trails x ≡ trail_after bytes (n + n) x
    round_at x h =
        let own : get_or trails x 0 / 256 ≡ moves_in bytes n x = ap (λ (t : ℕ). t / 256) (trail_at x h) ∙ trail_moves n x h in
        let on : get_or trails (get_or trails x 0 % 256) 0 ≡ trail_after bytes n (cell_after bytes n x)
        = ap (λ (k : ℕ). get_or trails k 0) (cell_at x h) ∙ trail_at (cell_after bytes n x) (after_inside bytes n x h) in
        omega (arith, own, on, moves_further bytes n n x, cell_further bytes n n x)

    pub round_made : {further : List ℕ} → further ≡ map (doubled_trail trails) (below 100) → Made (n + n) further
    round_made e = e ∙ table_same (doubled_trail trails) (trail_after bytes (n + n)) 100 round_at

    pub short_made : n < 100 → ShortTrails trails
    short_made few = record {
      leads = λ x h. omega (arith, cell_at x h, after_inside bytes n x h);
      few = λ x h. omega (arith, trail_at x h, moves_most bytes n x, after_inside bytes n x h);
    }

  -- ---- what is told

  -- n moves decide of a cell: it has arrived in fewer, or they are 100 or more
  abbrev pub Decides : ℕ → ℕ → Type 0
  Decides n x = (moves_in bytes n x < n) ⊎ (100 ≤ n)

  pub moves_followed : (n x : ℕ) → x < 100 → Decides n x → told_moves (trail_after bytes n x) ≡ moves_from bytes x
  unfolding moves_from
  moves_followed n x h d = pick (arrival bytes x) d
    where
      arrived : (j : ℕ) → ComesFirst bytes j x → Dec (n < j) → Decides n x → moves_in bytes n x ≡ j
      arrived j v (no s) d = made_first bytes n j x v (omega arith)
      arrived j v (yes s) (inl t) = absurd (omega (arith, made_all bytes n x h (λ m l c. v.no_fewer m (omega arith) c)))
      arrived j v (yes s) (inr t) = absurd (omega (arith, first_few bytes v))

      pick : (a : Arrival bytes x) → Decides n x → told_moves (trail_after bytes n x) ≡ moves_of a
      pick (arrives_after j c o) d =
          let v : ComesFirst bytes j x = record { comes = c; no_fewer = o } in
          let e : trail_after bytes n x / 256 ≡ j = trail_moves n x h ∙ arrived j v (dec_lt n j) d in
          rw (le-ltb 99 (trail_after bytes n x / 256) (omega (arith, first_few bytes v))) e
      pick (arrives_never o) (inl t) = absurd (omega (arith, made_all bytes n x h (λ m l c. o m c)))
      pick (arrives_never o) (inr t) =
          let e : trail_after bytes n x / 256 ≡ n = trail_moves n x h ∙ made_all bytes n x h (λ m l c. o m c) in
          rw (lt-ltb 99 (trail_after bytes n x / 256) (omega arith))

  module _ (n : ℕ) (trails : List ℕ) (made : Made n trails) where
    pub told_all : ((x : ℕ) → x < 100 → Decides n x) → {moves : List ℕ} → moves ≡ map (λ x. told_moves (get_or trails x 0)) (below 100)
        → moves ≡ map (moves_from bytes) (below 100)
    told_all d e =
        e
        ∙ table_same (λ x. told_moves (get_or trails x 0)) (moves_from bytes) 100
        (λ x h. ap told_moves (trail_at n trails made x h) ∙ moves_followed n x h (d x h))

    pub all_decide : AllArrived trails n → (x : ℕ) → x < 100 → Decides n x
    all_decide all x h = inl (omega (arith, all x h, trail_at n trails made x h))
