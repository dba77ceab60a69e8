-- Following by the direction that a byte reads as comes where its bits point, and its moves are those that are defined.
--     read_follows      where the direction steps to, the bits point at
--     follows_read      and the other way round
--     stays, goes       one move, by the byte of its cell
--     one_made          of n moves, one
--     after_inside      n moves lead to a cell of the sector
--     moves_most        at most n are made
--     cell_further, moves_further     m moves more are made from where n have led
--     made_first        where j moves and no fewer arrive, and n are enough, j are made
--     made_all          where fewer than n do not arrive, all are made
-- Assumes nothing.
use mathlib.Core.Path.{◌≡◌, refl, sym, ap, subst, ◌∙◌}
use mathlib.Core.Bool.{Bool, true, false, true≢false, not, ◌||◌}
use mathlib.Core.List.{List}
use Prim.Native.Nat.{ℕ, zero, suc, ◌+◌, ◌%◌, ◌≤◌, ◌<◌}
use native.Mathlib.Nat.{zero-add, suc-add}
use native.Mathlib.Omega.{arith}
use lib.Dec.{eqb}
use lib.ListN.{get_or}
use borrow.Author.Tests.{eqb-true}
use Rattle.utilities.specs.Compass.{points, all}
use Rattle.fields.specs.declared.FieldCell.{FieldCell}
use Rattle.std.specs.Prelude.{Option, Some, None}
use Rattle.fields.specs.Cell.{cell_at, index_of}
use Rattle.fields.specs.Steps.{Arrives}
use Rattle.fields.proofs.Steps.{stepped_cell, index_below, cell_of_index, index_of_cell}
use Rattle.route.proofs.Below.{holds_at}
use Rattle.flow_bits.specs.Byte.{bits_of, dir_with, dir_of}
use Rattle.flow_arrows.specs.Arrows.{Away}
use Rattle.flow_arrows.proofs.Moves.{away, reads_so}
use Rattle.flow_arrivals.specs.Following.{is_arrival, Follows, Comes, there, further, ComesFirst}
use Rattle.flow_arrivals.specs.Decided.{Begun, here, moved, begun}
use Rattle.flow_arrivals.specs.Inner.{read_step, stepped_to, next_of, move_of, cell_after, moves_in}
use Rattle.flow_arrivals.proofs.First.{first_once, first_there}

-- a direction that bits read as has those bits: computed once, for all sixteen
bits_back : (a : ℕ) → a < 16 → points (dir_with all a) ≡ true → bits_of (dir_with all a) ≡ a
bits_back a h e =
    let t : (not (points (dir_with all a)) || eqb (bits_of (dir_with all a)) a) ≡ true
    = holds_at 16 (λ a. not (points (dir_with all a)) || eqb (bits_of (dir_with all a)) a) refl a h in
    eqb-true (bits_of (dir_with all a)) a (rw e at t)

module _ (bytes : List ℕ) where
  pub read_follows : (x : ℕ) (c : FieldCell) → x < 100 → read_step bytes x ≡ Some c → Follows bytes x (index_of c)
  unfolding dir_of
  read_follows x c h e =
      let byte = get_or bytes x 0 in
      let d = dir_with all (byte % 16) in
      let a = stepped_cell (cell_at x) d c e in
      let back = cell_of_index c a.within in
      let bits = bits_back (byte % 16) (omega arith) a.pointing in
      let at = away d x (index_of c) (subst (Arrives (cell_at x) d) (sym back) a) in
      record { leaves = h; away = subst (λ (b : ℕ). Away b x (index_of c)) bits at; enters = index_below c a.within }

  pub follows_read : {x y : ℕ} → Follows bytes x y → read_step bytes x ≡ Some (cell_at y)
  follows_read {x} {y} f = reads_so (get_or bytes x 0) x y f.enters f.away

  -- ---- one move

  module _ (x : ℕ) where
    pub stays : is_arrival (get_or bytes x 0) ≡ true → (next_of bytes x ≡ x) × (move_of bytes x ≡ 0)
    stays e = (rw e, rw e)

    pub goes : is_arrival (get_or bytes x 0) ≡ false → (s : Option FieldCell) → read_step bytes x ≡ s → (next_of bytes x ≡ stepped_to x s) × (move_of bytes x ≡ 1)
    goes e s q = (rw (e, q), rw e)

    move_most : move_of bytes x ≤ 1
    move_most = pick (is_arrival (get_or bytes x 0)) refl
      where
        pick : (b : Bool) → is_arrival (get_or bytes x 0) ≡ b → move_of bytes x ≤ 1
        pick true e = omega (arith, (stays e).1)
        pick false e = omega (arith, (goes e (read_step bytes x) refl).1)

    next_inside : x < 100 → next_of bytes x < 100
    next_inside h = pick (is_arrival (get_or bytes x 0)) refl (read_step bytes x) refl
      where
        pick : (b : Bool) → is_arrival (get_or bytes x 0) ≡ b → (s : Option FieldCell) → read_step bytes x ≡ s → next_of bytes x < 100
        pick true e s q = omega (arith, (stays e).0)
        pick false e (Some c) q = omega (arith, (goes e (Some c) q).0, index_below c (stepped_cell _ _ c q).within)
        pick false e None q = omega (arith, (goes e None q).0)

  -- ---- n moves

  none_made : (x : ℕ) → (moves_in bytes zero x ≡ 0) × (cell_after bytes zero x ≡ x)
  unfolding moves_in cell_after
  none_made x = (refl, refl)

  module _ (n x : ℕ) where
    moves_more : moves_in bytes (suc n) x ≡ move_of bytes x + moves_in bytes n (next_of bytes x)
    unfolding moves_in
    moves_more = refl

    cell_more : cell_after bytes (suc n) x ≡ cell_after bytes n (next_of bytes x)
    unfolding cell_after
    cell_more = refl

  pub one_made : (x : ℕ) → (moves_in bytes 1 x ≡ move_of bytes x) × (cell_after bytes 1 x ≡ next_of bytes x)
  one_made x = (omega (arith, moves_more zero x, (none_made (next_of bytes x)).0), cell_more zero x ∙ (none_made (next_of bytes x)).1)

  pub after_inside : (n x : ℕ) → x < 100 → cell_after bytes n x < 100
  after_inside zero x h = omega (arith, (none_made x).1)
  after_inside (suc n) x h = omega (arith, cell_more n x, after_inside n (next_of bytes x) (next_inside x h))

  pub moves_most : (n x : ℕ) → moves_in bytes n x ≤ n
  moves_most zero x = omega (arith, (none_made x).0)
  moves_most (suc n) x = omega (arith, moves_more n x, move_most x, moves_most n (next_of bytes x))

  -- m moves more are made from where n have led
  pub cell_further : (n m x : ℕ) → cell_after bytes (n + m) x ≡ cell_after bytes m (cell_after bytes n x)
  cell_further zero m x = ap (λ (k : ℕ). cell_after bytes k x) (zero-add m) ∙ sym (ap (cell_after bytes m) (none_made x).1)
  cell_further (suc n) m x =
      ap (λ (k : ℕ). cell_after bytes k x) (suc-add n m)
      ∙ cell_more (n + m) x
      ∙ cell_further n m (next_of bytes x)
      ∙ sym (ap (cell_after bytes m) (cell_more n x))

  pub moves_further : (n m x : ℕ) → moves_in bytes (n + m) x ≡ moves_in bytes n x + moves_in bytes m (cell_after bytes n x)
  moves_further zero m x =
      omega (arith, ap (λ (k : ℕ). moves_in bytes k x) (zero-add m), (none_made x).0, ap (moves_in bytes m) (none_made x).1)
  moves_further (suc n) m x =
      omega (
        arith,
        ap (λ (k : ℕ). moves_in bytes k x) (suc-add n m),
        moves_more (n + m) x,
        moves_more n x,
        moves_further n m (next_of bytes x),
        ap (moves_in bytes m) (cell_more n x),
      )

  -- ---- where j moves and no fewer arrive

  after_move : {n x y : ℕ} → Follows bytes x y → Comes bytes n y → ((m : ℕ) → m < suc n → Comes bytes m x → ⊥) → ComesFirst bytes n y
  after_move f c o = record { comes = c; no_fewer = λ m h d. o (suc m) (omega arith) (further f d) }

  pub made_first : (n j x : ℕ) → ComesFirst bytes j x → j ≤ n → moves_in bytes n x ≡ j
  made_first zero j x v h = omega (arith, (none_made x).0)
  made_first (suc n) j x v h =
      pick (is_arrival (get_or bytes x 0)) refl (begun bytes v.comes) (λ m y w l. made_first n m y w l)
    where
      pick : (b : Bool) → is_arrival (get_or bytes x 0) ≡ b → Begun bytes j x
          → ((m y : ℕ) → ComesFirst bytes m y → m ≤ n → moves_in bytes n y ≡ m) → moves_in bytes (suc n) x ≡ j
      pick true e s rest =
          let z : j ≡ zero = first_once bytes v (first_there bytes e) in
          let own = stays x e in
          omega (arith, moves_more n x, own.1, ap (moves_in bytes n) own.0, rest zero x (first_there bytes e) (omega arith))
      pick false e (here t z) rest = absurd (true≢false (sym t ∙ e))
      pick false e (moved m y f c q) rest =
          let w = after_move f c (λ i l d. v.no_fewer i (omega arith) d) in
          let own = goes x e (Some (cell_at y)) (follows_read f) in
          let to : next_of bytes x ≡ y = own.0 ∙ index_of_cell y in
          omega (arith, moves_more n x, own.1, ap (moves_in bytes n) to, rest m y w (omega arith))

  -- ---- where none of fewer than n moves arrives

  pub made_all : (n x : ℕ) → x < 100 → ((m : ℕ) → m < n → Comes bytes m x → ⊥) → moves_in bytes n x ≡ n
  made_all zero x h o = (none_made x).0
  made_all (suc n) x h o = pick (is_arrival (get_or bytes x 0)) refl (read_step bytes x) refl (λ y l p. made_all n y l p)
    where
      pick : (b : Bool) → is_arrival (get_or bytes x 0) ≡ b → (s : Option FieldCell) → read_step bytes x ≡ s
          → ((y : ℕ) → y < 100 → ((m : ℕ) → m < n → Comes bytes m y → ⊥) → moves_in bytes n y ≡ n) → moves_in bytes (suc n) x ≡ suc n
      pick true e s q rest = absurd (o zero (omega arith) (there e))
      pick false e None q rest =
          let own = goes x e None q in
          omega (arith, moves_more n x, own.1, ap (moves_in bytes n) own.0, rest x h (λ m l d. o m (omega arith) d))
      pick false e (Some c) q rest =
          let f = read_follows x c h q in
          let own = goes x e (Some c) q in
          let all = rest (index_of c) f.enters (λ m l d. o (suc m) (omega arith) (further f d)) in
          omega (arith, moves_more n x, own.1, ap (moves_in bytes n) own.0, all)
