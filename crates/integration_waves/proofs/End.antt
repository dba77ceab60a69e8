-- The waves end.
--     waves_end       no wave after as many as there are cells: the cells that hold at most what a changed one does grow with each wave
--     few             the count of waves is below the number of cells
--     rests           running on changes nothing
--     least           no walk comes to less than what the last wave leaves
--     counted         wave i + 1 changes a cell if and only if i is below the count
-- Assumes nothing.
use mathlib.Core.Path.{◌≡◌}
use mathlib.Core.Bool.{false}
use mathlib.Core.Logic.{◌↔◌}
use Prim.Native.Nat.{ℕ, zero, suc, ◌+◌, ◌-◌, ◌≤◌, ◌<◌}
use native.Mathlib.Nat.{zero-add, suc-add}
use native.Mathlib.Omega.{arith}
use native.Mathlib.Decide.{dec_lt}
use lib.Dec.{leb}
use borrow.Author.Tests.{le-leb, lt-leb}
use Rattle.integration_waves.specs.Walks.{Grid, Walk, Below}
use Rattle.integration_waves.specs.Waves.{Changed, Waves, Ends}
use Rattle.integration_waves.proofs.Count.{count, count_le, count_more, leb_grows}
use Rattle.integration_waves.proofs.Least.{walk_above}

module _ (g : Grid) (Open : ℕ → Type 0) (value : ℕ → ℕ → ℕ) (w : Waves g Open value) where
  -- ---- a bound

  module _ (size : ℕ) (inside : (k x : ℕ) → Changed g Open value k x → x < size) where
    -- how many cells hold no more than x does; each wave that changes a cell finds one more
    rank : ℕ → ℕ → ℕ
    rank k x = count size (λ z. leb (value k z) (value k x))

    ranked : (k x : ℕ) → Changed g Open value k x → k < rank k x
    unfolding rank
    ranked zero x c = omega (
      arith,
      count_more size (λ z. false) (λ z. leb (value zero z) (value zero x)) (λ z. omega arith) x (inside zero x c)
          (rw (le-leb (value zero x) (value zero x) (omega arith)) (omega arith)),
    )
    ranked (suc k) x c =
        let h = w.offered k x c in
        let y = h.0 in
        omega (
          arith,
          ranked k y h.1,
          count_more size (λ z. leb (value k z) (value k y)) (λ z. leb (value (suc k) z) (value (suc k) x))
              (λ z. leb_grows (value k z) (value (suc k) z) (value k y) (value (suc k) x) (w.falls k z) (omega (arith, h.4)))
              x (inside (suc k) x c)
              (rw (lt-leb (value k x) (value k y) (omega (arith, h.4)), le-leb (value (suc k) x) (value (suc k) x) (omega arith)) (omega arith)),
        )

    pub waves_end : (k x : ℕ) → Changed g Open value k x → k < size
    unfolding rank
    waves_end k x c = omega (arith, ranked k x c, count_le size (λ z. leb (value k z) (value k x)))

    pub few : (n : ℕ) → 0 < size → Ends g Open value n → n < size
    few zero h e = h
    few (suc n) h e = let c = e.each n (omega arith) in waves_end (suc n) c.0 c.1

  -- ---- at rest

  module _ (n : ℕ) (ends : Ends g Open value n) where
    still_on : (d x : ℕ) → Changed g Open value (suc (d + n)) x → ⊥
    still_on zero x c = ends.still x (rw zero-add at c)
    still_on (suc d) x c = let h = w.offered (suc (d + n)) x (rw suc-add at c) in still_on d h.0 h.1

    pub rests : (d x : ℕ) → value (d + n) x ≡ value n x
    rests zero x = rw zero-add
    rests (suc d) x = rw suc-add (omega (arith, w.falls (d + n) x, still_on d x, rests d x))

    pub least : (j x s : ℕ) → Walk g (Below g Open) j x s → value n x ≤ s
    least j x s p = omega (arith, rests j x, walk_above g Open value w (j + n) j x s p (omega arith))

    pub counted : (i : ℕ) → (i < n) ↔ ((x : ℕ) × Changed g Open value (suc i) x)
    counted i = (ends.each i, λ c. go c (dec_lt i n))
      where
        go : (x : ℕ) × Changed g Open value (suc i) x → Dec (i < n) → i < n
        go c (yes h) = h
        go c (no h) = let e : (i - n) + n ≡ i = omega arith in absurd (still_on (i - n) c.0 (rw e c.1))
