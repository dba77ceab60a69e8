-- The offset of the minor coordinate: what `nearest` and `offset_at` give, and that Bresenham's difference finds it, of any pair.
-- Assumes nothing.
use mathlib.Core.Path.{◌≡◌, refl, sym, ap, ◌∙◌}
use mathlib.Core.Bool.{Bool, true, false}
use Prim.Native.Nat.{ℕ, zero, suc, ◌+◌, ◌-◌, ◌*◌, ◌/◌, ◌<◌, ◌≤◌, min}
use native.Mathlib.Nat.{div-zero, div-eq_of_lt-le, div-mul-le_self, lt-mul-div-succ, lt_of_mul-lt-mul_left, le_of_lt}
use native.Mathlib.Nat.{mul_comm, mul_left_comm, mul_assoc, mul-add, add-mul, one-mul, mul-one, zero-mul, mul-zero, mul-le-mul_left, mul-le-mul_right}
use native.Mathlib.Omega.{arith}
use lib.Dec.{leb}
use borrow.Author.Tests.{leb-true, leb-false}
use Rattle.line_nearest.specs.Line.{distance, toward, nearest, offset_at, minor_at}
use Rattle.line_nearest.specs.Nearest.{Between, NearestTo}

-- q is x / (2 * m), from the two bounds
quotient : (m q x : ℕ) → 0 < m → 2 * (m * q) ≤ x → x < 2 * (m * q) + 2 * m → q ≡ x / (2 * m)
quotient m q x p a b =
    let e : q * (2 * m) ≡ 2 * (m * q) = mul_left_comm q 2 m ∙ ap (λ (z : ℕ). 2 * z) (mul_comm q m) in
    let f : (q + 1) * (2 * m) ≡ q * (2 * m) + 1 * (2 * m) = add-mul q 1 (2 * m) in
    sym (div-eq_of_lt-le (2 * m) (omega arith) (omega arith))

-- the same, and 0 where m is
quotient₀ : (m q x : ℕ) → (0 < m → (2 * (m * q) ≤ x) × (x < 2 * (m * q) + 2 * m)) → (m ≡ 0 → q ≡ 0) → q ≡ x / (2 * m)
quotient₀ zero q x b z = z refl ∙ sym (div-zero x)
quotient₀ (suc m) q x b z = let p : 0 < suc m = omega arith in quotient (suc m) q x p (b p).0 (b p).1

flat : (d m k : ℕ) → m ≡ 0 → nearest d m k ≡ 0
unfolding nearest
flat d m k e = rw e (div-zero _)

-- the two bounds of the nearest number
pub record Bounds (d m k y : ℕ) : Type 0 where
  pub lower : 2 * (m * y) ≤ 2 * (k * d) + m - 1
  pub upper : 2 * (k * d) + m - 1 < 2 * (m * y) + 2 * m

pub bounds : (d m k : ℕ) → 0 < m → Bounds d m k (nearest d m k)
unfolding nearest
bounds d m k p =
    let x = 2 * (k * d) + m - 1 in
    let y = x / (2 * m) in
    let e : y * (2 * m) ≡ 2 * (m * y) = mul_left_comm y 2 m ∙ ap (λ (z : ℕ). 2 * z) (mul_comm y m) in
    let f : 2 * m * (y + 1) ≡ 2 * m * y + 2 * m * 1 = mul-add (2 * m) y 1 in
    let g : 2 * m * y ≡ 2 * (m * y) = mul_assoc 2 m y in
    let l : y * (2 * m) ≤ x = div-mul-le_self x (2 * m) in
    let q : 0 < 2 * m = omega arith in
    let u : x < 2 * m * (y + 1) = lt-mul-div-succ x q in
    record { lower = omega arith; upper = omega arith }

-- it is the nearest, and no other number is
pub nearest_is : (d m k : ℕ) → 0 < m → NearestTo d m k (nearest d m k)
nearest_is d m k p =
    let b = bounds d m k p in
    let l = b.lower in
    let u = b.upper in
    record { half_at_most = omega arith; half_smaller = λ e. omega arith }

pub nearest_only : (d m k y : ℕ) → 0 < m → NearestTo d m k y → y ≡ nearest d m k
unfolding nearest
nearest_only d m k y p n =
    let h = n.half_at_most in
    let lower : 2 * (m * y) ≤ 2 * (k * d) + m - 1 = go (leb (m * y) (k * d)) refl in
    quotient m y (2 * (k * d) + m - 1) p lower (omega arith)
  where
    go : (t : Bool) → leb (m * y) (k * d) ≡ t → 2 * (m * y) ≤ 2 * (k * d) + m - 1
    go true e = let l = leb-true (m * y) (k * d) e in omega arith
    go false e =
        let l = leb-false (m * y) (k * d) e in
        let h = n.half_at_most in
        let s : 2 * distance (k * d) (m * y) ≡ m → ⊥ = λ e. let z = n.half_smaller e in omega arith in
        omega (arith, s)

pub nearest_start : (d m : ℕ) → nearest d m 0 ≡ 0
unfolding nearest
nearest_start d m =
    let z : 0 * d ≡ 0 = zero-mul d in
    let y : m * 0 ≡ 0 = mul-zero m in
    sym (quotient₀ m 0 (2 * (0 * d) + m - 1) (λ p. (omega arith, omega arith)) (λ e. refl))

pub nearest_end : (d m : ℕ) → d ≤ m → nearest d m m ≡ d
unfolding nearest
nearest_end d m h = sym (quotient₀ m d (2 * (m * d) + m - 1) (λ p. (omega arith, omega arith)) (λ e. omega arith))

-- two numbers compared by their products
at_most : (m x y : ℕ) → suc m * x < suc m * y + suc m → x ≤ y
at_most m x y h =
    let q : suc m * (y + 1) ≡ suc m * y + suc m * 1 = mul-add (suc m) y 1 in
    let l : suc m * x < suc m * (y + 1) = omega arith in
    let z = lt_of_mul-lt-mul_left (suc m) l in
    omega arith

-- up to the last step an offset is at most the whole span
pub nearest_le : (d m k : ℕ) → k ≤ m → nearest d m k ≤ d
nearest_le d zero k h = rw (flat d zero k refl) (omega arith)
nearest_le d (suc m) k h =
    let b = bounds d (suc m) k (omega arith) in
    let p : k * d ≤ suc m * d = mul-le-mul_right d h in
    at_most m (nearest d (suc m) k) d (omega arith)

-- and from the last step on at least that
pub nearest_ge : (d m k : ℕ) → 0 < m → m ≤ k → d ≤ nearest d m k
nearest_ge d zero k p h = absurd (omega arith)
nearest_ge d (suc m) k p h =
    let b = bounds d (suc m) k p in
    let u = b.upper in
    let q : suc m * d ≤ k * d = mul-le-mul_right d h in
    at_most m d (nearest d (suc m) k) (omega arith)

next : (d k : ℕ) → (k + 1) * d ≡ k * d + d
next d k = add-mul k 1 d ∙ ap (λ (z : ℕ). k * d + z) (one-mul d)

-- from one step to the next an offset stays, or grows by one
pub record Grows (y z : ℕ) : Type 0 where
  pub stays : y ≤ z
  pub grown : z ≤ y + 1

pub nearest_grows : (d m k : ℕ) → d ≤ m → Grows (nearest d m k) (nearest d m (k + 1))
nearest_grows d zero k n = rw (flat d zero k refl, flat d zero (k + 1) refl) (record { stays = omega arith; grown = omega arith })
nearest_grows d (suc m) k n =
    let y = nearest d (suc m) k in
    let z = nearest d (suc m) (k + 1) in
    let b = bounds d (suc m) k (omega arith) in
    let c = bounds d (suc m) (k + 1) (omega arith) in
    let e = next d k in
    let q : suc m * (y + 1) ≡ suc m * y + suc m * 1 = mul-add (suc m) y 1 in
    record { stays = at_most m y z (omega arith); grown = at_most m z (y + 1) (omega arith) }

-- the offset of a walk that is no wider than long is the nearest number, and that of a wider one is the step
narrow_few : (d m k : ℕ) → d ≤ m → nearest d m k ≤ k
narrow_few d zero k n = rw (flat d zero k refl) (omega arith)
narrow_few d (suc m) k n =
    let b = bounds d (suc m) k (omega arith) in
    let p : k * d ≤ k * suc m = mul-le-mul_left k n in
    let e : k * suc m ≡ suc m * k = mul_comm k (suc m) in
    at_most m (nearest d (suc m) k) k (omega arith)

wide_many : (d m k : ℕ) → m < d → k ≤ m → k ≤ nearest d m k
wide_many d zero k n h = omega arith
wide_many d (suc m) k n h =
    let b = bounds d (suc m) k (omega arith) in
    let p : k * suc m ≤ k * d = mul-le-mul_left k (le_of_lt n) in
    let e : k * suc m ≡ suc m * k = mul_comm k (suc m) in
    at_most m k (nearest d (suc m) k) (omega arith)

pub narrow_offset : (d m k : ℕ) → d ≤ m → offset_at d m k ≡ nearest d m k
narrow_offset d m k n = let h = narrow_few d m k n in omega arith

-- What holds at step k of the walk, of the offset and of the Rust's difference plus twice the span.
-- A walk wider than long has gained one at each step; of any other the difference tells which number is the nearest.
pub record State (d m k offset difference : ℕ) : Type 0 where
  pub few : offset ≤ k
  pub balance : difference + 2 * (m * offset) ≡ 2 * (k * d) + 2 * d + m
  pub low : 2 * d + min 1 m ≤ difference
  pub high : d ≤ m → difference ≤ 2 * d + 2 * m
  pub wide : m < d → offset ≡ k

module _ (d m : ℕ) where
  pub start : State d m 0 0 (2 * d + m)
  start =
      let z : 0 * d ≡ 0 = zero-mul d in
      let y : m * 0 ≡ 0 = mul-zero m in
      record { few = omega arith; balance = omega arith; low = omega arith; high = λ n. omega arith; wide = λ n. refl }

  module _ {k o e : ℕ} (s : State d m k o e) where
    narrow_at : d ≤ m → k ≤ m → o ≡ nearest d m k
    unfolding nearest
    narrow_at n h =
        let f = s.balance in
        let l = s.low in
        let g = s.high n in
        let i = s.few in
        quotient₀ m o (2 * (k * d) + m - 1) (λ p. (omega arith, omega arith)) (λ z. omega arith)

    pub at_step : k ≤ m → o ≡ offset_at d m k
    at_step h = go (leb d m) refl
      where
        go : (t : Bool) → leb d m ≡ t → o ≡ offset_at d m k
        go true e = let n = leb-true d m e in narrow_at n h ∙ sym (narrow_offset d m k n)
        go false e =
            let n = leb-false d m e in
            let w = s.wide n in
            let g = wide_many d m k n h in
            omega arith

    pub within : k ≤ m → o ≤ d
    within h =
        let a = at_step h in
        let n = nearest_le d m k h in
        omega arith

    pub up : 2 * m < e → State d m (k + 1) (o + 1) (e + 2 * d - 2 * m)
    up h =
        let a : m * (o + 1) ≡ m * o + m = mul-add m o 1 ∙ ap (λ (z : ℕ). m * o + z) (mul-one m) in
        let b : (k + 1) * d ≡ k * d + d = next d k in
        let f = s.balance in
        let l = s.low in
        let i = s.few in
        record {
          few = omega arith;
          balance = omega arith;
          low = omega arith;
          high = λ n. let g = s.high n in omega arith;
          wide = λ n. let w = s.wide n in omega arith;
        }

    pub level : e ≤ 2 * m → State d m (k + 1) o (e + 2 * d)
    level h =
        let b : (k + 1) * d ≡ k * d + d = next d k in
        let f = s.balance in
        let l = s.low in
        let i = s.few in
        record {
          few = omega arith;
          balance = omega arith;
          low = omega arith;
          high = λ n. omega arith;
          wide = λ n. absurd (omega arith);
        }

-- a coordinate on the way from a to b
toward_up : (a b o : ℕ) → a ≤ b → toward a b o ≡ a + min o (b - a)
unfolding toward
toward_up a b o h = omega arith

toward_down : (a b o : ℕ) → b ≤ a → toward a b o ≡ a - min o (a - b)
unfolding toward
toward_down a b o h = omega arith

distance_more : (a o : ℕ) → distance a (a + o) ≡ o
distance_more a o = omega arith

distance_less : (a o : ℕ) → o ≤ a → distance a (a - o) ≡ o
distance_less a o h = omega arith

near_more : (a u v : ℕ) → u ≤ v → v ≤ u + 1 → distance (a + u) (a + v) ≤ 1
near_more a u v p q = omega arith

near_less : (a u v : ℕ) → v ≤ a → u ≤ v → v ≤ u + 1 → distance (a - u) (a - v) ≤ 1
near_less a u v h p q = omega arith

pub toward_offset : (a b o : ℕ) → o ≤ distance a b → distance a (toward a b o) ≡ o
toward_offset a b o h = go (leb a b) refl
  where
    go : (t : Bool) → leb a b ≡ t → distance a (toward a b o) ≡ o
    go true e =
        let p = leb-true a b e in
        let q : min o (b - a) ≡ o = omega arith in
        rw (toward_up a b o p, q) (distance_more a o)
    go false e =
        let p = le_of_lt (leb-false a b e) in
        let q : min o (a - b) ≡ o = omega arith in
        rw (toward_down a b o p, q) (distance_less a o (omega arith))

toward_next : (a b y z : ℕ) → y ≤ z → z ≤ y + 1 → distance (toward a b y) (toward a b z) ≤ 1
toward_next a b y z u v = go (leb a b) refl
  where
    go : (t : Bool) → leb a b ≡ t → distance (toward a b y) (toward a b z) ≤ 1
    go true e =
        let p = leb-true a b e in
        rw (toward_up a b y p, toward_up a b z p) (near_more a (min y (b - a)) (min z (b - a)) (omega arith) (omega arith))
    go false e =
        let p = le_of_lt (leb-false a b e) in
        rw (toward_down a b y p, toward_down a b z p) (near_less a (min y (a - b)) (min z (a - b)) (omega arith) (omega arith) (omega arith))

toward_between : (a b o : ℕ) → Between a b (toward a b o)
unfolding toward
toward_between a b o = record { from = omega arith; to = omega arith }

-- the shorter coordinate: never outside the two ends, from the one to the other, and by one at most at each step
pub minor_between : (a b m k : ℕ) → Between a b (minor_at a b m k)
minor_between a b m k = toward_between a b (offset_at (distance a b) m k)

pub minor_start : (a b m : ℕ) → minor_at a b m 0 ≡ a
unfolding toward
minor_start a b m = let e = nearest_start (distance a b) m in omega arith

module _ (a b m : ℕ) (narrow : distance a b ≤ m) where
  pub minor_offset : (k : ℕ) → k ≤ m → distance a (minor_at a b m k) ≡ nearest (distance a b) m k
  minor_offset k h =
      rw (narrow_offset (distance a b) m k narrow) (toward_offset a b (nearest (distance a b) m k) (nearest_le (distance a b) m k h))

  pub minor_end : minor_at a b m m ≡ b
  unfolding toward
  minor_end = let e = nearest_end (distance a b) m narrow in omega arith

  pub minor_next : (k : ℕ) → distance (minor_at a b m k) (minor_at a b m (k + 1)) ≤ 1
  minor_next k =
      let g = nearest_grows (distance a b) m k narrow in
      rw (narrow_offset (distance a b) m k narrow, narrow_offset (distance a b) m (k + 1) narrow)
      (toward_next a b (nearest (distance a b) m k) (nearest (distance a b) m (k + 1)) g.stays g.grown)
