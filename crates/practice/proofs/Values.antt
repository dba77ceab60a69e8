-- The generator's values, place by place.
--     values_length              the places 0 to n are n + 1
--     next_adds, next_sums       the value behind a list, by its two rules
--     behind_adds, behind_sums   the same of the first places of an array
--     one_place_more             an array filled by one value more
--     generates, follows         the values keep to the request's words, and no other sequence does
-- Assumes nothing.
use Rattle.std.proofs.Common.{◌≡◌, ℕ, zero, suc, ◌+◌, ◌-◌, ◌%◌, ◌<◌, ◌≤◌, Bool, true, false, ltb, leb, List, [], ◌∷◌, length, get_or, take, set, sym, refl, ap, ◌∙◌, ap₂, add-one, arith, length-append, length-take-le, get_or-take, take-suc-set, take_at, ltb-false, ltb-true, le-ltb, lt-ltb, leb-false, leb-true}
use lib.ListN.{get_or-append}
use lib.Seq.{get_or_at}
use Rattle.practice.specs.Values.{wrapped_sum, next_value, values_to, practice_value}
use Rattle.practice.specs.Promise.{Generates}

pub values_length : (seed n : ℕ) → length (values_to seed n) ≡ suc n
unfolding values_to
values_length seed zero = refl
values_length seed (suc n) =
    let before = values_to seed n in
    omega (arith, length-append before (next_value before ∷ []), values_length seed n)

-- the places before the last
pub values_before : (seed n : ℕ) → take (suc n) (values_to seed (suc n)) ≡ values_to seed n
unfolding values_to
values_before seed n = take_at (values_to seed n) (next_value (values_to seed n) ∷ []) (suc n) (values_length seed n)

-- one of the first 55 adds to the value before it
pub next_adds : (values : List ℕ) (n : ℕ) → length values ≡ n + 1 → n < 54 → next_value values ≡ (get_or values n 0 + 2654435769) % 4294967296
unfolding next_value wrapped_sum
next_adds values n e h =
    rw (e, lt-ltb (n + 1) 55 (omega arith)) (ap (λ (k : ℕ). (get_or values k 0 + 2654435769) % 4294967296) (omega arith))

-- a later one is the sum of those 24 and 55 places before it
pub next_sums : (values : List ℕ) (n : ℕ) → length values ≡ n + 55 → next_value values ≡ (get_or values (n + 31) 0 + get_or values n 0) % 4294967296
unfolding next_value wrapped_sum
next_sums values n e =
    rw (e, le-ltb (n + 55) 55 (omega arith)) (ap₂ (λ (j k : ℕ). (get_or values j 0 + get_or values k 0) % 4294967296) (omega arith) (omega arith))

-- the value behind the first n of an array, n being where it is to stand
module _ (values : List ℕ) (n : ℕ) (h : n ≤ length values) where
  long : length (take n values) ≡ n
  long = length-take-le n values h

  pub behind_adds : 1 ≤ n → n < 55 → (get_or values (n - 1) 0 + 2654435769) % 4294967296 ≡ next_value (take n values)
  behind_adds a b = rw (next_adds (take n values) (n - 1) (omega (arith, long)) (omega arith), get_or-take n values (n - 1) 0 (omega arith))

  pub behind_sums : 55 ≤ n → (get_or values (n - 24) 0 + get_or values (n - 55) 0) % 4294967296 ≡ next_value (take n values)
  behind_sums a =
      let k : n - 55 + 31 ≡ n - 24 = omega arith in
      let summed = next_sums (take n values) (n - 55) (omega (arith, long)) in
      rw (summed, k, get_or-take n values (n - 24) 0 (omega arith), get_or-take n values (n - 55) 0 (omega arith))

-- an array that holds the places before n, with the value of place n written
pub one_place_more : (seed n x : ℕ) (values : List ℕ) → 1 ≤ n → n < length values → x ≡ next_value (take n values)
    → take n values ≡ values_to seed (n - 1) → take (n + 1) (set values n x) ≡ values_to seed (n + 1 - 1)
unfolding values_to
one_place_more seed zero x values a h e t = absurd (omega arith)
one_place_more seed (suc n) x values a h e t =
    let j : suc n - 1 ≡ n = omega arith in
    let k : suc (suc n) - 1 ≡ suc n = omega arith in
    rw (add-one (suc n), k) (take-suc-set values (suc n) x h ∙ rw (e, t, j))

-- one list more: the values before stay, and the newest is the one behind them
module _ (seed m : ℕ) where
  kept : (n : ℕ) → n ≤ m → get_or (values_to seed (suc m)) n 0 ≡ get_or (values_to seed m) n 0
  unfolding values_to
  kept n h = get_or-append (values_to seed m) (next_value (values_to seed m) ∷ []) 0 n (omega (arith, values_length seed m))

  newest : practice_value seed (suc m) ≡ next_value (values_to seed m)
  unfolding values_to practice_value
  newest = get_or_at (values_to seed m) (next_value (values_to seed m)) [] 0 (suc m) (values_length seed m)

  by_place : (v : ℕ → ℕ) → ((n : ℕ) → n ≤ m → get_or (values_to seed m) n 0 ≡ v n) → practice_value seed (suc m) ≡ v (suc m)
      → (n : ℕ) → n ≤ suc m → get_or (values_to seed (suc m)) n 0 ≡ v n
  unfolding practice_value
  by_place v before last n h = go (leb n m) refl
    where
      go : (t : Bool) → leb n m ≡ t → get_or (values_to seed (suc m)) n 0 ≡ v n
      go true e = let p = leb-true n m e in kept n p ∙ before n p
      go false e =
          let p = leb-false n m e in
          let k : n ≡ suc m = omega arith in
          rw k last

-- a place's value is the same in every longer list
pub same_value : (seed m n : ℕ) → n ≤ m → get_or (values_to seed m) n 0 ≡ practice_value seed n
unfolding practice_value
same_value seed zero n h = let e : n ≡ 0 = omega arith in rw e
same_value seed (suc m) n h = by_place seed m (practice_value seed) (same_value seed m) refl n h

-- the request's three rules
module _ (seed : ℕ) where
  first_value : practice_value seed 0 ≡ seed
  unfolding practice_value values_to
  first_value = refl

  value_adds : (n : ℕ) → n < 54 → practice_value seed (n + 1) ≡ (practice_value seed n + 2654435769) % 4294967296
  value_adds n h =
      let added = next_adds (values_to seed n) n (omega (arith, values_length seed n)) h in
      rw (add-one n, newest seed n, added, same_value seed n n (omega arith))

  value_sums : (n : ℕ) → practice_value seed (n + 55) ≡ (practice_value seed (n + 31) + practice_value seed n) % 4294967296
  value_sums n =
      let m = n + 54 in
      let k : n + 55 ≡ suc m = omega arith in
      let summed = next_sums (values_to seed m) n (omega (arith, values_length seed m)) in
      rw (k, newest seed m, summed, same_value seed m (n + 31) (omega arith), same_value seed m n (omega arith))

  pub generates : Generates seed (practice_value seed)
  generates = record { first = first_value; adds = value_adds; sums = value_sums }

-- every sequence that keeps to the request's words has these values
module _ (seed : ℕ) (v : ℕ → ℕ) (g : Generates seed v) where
  next_follows : (m : ℕ) → ((n : ℕ) → n ≤ m → get_or (values_to seed m) n 0 ≡ v n) → next_value (values_to seed m) ≡ v (suc m)
  next_follows m before = go (ltb m 54) refl
    where
      long : length (values_to seed m) ≡ suc m
      long = values_length seed m

      go : (t : Bool) → ltb m 54 ≡ t → next_value (values_to seed m) ≡ v (suc m)
      go true e =
          let p = ltb-true m 54 e in
          next_adds (values_to seed m) m (omega (arith, long)) p ∙ rw (before m (omega arith), ← (add-one m)) (sym (g.adds m p))
      go false e =
          let p = ltb-false m 54 e in
          let n = m - 54 in
          let k : suc m ≡ n + 55 = omega arith in
          next_sums (values_to seed m) n (long ∙ k)
          ∙ rw (before (n + 31) (omega arith), before n (omega arith), k) (sym (g.sums n))

  pub follows : (m n : ℕ) → n ≤ m → get_or (values_to seed m) n 0 ≡ v n
  unfolding values_to
  follows zero n h = let e : n ≡ 0 = omega arith in rw e (sym g.first)
  follows (suc m) n h = by_place seed m v (follows m) (newest seed m ∙ next_follows m (follows m)) n h
