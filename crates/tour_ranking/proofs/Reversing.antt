-- Numbers reversed: a part of a list by the library's call; two numbers exchanged, and numbers reversed from both ends by exchanging them.
--     part_reversed                                   the numbers from one place up to another, the last of them first, and all else as it was
--     exchanged_first, -second, -other                what stands where after two numbers are exchanged
--     ends_start, ends_more                           the two ends, as they go towards each other
--     reversed_start, reversed_more, reversed_all     the numbers outside them are reversed: none at first, one more on each side, all
-- Assumes nothing.
use mathlib.Core.Path.{◌≡◌, refl, ◌∙◌}
use mathlib.Core.List.{List}
use Prim.Native.Nat.{ℕ, ◌+◌, ◌-◌, ◌<◌, ◌≤◌}
use native.Mathlib.Omega.{arith}
use native.Mathlib.Decide.{dec_lt, ℕ_discrete}
use lib.ListN.{length, get_or, set, length-set}
use lib.Seq.{get_or-set_same, get_or-set_other}
use borrow.Rule.Slice.PartMut.{put_mid, mid_of}
use Rattle.std.proofs.Common.{rules}
use mathlib.Core.List.{reverse}
use Rattle.std.proofs.lemmas.List.{length-reverse, places}
use Rattle.std.proofs.lemmas.List.Edits.{length-between}
use Rattle.tour_ranking.specs.Inner.{Reversed}

-- ---- a part reversed

module _ (l : List ℕ) (first n : ℕ) (some : first < n) (few : n ≤ length l) where
  abbrev part : List ℕ
  part = mid_of first (n - first) l

  abbrev turned : List ℕ
  turned = put_mid first (n - first) l (reverse part)

  part_length : length part ≡ n - first
  part_length = length-between l first n few

  turned_length : length (reverse part) ≡ n - first
  turned_length = length-reverse part ∙ part_length

  pub part_reversed : Reversed first (n - 1) l turned
  part_reversed =
      record {
        same_length = search (rules, places, turned_length);
        reversed = λ m a b. grind (arith, places, turned_length);
        below_same = λ m h. search (rules, places);
        above_same = λ m h. grind (arith, places, turned_length);
      }

-- ---- two numbers exchanged

module _ (l : List ℕ) (i j : ℕ) where
  abbrev pub exchanged : List ℕ
  exchanged = set (set l i (get_or l j 0)) j (get_or l i 0)

  pub exchanged_length : length exchanged ≡ length l
  exchanged_length = length-set (set l i (get_or l j 0)) j (get_or l i 0) ∙ length-set l i (get_or l j 0)

  pub exchanged_second : j < length l → get_or exchanged j 0 ≡ get_or l i 0
  exchanged_second h = get_or-set_same (set l i (get_or l j 0)) j (get_or l i 0) 0 (omega (arith, length-set l i (get_or l j 0)))

  pub exchanged_first : i < length l → (i ≡ j → ⊥) → get_or exchanged i 0 ≡ get_or l j 0
  exchanged_first h differ = get_or-set_other (set l i (get_or l j 0)) j i (get_or l i 0) 0 differ ∙ get_or-set_same l i (get_or l j 0) 0 h

  pub exchanged_other : (m : ℕ) → (m ≡ i → ⊥) → (m ≡ j → ⊥) → get_or exchanged m 0 ≡ get_or l m 0
  exchanged_other m not-i not-j =
      get_or-set_other (set l i (get_or l j 0)) j m (get_or l i 0) 0 not-j ∙ get_or-set_other l i m (get_or l j 0) 0 not-i

-- ---- the two ends

-- low is as far from the first place as high is from the last
pub record Ends (first last low high : ℕ) : Type 0 where
  pub sum : low + high ≡ first + last
  pub from : first ≤ low
  pub met : low ≤ high + 1

pub ends_start : (first last : ℕ) → first ≤ last → Ends first last first last
ends_start first last h = record { sum = refl; from = omega arith; met = omega arith }

pub ends_more : (first last low high : ℕ) → Ends first last low high → low < high → Ends first last (low + 1) (high - 1)
ends_more first last low high e h = record { sum = omega (arith, e.sum); from = omega (arith, e.from); met = omega arith }

-- ---- numbers reversed from both ends

-- those before `low` and behind `high` are reversed, and those between stand as they were
pub record Reversing (first last low high : ℕ) (before now : List ℕ) : Type 0 where
  pub long : length now ≡ 8
  pub same_length : length now ≡ length before
  pub lower : (m : ℕ) → first ≤ m → m < low → get_or now m 0 ≡ get_or before (first + last - m) 0
  pub upper : (m : ℕ) → high < m → m ≤ last → get_or now m 0 ≡ get_or before (first + last - m) 0
  pub between : (m : ℕ) → low ≤ m → m ≤ high → get_or now m 0 ≡ get_or before m 0
  pub below_same : (m : ℕ) → m < first → get_or now m 0 ≡ get_or before m 0
  pub above_same : (m : ℕ) → last < m → get_or now m 0 ≡ get_or before m 0

pub reversed_start : (first last : ℕ) (l : List ℕ) → length l ≡ 8 → Reversing first last first last l l
reversed_start first last l long =
    record {
      long = long;
      same_length = refl;
      lower = λ m a b. absurd (omega arith);
      upper = λ m a b. absurd (omega arith);
      between = λ m a b. refl;
      below_same = λ m a. refl;
      above_same = λ m a. refl;
    }

module _ (first last low high : ℕ) (before now : List ℕ) (e : Ends first last low high) (t : Reversing first last low high before now) where
  -- one number more on each side
  module _ (more : low < high) (few : last < 8) where
    abbrev swapped : List ℕ
    swapped = exchanged now low high

    inside : high < length now
    inside = omega (arith, e.sum, e.from, t.long)

    others : (m : ℕ) → (m ≡ low → ⊥) → (m ≡ high → ⊥) → get_or swapped m 0 ≡ get_or now m 0
    others m not_low not-high = exchanged_other now low high m not_low not-high

    lower_more : (m : ℕ) → first ≤ m → m < low + 1 → get_or swapped m 0 ≡ get_or before (first + last - m) 0
    lower_more m h l =
        let across : first + last - low ≡ high = omega (arith, e.sum) in
        elim (ℕ_discrete m low) [
          | yes same ↦ rw (same, across)
              (exchanged_first now low high (omega (arith, inside)) (λ d. omega arith) ∙ t.between high (omega arith) (omega arith))
          | no other ↦ others m other (λ d. omega arith) ∙ t.lower m h (omega arith)
        ]

    upper_more : (m : ℕ) → high - 1 < m → m ≤ last → get_or swapped m 0 ≡ get_or before (first + last - m) 0
    upper_more m h l =
        let across : first + last - high ≡ low = omega (arith, e.sum) in
        elim (ℕ_discrete m high) [
          | yes same ↦ rw (same, across) (exchanged_second now low high inside ∙ t.between low (omega arith) (omega arith))
          | no other ↦ others m (λ d. omega arith) other ∙ t.upper m (omega arith) l
        ]

    pub reversed_more : Reversing first last (low + 1) (high - 1) before swapped
    reversed_more =
        record {
          long = exchanged_length now low high ∙ t.long;
          same_length = exchanged_length now low high ∙ t.same_length;
          lower = lower_more;
          upper = upper_more;
          between = λ m h l. others m (λ d. omega arith) (λ d. omega arith) ∙ t.between m (omega arith) (omega arith);
          below_same = λ m h. others m (λ d. omega (arith, e.from)) (λ d. omega (arith, e.from)) ∙ t.below_same m h;
          above_same = λ m h. others m (λ d. omega (arith, e.sum, e.from)) (λ d. omega (arith, e.sum, e.from)) ∙ t.above_same m h;
        }

  -- where the ends have met, a number in the middle keeps its place
  pub reversed_all : high ≤ low → Reversed first last before now
  reversed_all met =
      record {
        same_length = t.same_length;
        reversed = λ m a b. elim (dec_lt m low) [
          | yes lower ↦ t.lower m a lower
          | no not_lower ↦ elim (dec_lt high m) [
            | yes upper ↦ t.upper m upper b
            | no not-upper ↦ middle m (omega arith) (omega arith)
          ]
        ];
        below_same = t.below_same;
        above_same = t.above_same;
      }
    where
      middle : (m : ℕ) → low ≤ m → m ≤ high → get_or now m 0 ≡ get_or before (first + last - m) 0
      middle m a b = let own : first + last - m ≡ m = omega (arith, e.sum) in rw own (t.between m a b)
