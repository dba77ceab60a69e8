-- The words that starting a field writes, and their flags.
-- Assumes nothing.
use mathlib.Core.Path.{◌≡◌, refl}
use mathlib.Core.List.{List, [], ◌∷◌}
use mathlib.Core.Bool.{Bool, true, false}
use Prim.Native.Nat.{ℕ, zero, suc, ◌/◌, ◌%◌, ◌^◌, ◌<◌}
use native.Mathlib.Omega.{arith}
use borrow.Author.Tests.{eq-eqb, ne_eqb}
use lib.ListN.{length, get_or}
use Rattle.integration_field.specs.Word.{flag, is_los, is_goal, is_blocked, is_impassable}
use Rattle.utilities.specs.Count.{bit}
use Rattle.integration_started.specs.Sight.{wall_or, walls, corner_word, sight_word}

flag_is : (k x : ℕ) (b : Bool) → x / 2 ^ k % 2 ≡ bit b → flag k x ≡ b
flag_is k x true e = eq-eqb (x / 2 ^ k % 2) 1 e
flag_is k x false e = ne_eqb (x / 2 ^ k % 2) 1 (λ o. omega arith)

pub record Flags (x : ℕ) (los goal blocked impassable : Bool) : Type 0 where
  pub los_is : is_los x ≡ los
  pub goal_is : is_goal x ≡ goal
  pub blocked_is : is_blocked x ≡ blocked
  pub impassable_is : is_impassable x ≡ impassable

flags : (x : ℕ) (los goal blocked impassable : Bool) → x / 2 ^ 16 % 2 ≡ bit los → x / 2 ^ 17 % 2 ≡ bit goal → x / 2 ^ 18 % 2 ≡ bit blocked
    → x / 2 ^ 25 % 2 ≡ bit impassable → Flags x los goal blocked impassable
flags x l g b i el eg eb ei = record {
  los_is = flag_is 16 x l el;
  goal_is = flag_is 17 x g eg;
  blocked_is = flag_is 18 x b eb;
  impassable_is = flag_is 25 x i ei;
}

pub corner_flags : (v : ℕ) → v < 0x10000 → Flags (corner_word v) false false true false
corner_flags v h = flags (corner_word v) false false true false (omega arith) (omega arith) (omega arith) (omega arith)

pub seen_flags : (v : ℕ) → v < 0x10000 → Flags (sight_word v) true false false false
seen_flags v h = flags (sight_word v) true false false false (omega arith) (omega arith) (omega arith) (omega arith)

-- a cell's word before goal or window cells are put
pub word_at : (l : List ℕ) (i : ℕ) → i < length l → get_or (walls l) i 0 ≡ wall_or (get_or l i 0)
unfolding walls
word_at [] i h = absurd (omega arith)
word_at (c ∷ l) zero h = refl
word_at (c ∷ l) (suc i) h = word_at l i (omega arith)
