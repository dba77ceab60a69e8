-- Window numbers in an array, and the sums of their moves: for the contracts of this crate's functions.
-- Assumes nothing.
use Rattle.std.specs.Prelude.{◌≡◌, cond, List, ℕ, zero, suc, ◌+◌, ◌<◌, ◌≤◌, eqb, length, get_or, Option, Some, None}
use Rattle.tour_sums.specs.declared.Tour.{Tour}
use Rattle.tour_sums.specs.Tours.{move_cost}
use Rattle.tour_sums.specs.Promise.{TourSquare}

-- each is a row of the square, and a place of a row
abbrev pub WindowNumbers : List ℕ → Type 0
WindowNumbers order = (i : ℕ) → get_or order i 0 < 8

-- what a move weighs: its cost, and for 65535 more than all moves of an order that counts
abbrev pub weight : ℕ → ℕ
weight cost = cond (eqb cost 65535) 524288 cost

-- the moves of an order up to place i, weighed
abbrev pub weighed : List (List ℕ) → List ℕ → ℕ → ℕ
weighed square order zero = 0
weighed square order (suc i) = weighed square order i + weight (move_cost square (get_or order i 0) (get_or order (suc i) 0))

-- the sums of an order's moves, kept for its first places
pub record SumsKept (square : List (List ℕ)) (order : List ℕ) (places : ℕ) (sums : List ℕ) : Type 0 where
  pub long : length sums ≡ 8
  pub each : (i : ℕ) → i < places → get_or sums i 0 ≡ weighed square order i

-- the moves from a place on can be summed: the sums before it are kept
pub record MovesReady (square : List (List ℕ)) (n : ℕ) (order : List ℕ) (from : ℕ) (sums : List ℕ) : Type 0 where
  pub square_held : TourSquare square n
  pub numbers : WindowNumbers order
  pub some : 1 ≤ from
  pub inside : from ≤ n
  pub kept : SumsKept square order from sums

-- the sum of the best order so far; 524288 where there is none
abbrev pub lowest : Option Tour → ℕ
lowest None = 524288
lowest (Some best) = best.sum

-- an order that is the best so far, with its sum
abbrev pub taken : List ℕ → ℕ → Option Tour
taken order sum = Some (record { order = order; sum = sum })
