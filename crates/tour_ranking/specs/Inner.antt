-- Orders in an array, and the places at which the next order differs: for the contracts of this crate's functions.
-- Assumes nothing.
use Rattle.std.specs.Prelude.{◌≡◌, List, [], ℕ, ◌+◌, ◌-◌, ◌<◌, ◌≤◌, length, get_or, take}
use Rattle.utilities.specs.Padded.{padded}
use Rattle.tour_orders.specs.Orders.{orders}

-- the order at a place of the dictionary, in an array: 0 in the places behind it
abbrev pub order_at : ℕ → ℕ → List ℕ
order_at n place = padded 8 0 (get_or (orders n) place [])

-- the last of n places, but for the first, whose number is below the next
pub record LastRise (order : List ℕ) (n place : ℕ) : Type 0 where
  pub some : 1 ≤ place
  pub inside : place + 1 < n
  pub rises : get_or order place 0 < get_or order (place + 1) 0
  pub falls_behind : (m : ℕ) → place < m → m + 1 < n → get_or order (m + 1) 0 ≤ get_or order m 0

-- the last of n places whose number is above that at an earlier place
pub record LastAbove (order : List ℕ) (n at place : ℕ) : Type 0 where
  pub later : at < place
  pub inside : place < n
  pub above : get_or order at 0 < get_or order place 0
  pub none_behind : (m : ℕ) → place < m → m < n → get_or order m 0 ≤ get_or order at 0

-- the numbers from one place to another, the last of them first, and all else as it was
pub record Reversed (first last : ℕ) (before after : List ℕ) : Type 0 where
  pub same_length : length after ≡ length before
  pub reversed : (m : ℕ) → first ≤ m → m ≤ last → get_or after m 0 ≡ get_or before (first + last - m) 0
  pub below_same : (m : ℕ) → m < first → get_or after m 0 ≡ get_or before m 0
  pub above_same : (m : ℕ) → last < m → get_or after m 0 ≡ get_or before m 0

-- the order of n windows that is wanted next, made in place of the one before: the places before the first that changed are as they were
pub record NextMade (n : ℕ) (wanted before : List ℕ) (changed : ℕ) (after : List ℕ) : Type 0 where
  pub some : 1 ≤ changed
  pub inside : changed < n
  pub is : after ≡ wanted
  pub front_same : take changed after ≡ take changed before
