-- What is promised of the numbers of moves that are answered for a sheet.
-- Assumes nothing.
use Rattle.std.specs.Prelude.{◌≡◌, ◌⊎◌, ◌↔◌, List, ℕ, ◌≤◌, ◌<◌, get_or}
use Rattle.flow_arrivals.specs.Following.{Comes, ComesFirst}

pub record ArrivalsTold (bytes moves : List ℕ) : Type 0 where
  -- a number n below 255 stands exactly where n moves and no fewer arrive
  pub first : (x : ℕ) → x < 100 → (n : ℕ) → n < 255 → (get_or moves x 0 ≡ n) ↔ ComesFirst bytes n x
  -- 255 stands exactly where no number of moves arrives, however large
  pub not_ever : (x : ℕ) → x < 100 → (get_or moves x 0 ≡ 255) ↔ ((n : ℕ) → Comes bytes n x → ⊥)
  -- and no other number is above 99
  pub within : (x : ℕ) → x < 100 → (get_or moves x 0 ≤ 99) ⊎ (get_or moves x 0 ≡ 255)
