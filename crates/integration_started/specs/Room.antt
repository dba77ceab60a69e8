-- What keeps the lists of sight within 100 places (01, "From Rust's form to Rattle's"): no cell is listed twice, and none is queued twice.
-- Beside it, no cell in sight is a wall.
-- Assumes nothing.
use Rattle.std.specs.Prelude.{◌≡◌, true, false, ◌||◌, ℕ, ◌<◌, length, get_or}
use Rattle.integration_field.specs.Word.{is_los, is_blocked, is_impassable}
use Rattle.integration_started.specs.Sight.{Sight}

pub record Room (s : Sight) : Type 0 where
  pub full : length s.cells ≡ 100
  pub corner_in : (i : ℕ) → i < length s.corners → get_or s.corners i 0 < 100
  pub corner_blocked : (i : ℕ) → i < length s.corners → is_blocked (get_or s.cells (get_or s.corners i 0) 0) ≡ true
  pub corner_once : (i j : ℕ) → i < j → j < length s.corners → get_or s.corners i 0 ≡ get_or s.corners j 0 → ⊥
  pub queued_in : (i : ℕ) → i < length s.queue → get_or s.queue i 0 < 100
  pub queued_known : (i : ℕ) → i < length s.queue
      → (is_los (get_or s.cells (get_or s.queue i 0) 0) || is_blocked (get_or s.cells (get_or s.queue i 0) 0)) ≡ true
  pub queued_once : (i j : ℕ) → i < j → j < length s.queue → get_or s.queue i 0 ≡ get_or s.queue j 0 → ⊥
  pub seen_open : (n : ℕ) → n < 100 → is_los (get_or s.cells n 0) ≡ true → is_impassable (get_or s.cells n 0) ≡ false
