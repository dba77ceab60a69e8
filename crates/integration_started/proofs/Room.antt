-- There is always room in the lists of sight.
--     room_corners, room_corner    at most 100 corners, and fewer while a cell is not BLOCKED
--     room_queued, room_queue      at most 100 queued cells, and fewer while a cell is neither LOS nor BLOCKED
--     room_listed, room_seen       a cell that is listed, or seen, keeps room
--     room_begins                  and so does the beginning of a wave
--     walls_stay                   a word that is no wall's, written over one that is none
-- Assumes nothing.
use mathlib.Core.Path.{◌≡◌, refl, sym, ◌∙◌, ap}
use mathlib.Core.Bool.{Bool, true, false, ◌||◌, or-true, true≢false}
use mathlib.Core.List.{List}
use Prim.Native.Nat.{ℕ, ◌<◌, ◌≤◌}
use native.Mathlib.Omega.{arith}
use lib.ListN.{length, get_or, set, length-set}
use Rattle.integration_field.specs.Word.{is_los, is_blocked, is_impassable}
use Rattle.integration_field.specs.Diagonal.{wall_at}
use Rattle.integration_started.specs.Sight.{Sight, corner_word, sight_word, listed, seen, begun}
use Rattle.integration_started.specs.Room.{Room}
use Rattle.utilities.specs.Count.{count}
use Rattle.utilities.proofs.Count.{count_length, count_room, once_room, each_more, once_more, at_set}
use Rattle.integration_started.proofs.Words.{corner_flags, seen_flags}

-- LOS or BLOCKED
abbrev pub is_known : ℕ → Bool
is_known x = is_los x || is_blocked x

known_corner : (v : ℕ) → v < 0x10000 → is_known (corner_word v) ≡ true
known_corner v h = rw (corner_flags v h).blocked_is (or-true (is_los (corner_word v)))

known_seen : (v : ℕ) → v < 0x10000 → is_known (sight_word v) ≡ true
known_seen v h = rw (seen_flags v h).los_is

module _ (s : Sight) (r : Room s) where
  corners_count : length s.corners ≤ count is_blocked s.cells
  corners_count = once_room is_blocked refl s.corners s.cells (λ i h. (omega (arith, r.corner_in i h, r.full), r.corner_blocked i h)) r.corner_once

  pub room_corners : length s.corners ≤ 100
  room_corners = omega (arith, corners_count, count_length is_blocked s.cells, r.full)

  pub room_corner : (n : ℕ) → n < 100 → is_blocked (get_or s.cells n 0) ≡ false → length s.corners < 100
  room_corner n h e = omega (arith, corners_count, count_room is_blocked s.cells n (omega (arith, r.full)) e, r.full)

  queue_count : length s.queue ≤ count is_known s.cells
  queue_count = once_room is_known refl s.queue s.cells (λ i h. (omega (arith, r.queued_in i h, r.full), r.queued_known i h)) r.queued_once

  pub room_queued : length s.queue ≤ 100
  room_queued = omega (arith, queue_count, count_length is_known s.cells, r.full)

  pub room_queue : (n : ℕ) → n < 100 → is_los (get_or s.cells n 0) ≡ false → is_blocked (get_or s.cells n 0) ≡ false → length s.queue < 100
  room_queue n h l b =
      let e : is_known (get_or s.cells n 0) ≡ false = rw (l, b) in
      omega (arith, queue_count, count_room is_known s.cells n (omega (arith, r.full)) e, r.full)

  -- an entry with a test that fails is none of those that pass it
  differs : (f : ℕ → Bool) (n : ℕ) → f (get_or s.cells n 0) ≡ false → (m : ℕ) → f (get_or s.cells m 0) ≡ true → m ≡ n → ⊥
  differs f n e m t q = true≢false (sym t ∙ ap (λ (i : ℕ). f (get_or s.cells i 0)) q ∙ e)

  -- a word written passes a test that each word before it passed
  still : (f : ℕ → Bool) (n v m : ℕ) → n < 100 → f v ≡ true → f (get_or s.cells m 0) ≡ true → f (get_or (set s.cells n v) m 0) ≡ true
  still f n v m h t u = at_set (λ x. f x ≡ true) s.cells n v m (omega (arith, r.full)) (λ q. t) (λ q. u)

  -- no cell in sight is a wall, where a word that is no wall's is written
  open_still : (n v : ℕ) → n < 100 → is_impassable v ≡ false
      → (m : ℕ) → m < 100 → is_los (get_or (set s.cells n v) m 0) ≡ true → is_impassable (get_or (set s.cells n v) m 0) ≡ false
  open_still n v h f m k = at_set (λ x. is_los x ≡ true → is_impassable x ≡ false) s.cells n v m (omega (arith, r.full)) (λ q t. f) (λ q. r.seen_open m k)

  pub room_listed : (value n : ℕ) → n < 100 → value < 0x10000 → is_blocked (get_or s.cells n 0) ≡ false → Room (listed value n s)
  room_listed value n h v e =
      let w = corner_word value in
      let b : is_blocked w ≡ true = (corner_flags value v).blocked_is in
      record {
        full = length-set s.cells n w ∙ r.full;
        corner_in = each_more s.corners n (λ m. m < 100) r.corner_in h;
        corner_blocked = each_more s.corners n (λ m. is_blocked (get_or (set s.cells n w) m 0) ≡ true)
            (λ i k. still is_blocked n w _ h b (r.corner_blocked i k))
            (at_set (λ x. is_blocked x ≡ true) s.cells n w n (omega (arith, r.full)) (λ q. b) (λ q. absurd (q refl)));
        corner_once = once_more s.corners n r.corner_once (λ i k. differs is_blocked n e _ (r.corner_blocked i k));
        queued_in = r.queued_in;
        queued_known = λ i k. still is_known n w _ h (known_corner value v) (r.queued_known i k);
        queued_once = r.queued_once;
        seen_open = open_still n w h (corner_flags value v).impassable_is;
      }

  pub room_seen : (wave n : ℕ) → n < 100 → wave < 0x10000 → is_los (get_or s.cells n 0) ≡ false → is_blocked (get_or s.cells n 0) ≡ false
      → Room (seen wave n s)
  unfolding seen
  room_seen wave n h v l b =
      let w = sight_word wave in
      let e : is_known (get_or s.cells n 0) ≡ false = rw (l, b) in
      record {
        full = length-set s.cells n w ∙ r.full;
        corner_in = r.corner_in;
        corner_blocked = λ i k. at_set (λ x. is_blocked x ≡ true) s.cells n w _ (omega (arith, r.full))
            (λ q. absurd (differs is_blocked n b _ (r.corner_blocked i k) q)) (λ q. r.corner_blocked i k);
        corner_once = r.corner_once;
        queued_in = each_more s.queue n (λ m. m < 100) r.queued_in h;
        queued_known = each_more s.queue n (λ m. is_known (get_or (set s.cells n w) m 0) ≡ true)
            (λ i k. still is_known n w _ h (known_seen wave v) (r.queued_known i k))
            (at_set (λ x. is_known x ≡ true) s.cells n w n (omega (arith, r.full)) (λ q. known_seen wave v) (λ q. absurd (q refl)));
        queued_once = once_more s.queue n r.queued_once (λ i k. differs is_known n e _ (r.queued_known i k));
        seen_open = open_still n w h (seen_flags wave v).impassable_is;
      }

-- a wave begins with an empty queue
pub room_begins : (s : Sight) → Room s → Room (begun s)
room_begins s r = record {
  full = r.full;
  corner_in = r.corner_in;
  corner_blocked = r.corner_blocked;
  corner_once = r.corner_once;
  queued_in = λ i h. absurd (omega arith);
  queued_known = λ i h. absurd (omega arith);
  queued_once = λ i j h k. absurd (omega arith);
  seen_open = r.seen_open;
}

-- walls stay, where a word that is no wall is written over a word that is none
pub walls_stay : (walls : ℕ → Bool) (cells : List ℕ) (n v : ℕ) → n < length cells → ((m : ℕ) → wall_at cells m ≡ walls m) → wall_at cells n ≡ false
    → is_impassable v ≡ false → (m : ℕ) → wall_at (set cells n v) m ≡ walls m
walls_stay walls cells n v h same w f m =
    at_set (λ x. is_impassable x ≡ walls m) cells n v m h (λ q. f ∙ sym w ∙ same n ∙ ap walls (sym q)) (λ q. same m)
