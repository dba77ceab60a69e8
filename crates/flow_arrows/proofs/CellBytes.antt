-- A sector without sight, started and built, and the flow byte of each kind of its cells; costs of 0 are taken too.
--     end_sector        what is known of its built field, for every target without sight; `window_sector`: of a window
--     window_listed     the window cells are among those where arrows end
--     window_byte       a window cell's byte: its flags, and the bits of its window
--     end_byte, end_kept    the byte of a cell where arrows end: its flags and bits below 0x20; 0x10 is set, and not all of 0xE0
--     wall_byte         a wall's byte
--     plain_byte        any other cell's byte: what its look has come to
--     corner_byte       the byte of a goal that is planned without sight: 0x70
-- Assumes nothing.
use mathlib.Core.Path.{◌≡◌, refl, sym, ap, ◌∙◌}
use mathlib.Core.Bool.{Bool, true, false, true≢false, cond, ◌||◌}
use mathlib.Core.List.Memᴰ
use mathlib.Core.List.{List, [], ◌∷◌}
use Prim.Native.Nat.{ℕ, ◌^◌, ◌≤◌, ◌<◌}
use native.Mathlib.Omega.{arith}
use lib.Bits.{bit_or}
use lib.ListN.{length, get_or}
use Rattle.route.specs.declared.PortalWindow.{PortalWindow}
use Rattle.route.specs.Target.{Target, to_goal, to_window, to_corner, window_of, ends_of, is_sightless, WindowIn, TargetIn}
use Rattle.integration_field.specs.Word.{is_goal, is_portal}
use Rattle.integration_field.specs.Listed.{list_of}
use Rattle.integration_field.proofs.Flags.{small_flag}
use Rattle.integration_started.specs.StartedCell.{Among}
use Rattle.integration_started.specs.Started.{started, StartedCells}
use Rattle.integration_started.proofs.Started.{started_field}
use Rattle.integration_walks.proofs.Promise.{started_walks}
use Rattle.integration_walks.proofs.Ground.{mem_among}
use Rattle.flow_byte.specs.New.{is_in, start_of, window_bits, new_byte, new_bytes}
use Rattle.flow_byte.specs.Look.{looked_byte, look_around, built_byte, flow_build}
use Rattle.flow_arrows.specs.Promise.{built_cells}
use Rattle.flow_arrows.proofs.Fall.{is_in_law, in_among, not_in, EndWord, at_portal, at_goal, EndsStarted, window_ends, corner_ends}
use Rattle.flow_arrows.proofs.Fall.{EndSector, Sector, Plain, end_word_law}
use Rattle.flow_arrows.proofs.Bytes.{made_byte, portal_byte, Kept, portal_kept, goal_kept, window_bits_law}

-- a word without flags starts with 0
small_start : (w : ℕ) → w < 2 ^ 16 → start_of w ≡ 0
unfolding start_of
small_start w h = rw (small_flag w 17 (omega arith), small_flag w 19 (omega arith), small_flag w 16 h, small_flag w 25 (omega arith))

pub small_untaken : (w : ℕ) → w < 2 ^ 16 → (is_goal w || is_portal w) ≡ false
small_untaken w h = rw (small_flag w 17 (omega arith), small_flag w 19 (omega arith))

-- ---- a target without sight

-- the word of its cells where arrows end
abbrev pub end_word : Target → ℕ
end_word (to_goal n) = 0x20000
end_word (to_window cells) = 0x80000
end_word (to_corner n) = 0x20000

pub end_word_is : (target : Target) → EndWord (end_word target)
end_word_is (to_goal n) = at_goal
end_word_is (to_window cells) = at_portal
end_word_is (to_corner n) = at_goal

ends_started : (costs cells corners : List ℕ) (target : Target) → is_sightless target ≡ true → StartedCells costs target cells corners
    → EndsStarted costs (ends_of target) (end_word target) cells corners
ends_started costs cells corners (to_goal n) e s = absurd (true≢false (sym e))
ends_started costs cells corners (to_window window) e s = window_ends s
ends_started costs cells corners (to_corner n) e s = corner_ends s

pub window_listed : (target : Target) (x : ℕ) → is_in x (window_of target) ≡ true → Among x (ends_of target)
window_listed (to_goal n) x e = absurd (true≢false (sym e))
window_listed (to_window cells) x e = in_among x cells e
window_listed (to_corner n) x e = absurd (true≢false (sym e))

pub end_sector : (costs : List ℕ) (target : Target) → length costs ≡ 100 → TargetIn target → is_sightless target ≡ true
    → ((x : ℕ) → x < 100 → get_or costs x 0 ≤ 255)
    → EndSector costs (ends_of target) (end_word target) (started costs target).field (list_of (started costs target)) (built_cells costs target)
end_sector costs target full inside e byte = record {
  started = ends_started costs _ _ target e (started_field costs full target inside).cells_are;
  word_is = end_word_is target;
  least = started_walks costs target full inside;
  cost_to = byte;
}

pub window_sector : (costs window : List ℕ) → length costs ≡ 100 → WindowIn window → ((x : ℕ) → x < 100 → get_or costs x 0 ≤ 255)
    → Sector costs window (started costs (to_window window)).field (list_of (started costs (to_window window))) (built_cells costs (to_window window))
window_sector costs window full inside byte = end_sector costs (to_window window) full inside refl byte

-- ---- the byte of each kind of cell

-- `window` are the cells that bits are or-ed on for: some of those where arrows end, or none
module _ {costs ends : List ℕ} {word : ℕ} {cells corners built : List ℕ} (s : EndSector costs ends word cells corners built)
    (window : List ℕ) (listed : (x : ℕ) → is_in x window ≡ true → Among x ends) (portal : PortalWindow) (has : Bool) (previous : List ℕ) where
  abbrev bytes : List ℕ
  bytes = flow_build built (new_bytes portal window built has previous)

  -- what building begins from
  abbrev new_at : ℕ → ℕ
  new_at x = new_byte portal window (get_or built x 0) has previous x

  made : (x : ℕ) → x < 100 → get_or bytes x 0 ≡ built_byte built x (new_at x)
  made = made_byte portal window built has previous

  unlisted : (x : ℕ) → (Among x ends → ⊥) → is_in x window ≡ false
  unlisted x a = not_in x window (λ i. a (listed x (is_in_law x window i)))

  start_kept : {w : ℕ} → EndWord w → (b : ℕ) → b < 32 → Kept (bit_or (start_of w) b)
  unfolding start_of
  start_kept at_portal b h = portal_kept b h
  start_kept at_goal b h = goal_kept b h

  -- the bits that are or-ed onto its flags: those of its window, or none
  abbrev end_bits : ℕ → ℕ
  end_bits x = cond (is_in x window) (window_bits portal has previous x) 0

  few : (x : ℕ) → end_bits x < 32
  few x = go (is_in x window)
    where
      go : (b : Bool) → cond b (window_bits portal has previous x) 0 < 32
      go true = window_bits_law portal has previous x
      go false = omega arith

  pub end_byte : (x : ℕ) → x < 100 → get_or built x 0 ≡ word → (b : ℕ) × (b < 32) × (get_or bytes x 0 ≡ bit_or (start_of word) b)
  unfolding new_byte built_byte
  end_byte x h e = (end_bits x, few x, rw (made x h, e, (start_kept s.word_is (end_bits x) (few x)).pathable))

  pub end_kept : (x : ℕ) → x < 100 → get_or built x 0 ≡ word → Kept (get_or bytes x 0)
  end_kept x h e = let b = end_byte x h e in rw b.2 (start_kept s.word_is b.0 b.1)

  pub wall_byte : (x : ℕ) → x < 100 → (Among x ends → ⊥) → get_or built x 0 ≡ 0x200FFFF → get_or bytes x 0 ≡ 0xE0
  unfolding new_byte start_of built_byte
  wall_byte x h a e =
      let n : new_at x ≡ 0xE0 = rw (e, unlisted x a) in
      made x h ∙ ap (built_byte built x) n

  pub plain_byte : (x : ℕ) → Plain s x → get_or built x 0 < 2 ^ 16 → get_or bytes x 0 ≡ looked_byte 0 (look_around built x)
  unfolding new_byte built_byte
  plain_byte x p l =
      let n : new_at x ≡ 0 = rw (small_start (get_or built x 0) l, unlisted x p.no_end) in
      made x p.inside ∙ ap (built_byte built x) n

pub window_byte : {costs window cells corners built : List ℕ} → Sector costs window cells corners built
    → (portal : PortalWindow) (has : Bool) (previous : List ℕ) (x : ℕ) → x < 100 → Among x window → get_or built x 0 ≡ 0x80000
    → get_or (flow_build built (new_bytes portal window built has previous)) x 0 ≡ bit_or 0x90 (window_bits portal has previous x)
window_byte {window = window} {built = built} s portal has previous x h a e =
    portal_byte portal window built has previous x h (is_in_law x window a) e

-- it is listed as the one corner, and its window is empty: nothing is or-ed onto its flags
pub corner_byte : (costs : List ℕ) (goal : ℕ) → length costs ≡ 100 → goal < 100 → ((x : ℕ) → x < 100 → get_or costs x 0 ≤ 255)
    → (portal : PortalWindow) (has : Bool) (previous : List ℕ)
    → let built = built_cells costs (to_corner goal) in get_or (flow_build built (new_bytes portal [] built has previous)) goal 0 ≡ 0x70
unfolding new_byte built_byte start_of
corner_byte costs goal full inside byte portal has previous =
    let built = built_cells costs (to_corner goal) in
    let s = end_sector costs (to_corner goal) full inside refl byte in
    let e : get_or built goal 0 ≡ 0x20000 = end_word_law s goal (mem_among goal (goal ∷ []) (Memᴰ.head refl)) in
    made_byte portal [] built has previous goal inside ∙ rw e
