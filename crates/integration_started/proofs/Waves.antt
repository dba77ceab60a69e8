-- Sight, wave by wave, over costs and a goal.
--     ended           an empty queue changes nothing more
--     sight_room      every wave begins with room
--     sizes           its lists fit 100 places, and it ends before its 100th wave
--     goal_started    what each cell of a field started with a goal is
-- Assumes nothing.
use mathlib.Core.Path.{◌≡◌, refl, sym, ◌∙◌, ap, subst}
use mathlib.Core.Bool.{Bool, true, false, true≢false}
use mathlib.Core.List.{List, [], ◌∷◌}
use Prim.Native.Nat.{ℕ, zero, suc, ◌+◌, ◌-◌, ◌<◌, ◌≤◌}
use native.Mathlib.Omega.{arith}
use native.Mathlib.Decide.{ℕ_discrete}
use native.Mathlib.Nat.{zero-add, suc-add}
use lib.ListN.{length, get_or, length-set}
use lib.Seq.{get_or-set_same}
use Rattle.utilities.specs.declared.CompassDir.{CompassDir}
use Rattle.fields.specs.declared.FieldCell.{FieldCell}
use Rattle.std.specs.Prelude.{Some}
use Rattle.fields.specs.Cell.{cell_at, index_of, stepped}
use Rattle.integration_field.specs.Word.{is_los, is_goal, is_blocked, is_impassable}
use Rattle.integration_field.specs.Diagonal.{wall_at}
use Rattle.integration_started.specs.Sight.{walls, with_goal, Sight, begun, wave_spread, sight_after}
use Rattle.integration_started.specs.Lines.{Lines}
use Rattle.integration_started.specs.Room.{Room}
use Rattle.integration_started.specs.Sizes.{Sizes}
use Rattle.integration_started.specs.StartedCell.{SightCell, GoalStays, GoalStarted}
use Rattle.integration_started.specs.StartedCell.SightCell.{in_sight, corner, unseen}
use Rattle.utilities.specs.Count.{count}
use Rattle.utilities.proofs.Count.{Each, count_length, Passes, once_room, each_one, at_set}
use Rattle.integration_started.proofs.Words.{corner_flags, seen_flags}
use Rattle.integration_started.proofs.Kept.{Found, kept_around, kept_wave}
use Rattle.integration_started.proofs.Room.{room_begins, room_corners, room_queued}
use Rattle.integration_started.proofs.Sides.{is_side}
use Rattle.integration_started.proofs.Wave.{is_met, Sound, met, wave_keeps}
use Rattle.integration_started.proofs.Before.{walls_length, Before, chosen, unchosen, wall_word, other_word, only_wall, fails}
use Rattle.integration_started.proofs.FirstWave.{Never, Hides, goal_hidden, hides_even, First, first_keeps, first_blocks}
use Rattle.integration_started.proofs.FirstMet.{first_meets}

sound_begins : (goal : ℕ) (walls : ℕ → Bool) (s : Sight) → Sound goal walls s → Sound goal walls (begun s)
sound_begins goal walls s p =
    record { room = room_begins s p.room; same = p.same; at_goal = p.at_goal; at_wall = p.at_wall; at_other = p.at_other; all_listed = p.all_listed }

-- an empty queue changes nothing more
module _ (corner_line : ℕ → List ℕ) (cells : List ℕ) (goal : ℕ) where
  pub one_more_law : (k : ℕ) → (sight_after corner_line cells goal k).queue ≡ []
      → sight_after corner_line cells goal (suc k) ≡ sight_after corner_line cells goal k
  unfolding sight_after wave_spread
  one_more_law k e =
      let s = sight_after corner_line cells goal k in
      ap (λ (q : List ℕ). wave_spread corner_line (suc k) q (begun s)) e
      ∙ ap (λ (q : List ℕ). record { cells = s.cells; corners = s.corners; queue = q }) (sym e)

  pub ended : (k n : ℕ) → k ≤ n → (sight_after corner_line cells goal k).queue ≡ []
      → sight_after corner_line cells goal n ≡ sight_after corner_line cells goal k
  ended k n h e = let q : (n - k) + k ≡ n = omega arith in rw q at (go (n - k))
    where
      go : (j : ℕ) → sight_after corner_line cells goal (j + k) ≡ sight_after corner_line cells goal k
      go zero = rw zero-add
      go (suc j) = rw suc-add (one_more_law (j + k) (ap (λ (t : Sight). t.queue) (go j) ∙ e) ∙ go j)

-- the words before sight
module _ (goal : ℕ) (goal_in : goal < 100) (costs : List ℕ) (hundred : length costs ≡ 100) where
  abbrev pub walls_of : ℕ → Bool
  walls_of n = wall_at (with_goal goal (walls costs)) n

  abbrev Is : ℕ → ℕ → Type 0
  Is = Before costs (λ i. i ≡ goal) 0x20000

  pub before : (i : ℕ) → i < 100 → Is i (get_or (with_goal goal (walls costs)) i 0)
  unfolding with_goal
  before i h =
      at_set (Is i) (walls costs) goal 0x20000 i (omega (arith, walls_length costs)) (λ q. chosen q refl)
      (unchosen costs (λ i. i ≡ goal) 0x20000 i (omega arith))

  abbrev start : Sight
  start = record { cells = with_goal goal (walls costs); corners = []; queue = [] }

  pub start_length : length (with_goal goal (walls costs)) ≡ 100
  unfolding with_goal
  start_length = length-set (walls costs) goal 0x20000 ∙ walls_length costs ∙ hundred

  pub start_goal : get_or (with_goal goal (walls costs)) goal 0 ≡ 0x20000
  unfolding with_goal
  start_goal = get_or-set_same (walls costs) goal 0x20000 0 (omega (arith, walls_length costs))

  start_sound : Sound goal walls_of start
  start_sound = record {
    room = record {
      full = start_length;
      corner_in = λ i h. absurd (omega arith);
      corner_blocked = λ i h. absurd (omega arith);
      corner_once = λ i j h k. absurd (omega arith);
      queued_in = λ i h. absurd (omega arith);
      queued_known = λ i h. absurd (omega arith);
      queued_once = λ i j h k. absurd (omega arith);
      seen_open = λ i h t. absurd (true≢false (sym t ∙ fails costs _ _ is_los refl refl refl i _ (before i h)));
    };
    same = λ n. refl;
    at_goal = start_goal;
    at_wall = λ i h t. let w = only_wall costs _ _ refl i _ (before i h) t in wall_word costs _ _ i _ (before i h) w.0 w.1;
    at_other = λ i h t g. unseen (other_word costs _ _ i _ (before i h)
        (λ c. true≢false (sym (ap is_impassable (wall_word costs _ _ i _ (before i h) c g)) ∙ t)) g);
    all_listed = λ i h t. absurd (true≢false (sym t ∙ fails costs _ _ is_blocked refl refl refl i _ (before i h)));
  }

  one : 1 ≤ count is_met (with_goal goal (walls costs))
  one =
      once_room is_met refl (goal ∷ []) (with_goal goal (walls costs))
      (each_one (Passes is_met (with_goal goal (walls costs))) goal (omega (arith, start_length), ap is_met start_goal))
      (λ i j h k. absurd (omega arith))

  module _ (corner_line : ℕ → List ℕ) (lines : Lines goal corner_line) where
    abbrev sight : ℕ → Sight
    sight k = sight_after corner_line (walls costs) goal k

    abbrev Hiding : ℕ → Type 0
    Hiding c = Hides goal walls_of c

    -- cells that hide the goal are BLOCKED from the first wave on, and so are never queued
    abbrev Blocked : ℕ → Type 0
    Blocked c = Hiding c × (walls_of c ≡ false)

    abbrev NotHiding : ℕ → Type 0
    NotHiding n = Hiding n → ⊥

    -- what wave k leaves
    record Left (k : ℕ) (s : Sight) : Type 0 where
      sound : Sound goal walls_of s
      met_queued : 0 < length s.queue → k + 2 ≤ met goal walls_of s
      none_hiding : Each NotHiding s.queue
      stays : (c : ℕ) → c < 100 → Blocked c → is_blocked (get_or s.cells c 0) ≡ true

    start_first : First goal walls_of Never Never start
    start_first = record {
      sound = start_sound;
      met_least = one;
      met_queued = λ h. absurd (omega arith);
      all_next = λ i h. absurd (omega arith);
      stays = λ c h k. absurd k;
      stays_met = λ c h k. absurd k;
    }

    first_left : Left 1 (sight 1)
    unfolding sight_after wave_spread
    first_left =
        let p = kept_around (first_keeps goal walls_of corner_line lines Never Never) goal refl start start_first in
        record {
          sound = p.sound;
          met_queued = λ h. first_meets goal goal_in walls_of corner_line lines start start_first;
          none_hiding = λ i h q. hides_even goal walls_of _ q (p.all_next i h);
          stays = λ c h q. first_blocks goal walls_of corner_line lines c h q.0 q.1 start start_first;
        }

    away : (from : ℕ) (d : CompassDir) (x : FieldCell) (side : CompassDir) (a b : FieldCell) → NotHiding from → is_side d ≡ true
        → Found walls_of from d x side a b → index_of b ≡ goal → ⊥
    away from d x side a b not-hiding o f e = not-hiding (goal_hidden goal walls_of from d x side a b o f e)

    next : (from : ℕ) (d : CompassDir) (n : FieldCell) → NotHiding from → is_side d ≡ true → stepped (cell_at from) d ≡ Some n
        → walls_of (index_of n) ≡ false → (Blocked (index_of n) → ⊥) → NotHiding (index_of n)
    next from d n f o e w b h = b (h, w)

    left_wave : (k : ℕ) (s : Sight) → Left k s → Left (suc k) (wave_spread corner_line (suc k) s.queue (begun s))
    unfolding wave_spread
    left_wave k s l = go s.queue refl
      where
        go : (q : List ℕ) → s.queue ≡ q → Left (suc k) (wave_spread corner_line (suc k) q (begun s))
        go [] e = record {
          sound = sound_begins goal walls_of s l.sound;
          met_queued = λ h. absurd (omega arith);
          none_hiding = λ i h. absurd (omega arith);
          stays = l.stays;
        }
        go (n ∷ ns) e =
            let some : 0 < length s.queue = omega (arith, ap length e) in
            let least : k + 2 ≤ met goal walls_of s = l.met_queued some in
            let few : suc k ≤ 100 = omega (arith, count_length is_met s.cells, l.sound.room.full) in
            let keeps = wave_keeps goal walls_of corner_line lines (suc k) (k + 2) (omega arith) few (omega arith) NotHiding NotHiding Blocked Never away next in
            let p = kept_wave keeps (n ∷ ns) (begun s) (subst (Each NotHiding) e l.none_hiding)
            (record {
              sound = sound_begins goal walls_of s l.sound;
              met_least = least;
              met_queued = λ h. absurd (omega arith);
              all_next = λ i h. absurd (omega arith);
              stays = l.stays;
              stays_met = λ c h q. absurd q;
            }) in
            record { sound = p.sound; met_queued = λ h. omega (arith, p.met_queued h); none_hiding = p.all_next; stays = p.stays }

    left : (k : ℕ) → Left (suc k) (sight (suc k))
    unfolding sight_after
    left zero = first_left
    left (suc k) = left_wave (suc k) (sight (suc k)) (left k)

    sight_sound : (k : ℕ) → Sound goal walls_of (begun (sight k))
    unfolding sight_after
    sight_sound zero = start_sound
    sight_sound (suc k) = sound_begins goal walls_of (sight (suc k)) (left k).sound

    -- every wave begins with room, over cells of the sector
    pub sight_room : (k : ℕ) → Room (begun (sight k))
    sight_room k = (sight_sound k).room

    pub sight_queue : (k : ℕ) → length (sight k).queue ≤ 100
    unfolding sight_after
    sight_queue zero = omega arith
    sight_queue (suc k) = room_queued (sight (suc k)) (left k).sound.room

    empty : (l : List ℕ) → (0 < length l → ⊥) → l ≡ []
    empty [] h = refl
    empty (x ∷ l) h = absurd (h (omega arith))

    sight_ends : (k : ℕ) → 99 ≤ k → (sight k).queue ≡ []
    sight_ends zero h = absurd (omega arith)
    sight_ends (suc k) h = empty (sight (suc k)).queue
        (λ some. omega (arith, (left k).met_queued some, count_length is_met (sight (suc k)).cells, (left k).sound.room.full))

    pub sizes : Sizes corner_line (walls costs) goal
    sizes = record {
      corner_once = λ k. (sight_room k).corner_once;
      corners_fit = λ k. room_corners (begun (sight k)) (sight_room k);
      queue_fits = sight_queue;
      ends = sight_ends;
      same = λ k h. ended corner_line (walls costs) goal 100 k h (sight_ends 100 (omega arith));
    }

    not_goal : (x : ℕ) → SightCell x → is_goal x ≡ true → ⊥
    not_goal x (in_sight v a b e) t = true≢false (sym t ∙ ap is_goal e ∙ (seen_flags v (omega arith)).goal_is)
    not_goal x (corner v a e) t = true≢false (sym t ∙ ap is_goal e ∙ (corner_flags v (omega arith)).goal_is)
    not_goal x (unseen e) t = true≢false (sym t ∙ ap is_goal e)

    goal_stays : (k : ℕ) → GoalStays goal (sight k).cells
    goal_stays k = record { goal_cell = (sight_sound k).at_goal; goal_only = only }
      where
        only : (i : ℕ) → i < 100 → is_goal (get_or (sight k).cells i 0) ≡ true → i ≡ goal
        only i h t = elim (ℕ_discrete i goal) [ yes e ↦ e | no e ↦ absurd (by_wall e (walls_of i) refl) ]
          where
            by_wall : (i ≡ goal → ⊥) → (w : Bool) → walls_of i ≡ w → ⊥
            by_wall e true q = true≢false (sym t ∙ ap is_goal ((sight_sound k).at_wall i h q))
            by_wall e false q = not_goal _ ((sight_sound k).at_other i h q e) t

    pub goal_started : (k : ℕ) → GoalStarted costs goal (sight k).cells (sight k).corners
    goal_started k =
        let s = sight_sound k in
        record {
          full = s.room.full;
          goal_stays = goal_stays k;
          wall_cell = λ i h c g. s.at_wall i h (ap is_impassable (wall_word costs _ _ i _ (before i h) c g));
          wall_only = λ i h t. only_wall costs _ _ refl i _ (before i h) (sym (s.same i) ∙ t);
          other_cell = λ i h c g. s.at_other i h (ap is_impassable (other_word costs _ _ i _ (before i h) c g)) g;
          corner_in = s.room.corner_in;
          corner_once = s.room.corner_once;
          corner_blocked = s.room.corner_blocked;
          blocked_listed = s.all_listed;
        }
