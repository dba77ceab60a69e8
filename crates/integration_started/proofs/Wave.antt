-- What holds of sight throughout a wave: its cells, its list, and how many cells it has met.
-- Assumes nothing.
use mathlib.Core.Path.{◌≡◌, refl, sym, ◌∙◌, ap, subst}
use mathlib.Core.Bool.{Bool, true, false, ◌||◌, or-true, true≢false}
use mathlib.Core.List.{List, [], ◌∷◌, ◌++◌}
use Prim.Native.Nat.{ℕ, suc, ◌+◌, ◌<◌, ◌≤◌}
use native.Mathlib.Omega.{arith}
use lib.ListN.{length, get_or, set}
use Rattle.utilities.specs.declared.CompassDir.{CompassDir}
use Rattle.fields.specs.declared.FieldCell.{FieldCell}
use Rattle.std.specs.Prelude.{Some}
use Rattle.fields.specs.Cell.{cell_at, index_of, stepped}
use Rattle.fields.proofs.Steps.{stepped_cell, index_below}
use Rattle.integration_field.specs.Word.{is_los, is_goal, is_blocked, is_impassable}
use Rattle.integration_field.specs.Diagonal.{wall_at}
use Rattle.integration_started.specs.Sight.{Sight, corner_word, sight_word, listed, seen}
use Rattle.integration_started.specs.Lines.{Lines}
use Rattle.integration_started.specs.Room.{Room}
use Rattle.integration_started.specs.StartedCell.{Among, SightCell}
use Rattle.integration_started.specs.StartedCell.SightCell.{in_sight, corner}
use Rattle.utilities.specs.Count.{bit, count}
use Rattle.utilities.proofs.Count.{Each, bit_small, count_set, count_room, each_more, at_set, more_length, more_before, more_last}
use Rattle.integration_started.proofs.Words.{Flags, corner_flags, seen_flags}
use Rattle.integration_started.proofs.Kept.{Found, Keeps}
use Rattle.integration_started.proofs.Sides.{is_side}
use Rattle.integration_started.proofs.Room.{room_listed, room_seen, walls_stay}

-- LOS, GOAL, BLOCKED or a wall: nothing is left to see there
abbrev pub is_met : ℕ → Bool
is_met x = is_los x || (is_goal x || (is_blocked x || is_impassable x))

pub met_los : (x : ℕ) → is_los x ≡ true → is_met x ≡ true
met_los x e = rw e

pub met_goal : (x : ℕ) → is_goal x ≡ true → is_met x ≡ true
met_goal x e = rw e (or-true (is_los x))

pub met_blocked : (x : ℕ) → is_blocked x ≡ true → is_met x ≡ true
met_blocked x e = rw (e, or-true (is_goal x)) (or-true (is_los x))

pub met_wall : (x : ℕ) → is_impassable x ≡ true → is_met x ≡ true
met_wall x e = rw (e, or-true (is_blocked x), or-true (is_goal x)) (or-true (is_los x))

among_more : (x n : ℕ) (l : List ℕ) → Among x l → Among x (l ++ n ∷ [])
among_more x n l a = (a.0, omega (arith, more_length l n, a.1), more_before l n a.0 a.1 ∙ a.2)

among_last : (n : ℕ) (l : List ℕ) → Among n (l ++ n ∷ [])
among_last n l = (length l, omega (arith, more_length l n), more_last l n (length l) refl)

module _ (goal : ℕ) (walls : ℕ → Bool) where
  pub record Sound (s : Sight) : Type 0 where
    pub room : Room s
    pub same : (n : ℕ) → wall_at s.cells n ≡ walls n
    pub at_goal : get_or s.cells goal 0 ≡ 0x20000
    pub at_wall : (i : ℕ) → i < 100 → walls i ≡ true → get_or s.cells i 0 ≡ 0x200FFFF
    pub at_other : (i : ℕ) → i < 100 → walls i ≡ false → (i ≡ goal → ⊥) → SightCell (get_or s.cells i 0)
    pub all_listed : (i : ℕ) → i < 100 → is_blocked (get_or s.cells i 0) ≡ true → Among i s.corners

  -- a word that is no wall's is written at a cell that is neither wall nor goal
  sound_written : (s : Sight) → Sound s → (n v : ℕ) (corners queue : List ℕ) → n < 100 → (n ≡ goal → ⊥) → wall_at s.cells n ≡ false
      → is_impassable v ≡ false → SightCell v
      → Room (record { cells = set s.cells n v; corners = corners; queue = queue })
      → ((i : ℕ) → i < 100 → is_blocked (get_or (set s.cells n v) i 0) ≡ true → Among i corners)
      → Sound (record { cells = set s.cells n v; corners = corners; queue = queue })
  sound_written s p n v corners queue h not_goal w f c room all =
      let fits : n < length s.cells = omega (arith, p.room.full) in
      record {
        room = room;
        same = walls_stay walls s.cells n v fits p.same w f;
        at_goal = at_set (λ x. x ≡ 0x20000) s.cells n v goal fits (λ q. absurd (not_goal (sym q))) (λ q. p.at_goal);
        at_wall = λ i k t. at_set (λ x. x ≡ 0x200FFFF) s.cells n v i fits
            (λ q. absurd (true≢false (sym t ∙ ap walls q ∙ sym (p.same n) ∙ w)))
            (λ q. p.at_wall i k t);
        at_other = λ i k t q. at_set SightCell s.cells n v i fits (λ e. c) (λ e. p.at_other i k t q);
        all_listed = all;
      }

  pub sound_listed : (s : Sight) → Sound s → (value n : ℕ) → n < 100 → (n ≡ goal → ⊥) → value ≤ 110 → wall_at s.cells n ≡ false
      → is_blocked (get_or s.cells n 0) ≡ false → Sound (listed value n s)
  sound_listed s p value n h not_goal v w b =
      sound_written s p n (corner_word value) (s.corners ++ n ∷ []) s.queue h not_goal w
      (corner_flags value (omega arith)).impassable_is (corner value v refl)
      (room_listed s p.room value n h (omega arith) b)
      (λ i k. at_set (λ x. is_blocked x ≡ true → Among i (s.corners ++ n ∷ [])) s.cells n (corner_word value) i (omega (arith, p.room.full))
      (λ q e. subst (λ m. Among m (s.corners ++ n ∷ [])) (sym q) (among_last n s.corners))
      (λ q e. among_more i n s.corners (p.all_listed i k e)))

  pub sound_seen : (s : Sight) → Sound s → (wave n : ℕ) → n < 100 → 1 ≤ wave → wave ≤ 99 → Flags (get_or s.cells n 0) false false false false
      → Sound (seen wave n s)
  unfolding seen
  sound_seen s p wave n h least most was =
      let f = seen_flags wave (omega arith) in
      sound_written s p n (sight_word wave) s.corners (s.queue ++ n ∷ []) h
      (λ q. true≢false (sym (ap is_goal p.at_goal) ∙ ap (λ (m : ℕ). is_goal (get_or s.cells m 0)) (sym q) ∙ was.goal_is))
      was.impassable_is f.impassable_is (in_sight wave least most refl)
      (room_seen s p.room wave n h (omega arith) was.los_is was.blocked_is)
      (λ i k. at_set (λ x. is_blocked x ≡ true → Among i s.corners) s.cells n (sight_word wave) i (omega (arith, p.room.full))
      (λ q e. absurd (true≢false (sym e ∙ f.blocked_is)))
      (λ q e. p.all_listed i k e))

  -- cells that lines may mark
  abbrev pub Free : ℕ → Type 0
  Free n = (n < 100) × (n ≡ goal → ⊥)

  -- how many cells sight has met
  abbrev pub met : Sight → ℕ
  met s = count is_met s.cells

  -- throughout a wave: at least `least` cells are met, one more where a cell is queued; queued cells are `Next`, `Kept` cells stay BLOCKED,
  -- and `Met` cells stay met
  pub record Wave (least : ℕ) (Next Kept Met : ℕ → Type 0) (s : Sight) : Type 0 where
    pub sound : Sound s
    pub met_least : least ≤ met s
    pub met_queued : 0 < length s.queue → suc least ≤ met s
    pub all_next : Each Next s.queue
    pub stays : (c : ℕ) → c < 100 → Kept c → is_blocked (get_or s.cells c 0) ≡ true
    pub stays_met : (c : ℕ) → c < 100 → Met c → is_met (get_or s.cells c 0) ≡ true

  module _ (corner_line : ℕ → List ℕ) (lines : Lines goal corner_line) (wave least : ℕ)
      (first : 1 ≤ wave) (hundred : wave ≤ 100) (under : wave ≤ least) (From Next Kept Met : ℕ → Type 0)
      (away : (from : ℕ) (d : CompassDir) (x : FieldCell) (side : CompassDir) (a b : FieldCell) → From from → is_side d ≡ true
      → Found walls from d x side a b → index_of b ≡ goal → ⊥)
      (next : (from : ℕ) (d : CompassDir) (n : FieldCell) → From from → is_side d ≡ true → stepped (cell_at from) d ≡ Some n
      → walls (index_of n) ≡ false → (Kept (index_of n) → ⊥) → Next (index_of n)) where
    marks : (value n : ℕ) (s : Sight) → Wave least Next Kept Met s → Free n → value ≤ wave + 10 → wall_at s.cells n ≡ false
        → is_blocked (get_or s.cells n 0) ≡ false → Wave least Next Kept Met (listed value n s)
    marks value n s p f v w b =
        let h : n < 100 = f.0 in
        let x = corner_word value in
        let fit : n < length s.cells = omega (arith, p.sound.room.full) in
        let t : is_blocked x ≡ true = (corner_flags value (omega arith)).blocked_is in
        let now : is_met x ≡ true = met_blocked x t in
        let after : bit (is_met x) ≡ 1 = ap bit now in
        let more = count_set is_met s.cells n x fit in
        let small = bit_small (is_met (get_or s.cells n 0)) in
        record {
          sound = sound_listed s p.sound value n h f.1 (omega arith) w b;
          met_least = omega (arith, p.met_least);
          met_queued = λ q. omega (arith, p.met_queued q);
          all_next = p.all_next;
          stays = λ c k e. at_set (λ y. is_blocked y ≡ true) s.cells n x c fit (λ q. t) (λ q. p.stays c k e);
          stays_met = λ c k e. at_set (λ y. is_met y ≡ true) s.cells n x c fit (λ q. now) (λ q. p.stays_met c k e);
        }

    sees : (from : ℕ) (d : CompassDir) (n : FieldCell) (s : Sight) → Wave least Next Kept Met s → From from → is_side d ≡ true
        → stepped (cell_at from) d ≡ Some n
        → Flags (get_or s.cells (index_of n) 0) false false false false → Wave least Next Kept Met (seen wave (index_of n) s)
    unfolding seen
    sees from d n s p inWave o e f =
        let h : index_of n < 100 = index_below n (stepped_cell (cell_at from) d n e).within in
        let x = sight_word wave in
        let fit : index_of n < length s.cells = omega (arith, p.sound.room.full) in
        let not-met : is_met (get_or s.cells (index_of n) 0) ≡ false = rw (f.los_is, f.goal_is, f.blocked_is, f.impassable_is) in
        let roomy : met s < length s.cells = count_room is_met s.cells (index_of n) fit not-met in
        let most : wave ≤ 99 = omega (arith, p.met_least, p.sound.room.full) in
        let was : bit (is_met (get_or s.cells (index_of n) 0)) ≡ 0 = ap bit not-met in
        let now : is_met x ≡ true = rw (seen_flags wave (omega arith)).los_is in
        let after : bit (is_met x) ≡ 1 = ap bit now in
        let more = count_set is_met s.cells (index_of n) x fit in
        record {
          sound = sound_seen s p.sound wave (index_of n) h first most f;
          met_least = omega (arith, p.met_least);
          met_queued = λ q. omega (arith, p.met_least);
          all_next = each_more s.queue (index_of n) Next p.all_next
              (next from d n inWave o e (sym (p.sound.same (index_of n)) ∙ f.impassable_is)
              (λ q. true≢false (sym (p.stays (index_of n) h q) ∙ f.blocked_is)));
          stays = λ c k q. at_set (λ y. is_blocked y ≡ true) s.cells (index_of n) x c fit
              (λ i. absurd (true≢false (sym (p.stays c k q) ∙ ap (λ (m : ℕ). is_blocked (get_or s.cells m 0)) i ∙ f.blocked_is)))
              (λ i. p.stays c k q);
          stays_met = λ c k q. at_set (λ y. is_met y ≡ true) s.cells (index_of n) x c fit (λ i. now) (λ i. p.stays_met c k q);
        }

    pub wave_keeps : Keeps corner_line wave walls From Free (Wave least Next Kept Met)
    wave_keeps = record {
      same_walls = λ s p. p.sound.same;
      marks = marks;
      sees = sees;
      draws = λ from d x side a b inWave o f.
          let h : index_of b < 100 = index_below b (stepped_cell (cell_at (index_of x)) side b f.cornered).within in
          (λ i k. (lines.inside (index_of b) h i k, lines.past (index_of b) h (away from d x side a b inWave o f) i k), lines.short (index_of b) h);
    }
