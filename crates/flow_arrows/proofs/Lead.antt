-- Followed arrows end in the window, or without sight in the goal.
--     arrows_led       from every reached cell, after at most 99 moves, each to a lower cell and none between two walls; and all of 0xE0
--                      stands exactly on walls and unreached cells
--     marked_told      the latter with costs of 0 too
--     arrows_lead      the same of a sector left by a window
--     build_arrows     the same as it is promised of `FlowField::build`
--     made_arrows, once_built_arrows, started_arrows    and of `init` and of building a field
--     window_flow      a window cell's byte: its flags, and the bits of its window
--     points_flow      the byte of a reached cell where arrows do not end: a direction
--     end_flow         the byte of a cell where arrows end: its flags, and bits below 0x20
--     leads_once       following is determined: two ways to follow the arrows from a cell make as many moves
--     move_read        and is the same by the direction that a byte reads as
-- Assumes nothing.
use mathlib.Core.Path.{◌≡◌, refl, sym, ap, subst, ◌∙◌}
use mathlib.Core.Bool.{Bool, true, false, true≢false, ◌||◌}
use mathlib.Core.Logic.Iff
use mathlib.Core.Logic.{◌⊎◌, inl, inr}
use mathlib.Core.List.Memᴰ
use mathlib.Core.List.{List, [], ◌∷◌, Memᴰ}
use Prim.Native.Nat.{ℕ, zero, suc, ◌+◌, ◌*◌, ◌/◌, ◌%◌, ◌^◌, ◌≤◌, ◌<◌}
use native.Mathlib.Omega.{arith}
use lib.Bits.{bit_or}
use lib.ListN.{length, get_or}
use Rattle.utilities.specs.declared.CompassDir.{CompassDir}
use Rattle.utilities.specs.Compass.{all}
use Rattle.std.specs.Prelude.{Some}
use Rattle.fields.specs.Cell.{cell_at, stepped}
use Rattle.fields.proofs.Steps.{stepped_cell}
use Rattle.fields.proofs.Beside.{beside_flip}
use Rattle.route.specs.declared.PortalWindow.{PortalWindow}
use Rattle.route.specs.Step.{portal_of}
use Rattle.route.specs.Target.{Target, to_goal, to_window, to_corner, window_of, EndCell, ends_of, is_sightless, TargetIn, target_of}
use Rattle.integration_field.specs.declared.IntegrationField.{IntegrationField}
use Rattle.integration_field.specs.declared.BuildAnswer.{BuildAnswer}
use Rattle.integration_field.specs.Word.{low, is_goal, is_portal}
use Rattle.integration_field.specs.Word as word
use Rattle.integration_field.specs.Diagonal.{wall_at, passes_wall}
use Rattle.integration_field.specs.Listed.{list_of}
use Rattle.integration_field.specs.Answer.{build_answer}
use Rattle.integration_field.proofs.Flags.{small_flag}
use Rattle.integration_started.specs.StartedCell.{Among}
use Rattle.integration_started.specs.declared.InitAnswer.{InitAnswer}
use Rattle.integration_started.specs.Started.{started, init_number, init_answer}
use Rattle.integration_started.proofs.Started.{accepted_target, answered}
use Rattle.integration_walks.specs.Walks.{Wall}
use Rattle.integration_walks.proofs.Ground.{among_mem, mem_among}
use Rattle.integration_walks.proofs.Promise.{built}
use Rattle.flow_byte.specs.Look.{Look, Looking, Taken, Ended, looked_byte, look_around, pointed, flow_build}
use Rattle.flow_bits.specs.Byte.{bits_of, dir_of, is_impassable}
use Rattle.flow_byte.specs.New.{start_of, window_bits, new_bytes}
use Rattle.flow_arrows.specs.Arrows.{Reached, arrow, Away, Cuts, Move, Leads, ends, moves, CellsMarked, ArrowsLead}
use Rattle.flow_arrows.specs.Promise.{WindowSector, SightlessSector, built_cells, BuildArrows, MadeArrows, OnceBuiltArrows, StartedArrows}
use Rattle.flow_arrows.proofs.Fall.{end_open, EndSector, value, word_low, Plain, end_word_law, wall_word, by_kind, Beside, lower_beside, entered_from_law}
use Rattle.flow_arrows.proofs.Fall.{falls, rank, rank_less, rank_few}
use Rattle.flow_arrows.proofs.Around.{Sees, differ, near_in, reached_there, reached_back, sees_beside}
use Rattle.flow_arrows.proofs.Clear.{arrows_clear, target_on}
use Rattle.flow_arrows.proofs.Look.{Nothing, nothing}
use Rattle.flow_arrows.proofs.Reached.{Found, found}
use Rattle.flow_arrows.proofs.Moves.{away, reads_so, away_once}
use Rattle.flow_arrows.proofs.Bytes.{new_length, Pointed, pointed_is}
use Rattle.flow_arrows.proofs.CellBytes.{small_untaken, end_word, window_listed, end_sector, window_sector}
use Rattle.flow_arrows.proofs.CellBytes.{window_byte, end_byte, end_kept, wall_byte, plain_byte}

-- ---- the walls of a target without sight: cells of cost 255 where arrows do not end

wall_no_end : (costs : List ℕ) (target : Target) → is_sightless target ≡ true → (x : ℕ) → Wall costs target x → Among x (ends_of target) → ⊥
wall_no_end costs (to_goal n) e x w a = true≢false (sym e)
wall_no_end costs (to_window cells) e x w a = w.not_window (among_mem x cells a)
wall_no_end costs (to_corner n) e x w a = w.not_goal (Memᴰ.eq_of_singleton (among_mem x (n ∷ []) a))

end_or_wall : (costs : List ℕ) (target : Target) → is_sightless target ≡ true → (x : ℕ) → get_or costs x 0 ≡ 255 → (Among x (ends_of target) → ⊥)
    → Wall costs target x
end_or_wall costs (to_goal n) e x c a = absurd (true≢false (sym e))
end_or_wall costs (to_window cells) e x c a = record { impassable = c; not_goal = λ g. g; not_window = λ w. a (mem_among x cells w) }
end_or_wall costs (to_corner n) e x c a = record {
  impassable = c;
  not_goal = λ g. a (mem_among x (n ∷ []) (Memᴰ.head g));
  not_window = λ w. absurd (Memᴰ.not-nil w);
}

module _ (costs : List ℕ) (target : Target) (sightless : is_sightless target ≡ true) (cells corners built : List ℕ)
    (s : EndSector costs (ends_of target) (end_word target) cells corners built)
    (portal : PortalWindow) (has : Bool) (previous : List ℕ) where
  abbrev window : List ℕ
  window = window_of target

  abbrev ends_in : List ℕ
  ends_in = ends_of target

  abbrev bytes : List ℕ
  bytes = flow_build built (new_bytes portal window built has previous)

  -- a cell where arrows end costs 0 and is no wall
  end_zero : {w : ℕ} → w ≡ end_word target → low w ≡ 0
  end_zero e = ap low e ∙ word_low s

  end_passable : {w : ℕ} → w ≡ end_word target → word.is_impassable w ≡ false
  end_passable e = ap word.is_impassable e ∙ end_open s.word_is

  -- ---- a move

  -- the walls of document 01 are walls of the built field
  wall_at_law : (x : ℕ) → x < 100 → Wall costs target x → wall_at built x ≡ true
  wall_at_law x h w = ap word.is_impassable (wall_word s x h w.impassable (wall_no_end costs target sightless x w))

  no_cut : (x n : ℕ) → x < 100 → n < 100 → passes_wall built x n ≡ false → Cuts costs target x n → ⊥
  unfolding passes_wall
  no_cut x n h l e c =
      let r : wall_at built (x / 10 * 10 + n % 10) ≡ true = wall_at_law (x / 10 * 10 + n % 10) (omega arith) c.wall_in_row in
      true≢false (rw (differ (x / 10) (n / 10) c.other_row, differ (x % 10) (n % 10) c.other_column, r) at e)

  -- where the byte of a cell points
  record Next (b x : ℕ) : Type 0 where
    way : CompassDir
    next : ℕ
    sees : Sees built x way next
    lower : value s next < b
    byte : get_or bytes x 0 ≡ pointed 0 way

  next_pointed : {b x : ℕ} (n : Next b x) → Pointed n.way
  next_pointed {x = x} n = pointed_is n.way (stepped_cell (cell_at x) n.way (cell_at n.next) n.sees.steps).pointing

  next_arrow : {b x : ℕ} (n : Next b x) → arrow bytes x ≡ bits_of n.way
  next_arrow n = ap (λ (b : ℕ). b % 16) n.byte ∙ (next_pointed n).arrow_is

  next_move_law : {x : ℕ} → x < 100 → (n : Next (value s x) x) → Move costs target built bytes x n.next
  next_move_law {x} h n = record {
    away =
        subst (λ (a : ℕ). Away a x n.next) (sym (next_arrow n))
        (away n.way x n.next (stepped_cell (cell_at x) n.way (cell_at n.next) n.sees.steps));
    inside = near_in n.sees.to;
    lower = omega (arith, n.lower);
    uncut = no_cut x n.next h (near_in n.sees.to) n.sees.open_way;
  }

  -- a goal or portal of the built field is a cell where arrows end, of cost 0
  taken_zero : (n : ℕ) → n < 100 → wall_at built n ≡ false → (is_goal (get_or built n 0) || is_portal (get_or built n 0)) ≡ true → value s n ≡ 0
  taken_zero n h w t =
      by_kind s n h (λ a e. end_zero e) (λ c a e. absurd (true≢false (sym (ap word.is_impassable e) ∙ w)))
      (λ p l. absurd (true≢false (sym t ∙ small_untaken (get_or built n 0) l)))

  next_of : (b x : ℕ) → b ≤ 65535 → Beside s b x → Plain s x → get_or built x 0 < 2 ^ 16 → value s x < 65535 → Next b x
  next_of b x most f p l r =
      go (look_around built x) (plain_byte s window (window_listed target) portal has previous x p l)
      (found built x p.inside reached b f.cell d.0 d.1 d.2 f.below)
    where
      reached : (d : CompassDir) (n : ℕ) → Sees built x d n → low (get_or built n 0) < 65535
      reached d n e = reached_there s x d n e r

      open_cell : wall_at built f.cell ≡ false
      open_cell =
          by_kind s f.cell f.inside (λ a e. end_passable e) (λ c a e. absurd (omega (arith, ap low e, f.below)))
          (λ q m. small_flag (get_or built f.cell 0) 25 (omega arith))

      d : (d : CompassDir) × Memᴰ d all × Sees built x d f.cell
      d = sees_beside built x p.inside f.cell (beside_flip (cell_at f.cell) (cell_at x) f.beside) open_cell

      go : (look : Look) → get_or bytes x 0 ≡ looked_byte 0 look → Found built x b look → Next b x
      go (Looking best v) e q = record { way = best; next = q.0; sees = q.1; lower = q.2; byte = e }
      go (Taken t) e q = record {
        way = t;
        next = q.0;
        sees = q.1;
        lower = omega (arith, f.below, taken_zero q.0 (near_in q.1.to) q.1.no_wall q.2);
        byte = e;
      }
      go (Ended best) e q = absurd q

  -- the byte of a reached cell where arrows do not end: a direction and no flag but that of a path
  cell_points : (x : ℕ) → x < 100 → value s x < 65535 → (EndCell target x → ⊥) → (d : CompassDir) × (get_or bytes x 0 ≡ pointed 0 d)
  cell_points x h v o =
      by_kind s x h (λ a e. absurd (o (among_mem x ends_in a))) (λ c a e. absurd (omega (arith, ap low e)))
      (λ p l. let n = next_of (suc (value s x)) x (omega arith) (entered_from_law s x p v) p l v in (n.way, n.byte))

  -- ---- all of 0xE0

  -- nothing seen from an unreached cell is reached
  plain_unreached : (x : ℕ) → Plain s x → get_or built x 0 < 2 ^ 16 → (value s x < 65535 → ⊥) → is_impassable (get_or bytes x 0) ≡ true
  unfolding pointed
  plain_unreached x p l u =
      rw (plain_byte s window (window_listed target) portal has previous x p l) (go (look_around built x) (nothing built x p.inside unreached))
    where
      unreached : (d : CompassDir) (n : ℕ) → Sees built x d n
          → (low (get_or built n 0) ≡ 65535) × ((is_goal (get_or built n 0) || is_portal (get_or built n 0)) ≡ false)
      unreached d n e =
          let w : value s n < 65535 → ⊥ = λ r. u (reached_back s x d n e (small_flag (get_or built x 0) 25 (omega arith)) r) in
          let v : low (get_or built n 0) ≡ 65535 = omega arith in
          let untaken =
          by_kind s n (near_in e.to) (λ a q. absurd (omega (arith, end_zero q)))
          (λ c a q. absurd (true≢false (sym (ap word.is_impassable q) ∙ e.no_wall)))
          (λ q m. small_untaken (get_or built n 0) m) in
          (v, untaken)

      go : (look : Look) → Nothing built x p.inside unreached look → is_impassable (looked_byte 0 look) ≡ true
      go (Looking best v) q = rw q.0
      go (Taken t) q = absurd q
      go (Ended best) q = rw q

  marked_cell : (x : ℕ) → x < 100 → is_impassable (get_or bytes x 0) ≡ true → Wall costs target x ⊎ (Reached built x → ⊥)
  marked_cell x h m =
      by_kind s x h (λ a e. absurd (true≢false (sym m ∙ (end_kept s window (window_listed target) portal has previous x h e).unmarked)))
      (λ c a e. inl (end_or_wall costs target sightless x c a))
      (λ p l. inr (λ r. (
      let v : value s x < 65535 = omega arith in
      let n = next_of (suc (value s x)) x (omega arith) (entered_from_law s x p v) p l v in
      true≢false (sym m ∙ ap is_impassable n.byte ∙ (next_pointed n).unmarked)
      )))

  cell_marked : (x : ℕ) → x < 100 → Wall costs target x ⊎ (Reached built x → ⊥) → is_impassable (get_or bytes x 0) ≡ true
  cell_marked x h (inl w) =
      by_kind s x h
      (λ a e. absurd (wall_no_end costs target sightless x w a))
      (λ c a e. ap is_impassable (wall_byte s window (window_listed target) portal has previous x h a e))
      (λ p l. absurd (p.no_wall w.impassable))
  cell_marked x h (inr u) =
      by_kind s x h
      (λ a e. absurd (u (omega (arith, end_zero e))))
      (λ c a e. ap is_impassable (wall_byte s window (window_listed target) portal has previous x h a e))
      (λ p l. plain_unreached x p l (λ v. u (omega arith)))

  cells_marked : CellsMarked costs target built bytes
  cells_marked x h = Iff.symm (cell_marked x h, marked_cell x h)

  module _ (cost-from : (x : ℕ) → x < 100 → 1 ≤ get_or costs x 0) where
    -- ---- the arrows lead to where they end

    abbrev Led : ℕ → Type 0
    Led x = (n : ℕ) × (n ≤ rank s x) × Leads costs target built bytes n x

    lead : (r x : ℕ) → x < 100 → rank s x < r → value s x < 65535 → Led x
    lead zero x h l v = absurd (omega arith)
    lead (suc r) x h l v =
        by_kind s x h (λ a e. (zero, omega arith, ends (among_mem x ends_in a))) (λ c a e. absurd (omega (arith, ap low e)))
        (λ p q.
        let n = next_of (value s x) x (omega arith) (lower_beside s (falls s cost-from x p v)) p q v in
        let to = near_in n.sees.to in
        let less = rank_less s x n.next to n.lower in
        let rest = lead r n.next to (omega arith) (omega (arith, n.lower)) in
        (suc rest.0, omega (arith, rest.1), moves (λ w. p.no_end (mem_among x ends_in w)) (next_move_law h n) rest.2))

    sector_arrows : ArrowsLead costs target built bytes
    sector_arrows = record {
      leads = λ x h r.
          (let few = rank_few s x h in
          let l = lead 100 x h (omega arith) (omega arith) in
          (l.0, omega (arith, l.1), l.2));
      marked = cells_marked;
    }

-- ---- a sector without sight, and one left by a window

pub arrows_led : (costs : List ℕ) (target : Target) → SightlessSector costs target → (portal : PortalWindow) (has : Bool) (previous : List ℕ)
    → ArrowsLead costs target (built_cells costs target)
    (flow_build (built_cells costs target) (new_bytes portal (window_of target) (built_cells costs target) has previous))
arrows_led costs target w portal has previous =
    sector_arrows costs target w.sightless (started costs target).field (list_of (started costs target)) (built_cells costs target)
    (end_sector costs target w.full w.target_in w.sightless w.byte) portal has previous w.no_zero

-- with costs of 0 too, all of 0xE0 stands exactly on walls and unreached cells
pub marked_told : (costs : List ℕ) (target : Target) → length costs ≡ 100 → TargetIn target → is_sightless target ≡ true
    → ((x : ℕ) → x < 100 → get_or costs x 0 ≤ 255) → (portal : PortalWindow) (has : Bool) (previous : List ℕ)
    → CellsMarked costs target (built_cells costs target)
    (flow_build (built_cells costs target) (new_bytes portal (window_of target) (built_cells costs target) has previous))
marked_told costs target full inside e byte portal has previous =
    cells_marked costs target e (started costs target).field (list_of (started costs target)) (built_cells costs target)
    (end_sector costs target full inside e byte) portal has previous

pub window_sightless : (costs : List ℕ) (target : Target) → WindowSector costs target → SightlessSector costs target
window_sightless costs (to_goal goal) w = absurd (true≢false (sym w.is_by_window))
window_sightless costs (to_window window) w = record { full = w.full; no_zero = w.no_zero; byte = w.byte; target_in = w.target_in; sightless = refl }
window_sightless costs (to_corner goal) w = absurd (true≢false (sym w.is_by_window))

pub arrows_lead : (costs : List ℕ) (target : Target) → WindowSector costs target → (portal : PortalWindow) (has : Bool) (previous : List ℕ)
    → ArrowsLead costs target (built_cells costs target)
    (flow_build (built_cells costs target) (new_bytes portal (window_of target) (built_cells costs target) has previous))
arrows_lead costs target w = arrows_led costs target (window_sightless costs target w)

-- the byte there of a cell where arrows end: its flags, and bits below 0x20
pub end_flow : (costs : List ℕ) (target : Target) → SightlessSector costs target → (portal : PortalWindow) (has : Bool) (previous : List ℕ)
    → (x : ℕ) → x < 100 → EndCell target x
    → (b : ℕ) × (b < 32)
    × (get_or (flow_build (built_cells costs target) (new_bytes portal (window_of target) (built_cells costs target) has previous)) x 0
    ≡ bit_or (start_of (end_word target)) b)
end_flow costs target w portal has previous x h m =
    let s = end_sector costs target w.full w.target_in w.sightless w.byte in
    end_byte s (window_of target) (window_listed target) portal has previous x h (end_word_law s x (mem_among x (ends_of target) m))

-- the byte there of a reached cell where they do not end
pub points_flow : (costs : List ℕ) (target : Target) → length costs ≡ 100 → TargetIn target → is_sightless target ≡ true
    → ((x : ℕ) → x < 100 → get_or costs x 0 ≤ 255) → (portal : PortalWindow) (has : Bool) (previous : List ℕ)
    → (x : ℕ) → x < 100 → Reached (built_cells costs target) x → (EndCell target x → ⊥)
    → (d : CompassDir)
    × (get_or (flow_build (built_cells costs target) (new_bytes portal (window_of target) (built_cells costs target) has previous)) x 0 ≡ pointed 0 d)
points_flow costs target full inside e byte portal has previous x h r =
    cell_points costs target e (started costs target).field (list_of (started costs target)) (built_cells costs target)
    (end_sector costs target full inside e byte) portal has previous x h r

-- a window cell's byte there: its flags, and the bits of its window
pub window_flow : (costs window : List ℕ) → WindowSector costs (to_window window) → (portal : PortalWindow) (has : Bool) (previous : List ℕ)
    → (x : ℕ) → x < 100 → Memᴰ x window
    → get_or (flow_build (built_cells costs (to_window window)) (new_bytes portal window (built_cells costs (to_window window)) has previous)) x 0
    ≡ bit_or 0x90 (window_bits portal has previous x)
window_flow costs window w portal has previous x h m =
    let a = mem_among x window m in
    let s = window_sector costs window w.full w.target_in w.byte in
    window_byte s portal has previous x h a (end_word_law s x a)

-- for a call that writes what building makes of a sheet of 100 bytes
pub build_arrows : (cells entry exit : List ℕ) → (length entry ≡ 100 → exit ≡ flow_build cells entry) → BuildArrows cells entry exit
build_arrows cells entry exit writes = record {
  arrows = λ costs step has previous w c e.
      (let made : exit ≡ flow_build cells entry = writes (ap length e ∙ new_length (portal_of step) (window_of (target_of step)) cells has previous) in
      rw (made, e, c) (arrows_lead costs (target_of step) w (portal_of step) has previous));
  clear = λ costs step has previous full inside c e.
      (let made : exit ≡ flow_build cells entry = writes (ap length e ∙ new_length (portal_of step) (window_of (target_of step)) cells has previous) in
      rw (made, e, c) (arrows_clear costs (target_of step) full inside (portal_of step) (target_on step) has previous));
}

-- of the built cells of an accepted step; costs are bytes
module _ (costs : List ℕ) (byte : (x : ℕ) → x < 100 → get_or costs x 0 ≤ 255) where
  made_arrows : (step : List ℕ) → init_number costs step ≡ 0 → MadeArrows costs step (built_cells costs (target_of step))
  made_arrows step good =
      let a = accepted_target costs step good in
      record {
        lead = λ w z has previous.
            arrows_lead costs (target_of step) (record { full = a.0; no_zero = z; byte = byte; target_in = a.1; is_by_window = w }) (portal_of step) has previous;
        clear = λ has previous. arrows_clear costs (target_of step) a.0 a.1 (portal_of step) (target_on step) has previous;
      }

  pub once_built_arrows : (step : List ℕ) (r : InitAnswer) → r ≡ init_answer costs step → r.number ≡ 0 → OnceBuiltArrows costs step r.field
  once_built_arrows step = answered costs step (OnceBuiltArrows costs step) (made_arrows step)

  pub started_arrows : (f : IntegrationField) (r : BuildAnswer) → r ≡ build_answer costs f → StartedArrows costs f r.field.field
  started_arrows f r e step good q =
      let a = accepted_target costs step good in
      let cells : r.field.field ≡ built_cells costs (target_of step) =
      ap (λ (b : BuildAnswer). b.field.field) (e ∙ built costs (target_of step) a.0 a.1 f q) in
      rw cells (made_arrows step good)

-- ---- following is determined

module _ (costs : List ℕ) (target : Target) (built bytes : List ℕ) where
  pub leads_once : {n m x : ℕ} → Leads costs target built bytes n x → Leads costs target built bytes m x → n ≡ m
  leads_once (ends a) (ends b) = refl
  leads_once (ends a) (moves o p q) = absurd (o a)
  leads_once (moves o p q) (ends b) = absurd (o b)
  leads_once {x = x} (moves {y = y} o p q) (moves {y = z} u v w) =
      let c : z ≡ y = away_once (arrow bytes x) x z y v.away p.away in
      ap suc (leads_once q (rw c at w))

  -- a move goes where the direction that its byte reads as steps
  pub move_read : {x y : ℕ} → Move costs target built bytes x y → stepped (cell_at x) (dir_of (get_or bytes x 0)) ≡ Some (cell_at y)
  move_read {x = x} {y = y} m = reads_so (get_or bytes x 0) x y m.inside m.away
