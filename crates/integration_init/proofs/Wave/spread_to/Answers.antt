-- `Wave::spread_to` meets its contract: case by case of what the neighbour is. A neighbour in sight is no wall, so it is left as it is.
-- Assumes nothing.
use Rattle.std.proofs.Common.{◌≡◌, ℕ, Bool, false, ◌||◌, arith, sym, ◌∙◌}
use lib.ListN.{get_or}
use Rattle.fields.specs.CellList.{held}
use Rattle.integration_field.specs.Word.{is_los, is_goal, is_blocked, is_impassable}
use Rattle.integration_started.specs.Sight.{wall_met, seen, spread_to}
use Rattle.integration_started.specs.CornerLine.{corner_line}
use Rattle.integration_init.specs.Held.{sight_of}
use Rattle.integration_init.proofs.Spreads.{all_begins, wall_held, seen_room, seen_held}
use Rattle.integration_init.proofs.Masks.{none_set, one_set}
use Rattle.integration_init.proofs.Walls.{ends_met}
use Rattle.integration_init.proofs.Wave.spread_to.Goals as goal

-- what is known of a neighbour's word that is not left as it is
none : (x : ℕ) {left : Bool} → left ≡ ((is_blocked x || is_goal x) || is_los x) → left ≡ false
    → (is_blocked x ≡ false) × (is_goal x ≡ false) × (is_los x ≡ false)
none x e f = none_set (is_blocked x) (is_goal x) (is_los x) (sym e ∙ f)

pub returns-then-is_left_alone : goal.returns-then-is_left_alone
unfolding spread_to
returns-then-is_left_alone c =
    let a = c.args in
    let x = get_or a.field.now.field a.n 0 in
    let sight = sight_of a.field.now (held a.next.now) in
    let line = corner_line a.self.now.goal in
    rw (one_set (is_blocked x) (is_goal x) (is_impassable x) (is_los x) sight
    (wall_met line a.self.now.cost a.from a.n a.dir sight) (seen a.self.now.cost a.n sight)
    (sym c.is_left_alone.ensures ∙ c.if-is_left_alone.true) (c.requires.0.ready.room.seen_open a.n c.requires.1))
    c.requires.0.ready

pub meet_wall-requires : goal.meet_wall-requires
meet_wall-requires c =
    let w = c.requires.0.in_wave in
    let met = ends_met _ _ c.args.field.now.field c.args.n (sym c.is_impassable.ensures ∙ c.if-is_impassable.true) w.ends in
    record {
      ready = all_begins c.requires.0.ready;
      in_wave = record { wave_in = w.wave_in; goal_in = w.goal_in; from_in = w.from_in; ends = met };
      wall_in = c.requires.1;
    }

pub returns-then-is_impassable : goal.returns-then-is_impassable
unfolding spread_to
returns-then-is_impassable c =
    let a = c.args in
    let n = none (get_or a.field.now.field a.n 0) c.is_left_alone.ensures c.if-is_left_alone.false in
    rw (n.0, n.1, sym c.is_impassable.ensures ∙ c.if-is_impassable.true)
    (wall_held c.requires.0.ready (wall_met (corner_line a.self.now.goal) a.self.now.cost a.from a.n a.dir) c.meet_wall.ensures)

-- one that comes into sight: there is room for it
pub push-requires : goal.push-requires
push-requires c =
    let n = none (get_or c.args.field.now.field c.args.n 0) c.is_left_alone.ensures c.if-is_left_alone.false in
    (omega arith, seen_room c.requires.0.ready c.args.n c.requires.1 n.2 n.0)

pub returns : goal.returns
unfolding spread_to
returns c =
    let n = none (get_or c.args.field.now.field c.args.n 0) c.is_left_alone.ensures c.if-is_left_alone.false in
    rw (c.push.ensures, n.0, n.1, n.2, sym c.is_impassable.ensures ∙ c.if-is_impassable.false)
    (seen_held c.requires.0.ready c.args.n c.requires.1 n.2 n.0 c.args.self.now.cost c.requires.0.in_wave.wave_in)
