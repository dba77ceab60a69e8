-- `Wave::propagate_los` meets its contract. It calls itself with one less of `falling`, which is its measure.
-- Assumes nothing.
use Rattle.std.proofs.Common.{◌≡◌, ℕ, suc, ◌+◌, ◌-◌, [], take, sym, ap, ◌∙◌, arith}
use Rattle.fields.specs.CellList.{held}
use Rattle.integration_started.specs.CornerLine.{corner_line}
use Rattle.integration_started.specs.Sight.{Sight, sight_after}
use Rattle.integration_started.proofs.Waves.{ended}
use Rattle.integration_init.specs.Held.{sight_of}
use Rattle.integration_init.proofs.Held.{held_all, all_ready}
use Rattle.integration_init.proofs.Spreads.{all_begins}
use Rattle.integration_init.proofs.Walls.{lent_wave}
use Rattle.integration_init.proofs.Waves.{wave_next, held_as, held_same, held_wavefront}
use Rattle.integration_init.proofs.Wave.+propagate_los.Goals as goal

-- without a wave the sight at entry is what every later wave leaves
pub returns-then-cells-eq0 : goal.returns-then-cells-eq0
returns-then-cells-eq0 t c before k e f =
    let a = c.args in
    let goal = a.self.now.goal in
    let wave = held a.cells.now in
    let empty : wave ≡ [] = ap (λ (n : ℕ). take n a.cells.now.cells) c.if-cells-eq0.true in
    let over = sym (ap (λ (s : Sight). s.queue) f) ∙ empty in
    held_as wave c.requires.ready (f ∙ sym (ended (corner_line goal) before goal k (k + a.falling) (omega arith) over))

pub propagate_los-requires : goal.propagate_los-requires
propagate_los-requires t c =
    let a = c.args in
    let w = a.self.now in
    let p = c.requires in
    let ready = all_ready c.spread_wave.ensures in
    let begun = sight_of a.field.now [] in (
      omega arith,
      record {
        ready = all_begins ready;
        cells_in = held_wavefront ready;
        next_full = p.cells_in.full;
        goal_in = p.goal_in;
        falling_in = omega (arith, p.falling_in);
        ends_lent = rw c.spread_wave.ensures.held.cells_held
            (lent_wave (corner_line w.goal) w.cost (omega (arith, p.falling_in)) _ _ begun (held a.cells.now) p.ends_lent);
      },
    )

pub returns : goal.returns
returns t c before k e f =
    let a = c.args in
    let w = a.self.now in
    let line = corner_line w.goal in
    let entry = sight_of a.field.now (held a.cells.now) in
    let more : w.cost + 1 ≡ suc (suc k) = omega arith in
    let p : suc k + (a.falling - 1) ≡ k + a.falling = omega arith in
    let wave_is = held_all c.spread_wave.ensures ∙ wave_next line before w.goal k w.cost entry e f in
    held_same (c.propagate_los.ensures before (suc k) more wave_is) (ap (sight_after line before w.goal) p)
