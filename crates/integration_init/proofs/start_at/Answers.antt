-- `integration_init::start_at` meets its contract: walls, then the window. The loop's invariant: what is left of the window from place i on does
-- what the whole window does to the walls, the cells before it are listed, and no cell has a position.
-- Assumes nothing.
use Rattle.std.proofs.Common.{◌≡◌, ℕ, take, sym, ap, ◌∙◌, arith}
use lib.Seq.{slice}
use Rattle.route.specs.Inner.{held_cells}
use Rattle.integration_field.specs.Listed.{padded}
use Rattle.integration_started.specs.Sight.{walls, with_portals}
use Rattle.integration_init.proofs.Starts.{portal_step, portal_end, portal_listed, portal_put}
use Rattle.integration_init.proofs.start_at.Goals as goal

pub loop-i-preserved : goal.loop-i-preserved
loop-i-preserved c =
    let w = c.args.window in
    let h = c.requires in
    let l = c.loop-i in
    rw c.from-n.ensures (record {
      left = l.invariant.left ∙ portal_step w h l.i l.field.field c.loop-i-test.true;
      corners = portal_listed w h l.i l.field.los_corners c.loop-i-test.true l.invariant.corners;
      none = l.invariant.none;
    })

pub returns : goal.returns
returns c =
    let w = c.args.window in
    let h = c.requires in
    let l = c.loop-i in
    let e : l.i ≡ w.count = omega arith in
    let marked : l.field.field ≡ with_portals (held_cells w) (walls c.args.costs.now) =
    sym (l.invariant.left ∙ ap (λ (k : ℕ). with_portals (slice k w.count w.cells) l.field.field) e ∙ portal_end w h l.field.field) in
    portal_put w h _ _ _ _ marked (l.invariant.corners ∙ ap (λ (k : ℕ). padded (take k w.cells)) e) l.invariant.none
