-- `leg_field::field_of` meets its contract: the costs that are lent are the sector's own.
-- Assumes nothing.
use Rattle.std.proofs.Common.{◌≡◌, ℕ, ◌+◌, ◌-◌, ◌*◌, length, take, drop, length-take, length-drop, refl, ◌∙◌, arith}
use Rattle.route.specs.Inner.{held_target}
use Rattle.route.proofs.Targets.{held_in}
use Rattle.integration_walks.proofs.Promise.{accepts_started}
use Rattle.leg_field.proofs.field_of.Goals as goal

pub build_with_positions-requires : goal.build_with_positions-requires
build_with_positions-requires c =
    let a = c.args in
    let at : ℕ = a.sector * 100 in
    let whole = (rw c.unwrap-costs.ensures at c.try_from.ensures.1) in
    let hundred : length (take (at + 100 - at) (drop at a.floor.now)) ≡ 100 = simp (length-take, length-drop) (omega arith) in
    rw (c.start-field.ensures, whole.same) (accepts_started _ (held_target a.target) hundred (held_in a.target c.requires.target_held))

pub returns : goal.returns
returns c =
    let a = c.args in
    let at : ℕ = a.sector * 100 in
    let whole = (rw c.unwrap-costs.ensures at c.try_from.ensures.1) in
    let hundred : at + 100 - at ≡ 100 = omega arith in
    c.build_with_positions.ensures ∙ rw (c.start-field.ensures, whole.same, hundred) refl
