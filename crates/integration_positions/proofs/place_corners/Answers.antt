-- `integration_positions::place_corners` meets its contract: each turn hands on the position of one corner more.
-- Assumes nothing.
use mathlib.Core.Path.{◌≡◌, refl}
use Prim.Native.Nat.{◌<◌}
use native.Mathlib.Omega.{arith}
use lib.ListN.{length, take}
use lib.Seq.{get_or-take}
use Rattle.integration_positions.proofs.Starting.{gone_none, decided}
use Rattle.integration_positions.proofs.Standing.{stands_none}
use Rattle.integration_positions.proofs.Labels.{given_corners}
use Rattle.integration_positions.proofs.place_corners.Goals as goal

pub loop-place-init : goal.loop-place-init
loop-place-init c =
    rw c.requires.none_yet
    (let none = stands_none _ _ c.requires.full refl in
    record {
      room = record { entered = _; state = _; stands = none };
      gone = λ costs before f. record { stands = none; gone = gone_none costs before _ _ _ f _ };
    })

pub loop-place-preserved : goal.loop-place-preserved
loop-place-preserved c =
    let l = c.loop-place in
    let a = c.args in
    let corners = take a.count a.corners.now in
    let h : l.place < a.count = omega arith in
    let long : length corners ≡ a.count = given_corners a.corners.now a.count c.requires.listed in
    let more = c.place_corner-queued.ensures in
    record {
      room = more.0;
      gone = λ costs before f.
          more.1 costs before _ _ f (omega (arith, long)) (get_or-take a.count a.corners.now l.place 0 h) (l.invariant.gone costs before f);
    }

pub returns : goal.returns
returns c costs before f =
    let l = c.loop-place in
    let a = c.args in
    let long = given_corners a.corners.now a.count c.requires.listed in
    let e : l.place ≡ length (take a.count a.corners.now) = omega (arith, long) in
    let end = rw e at (l.invariant.gone costs before f) in
    decided costs before _ _ _ f _ end.stands.room end.gone
