-- `leg_moves::way` meets its contract: refused by its number, or the moves from the place.
-- Assumes nothing.
use Rattle.std.proofs.Common.{sym, ap₂, ◌∙◌}
use Rattle.refusals.proofs.Numbers.{not_zero}
use Rattle.leg_moves.specs.Answers.{way_from}
use Rattle.leg_moves.proofs.Numbers.{taken}
use Rattle.leg_moves.proofs.Calls.{refuses_way, takes_way}
use Rattle.leg_moves.proofs.way.Goals as goal

pub place_of-requires : goal.place_of-requires
place_of-requires c =
    let t = taken c.args.sheet.now c.args.sector c.args.cell (sym c.in-Ok.ensures.number) in
    (t.sector_in, t.cell_in)

pub returns-in-Ok : goal.returns-in-Ok
returns-in-Ok c =
    let p =
    takes_way c.args.sheet.now c.args.sector c.args.cell (sym c.in-Ok.ensures.number) c.way_from.result
    (c.way_from.ensures ∙ ap₂ way_from c.in-Ok.ensures.sheet c.place_of.ensures) in
    record { answer = p.0; numbers = p.1.0; refused = p.1.1.0; told = p.1.1.1.0; to_goal = p.1.1.1.1 }

pub returns-in-Err : goal.returns-in-Err
returns-in-Err c =
    let n = c.number.ensures ∙ c.in-Err.ensures.number in
    let p = refuses_way c.args.sheet.now c.args.sector c.args.cell c.number.result n (λ z. not_zero c.in-Err.refusal (sym c.number.ensures ∙ z)) in
    record { answer = p.0; numbers = p.1.0; refused = p.1.1.0; told = p.1.1.1.0; to_goal = p.1.1.1.1 }
