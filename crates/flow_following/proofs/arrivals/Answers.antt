-- `flow_following::arrivals` meets its contract: refused by its length, or the numbers of all cells.
-- Assumes nothing.
use Rattle.std.proofs.Common.{sym}
use Rattle.flow_following.proofs.Laws.{accepts, refuses}
use Rattle.flow_following.proofs.arrivals.Goals as goal

pub returns-in_default : goal.returns-in_default
returns-in_default c =
    let r = refuses c.args.sheet.now _ c.number.ensures c.in_default.ensures.cases in
    record {
      answer = r.answer;
      told = r.told;
      by_window = r.by_window;
      whole_way = r.whole_way;
      without_sight = r.without_sight;
      refused = r.refused;
    }

pub returns : goal.returns
returns c =
    let whole = c.in-Some.ensures.cases in
    let r = accepts c.args.sheet.now _ whole.long (rw (sym whole.same) c.all_moves.ensures) in
    record {
      answer = r.answer;
      told = r.told;
      by_window = r.by_window;
      whole_way = r.whole_way;
      without_sight = r.without_sight;
      refused = r.refused;
    }
