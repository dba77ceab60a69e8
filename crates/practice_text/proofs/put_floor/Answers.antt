-- `practice_text::put_floor` meets its contract: ten rows, the goal behind them, and a line feed.
-- Assumes nothing.
use Rattle.std.proofs.Common.{arith}
use Rattle.practice_text.proofs.Laws.{floor_length, floor_put}
use Rattle.practice_text.proofs.put_floor.Goals as goal

pub returns : goal.returns
returns c =
    let goal = c.put_decimal-end.ensures in
    let floor = c.args.floor in (
      omega arith,
      omega (arith, floor_length floor),
      rw (goal.text, goal.count.1, c.put_rows.ensures) (floor_put floor c.args.out.now),
    )
