-- `leg_moves::accepted_sheet` meets its contract: a line of the table at each return behind a sheet of a floor's length.
-- Assumes nothing.
use Rattle.std.proofs.Common.{◌≡◌, length}
use Rattle.route.proofs.Rows.{tests}
use Rattle.leg_moves.specs.Answers.{cart_number}
use Rattle.leg_moves.proofs.accepted_sheet.Goals as goal

pub returns-then-sector-gt63-clause-number : goal.returns-then-sector-gt63-clause-number
unfolding cart_number
returns-then-sector-gt63-clause-number c = let long : length c.args.sheet.now ≡ 6400 = c.in-Ok.ensures.1.long in search tests

pub returns-then-cell-gt99-clause-number : goal.returns-then-cell-gt99-clause-number
unfolding cart_number
returns-then-cell-gt99-clause-number c = let long : length c.args.sheet.now ≡ 6400 = c.in-Ok.ensures.1.long in search tests

pub returns-clause-number : goal.returns-clause-number
unfolding cart_number
returns-clause-number c = let long : length c.args.sheet.now ≡ 6400 = c.in-Ok.ensures.1.long in search tests
