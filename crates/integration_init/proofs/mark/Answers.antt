-- `integration_init::mark` meets its contract: a cell that is not BLOCKED is marked and listed, and there is a place for it.
-- Assumes nothing.
use Rattle.std.proofs.Common.{sym, ◌∙◌}
use Rattle.integration_init.proofs.Marks.{kept_mark, mark_room, new_mark}
use Rattle.integration_init.proofs.mark.Goals as goal

pub returns-then-is_blocked : goal.returns-then-is_blocked
returns-then-is_blocked c = kept_mark c.requires (sym c.is_blocked.ensures ∙ c.if-is_blocked.true)

pub bounds-field-field : goal.bounds-field-field
bounds-field-field c = mark_room c.requires (sym c.is_blocked.ensures ∙ c.if-is_blocked.false)

pub returns : goal.returns
returns c = new_mark c.requires (sym c.is_blocked.ensures ∙ c.if-is_blocked.false)
