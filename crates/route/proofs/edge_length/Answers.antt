-- `route::edge_length` meets its contract: a side's edge has ten cells, and a direction that is no side has none.
-- Assumes nothing.
use mathlib.Core.Path.{ap, sym, ◌∙◌}
use mathlib.Core.Logic.{⊎_elim}
use Rattle.route.proofs.Cells.{edge_count, edge_length, edge_none}
use Rattle.route.proofs.edge_length.Goals as goal

pub returns-in-North : goal.returns-in-North
returns-in-North c = sym (edge_length c.args.boundary ∙ ⊎_elim (ap edge_count) (⊎_elim (ap edge_count) (⊎_elim (ap edge_count) (ap edge_count))) c.in-North.is)

pub returns-in_default : goal.returns-in_default
returns-in_default c =
    let d = c.in_default in
    sym (edge_length c.args.boundary ∙ edge_none c.args.boundary d.not-North d.not-East d.not-South d.not-West)
