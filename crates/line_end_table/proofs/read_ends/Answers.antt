-- `line_end_table::read_ends` meets its contract: each corner's end is read in its row, at the goal.
-- Assumes nothing.
use mathlib.Core.Path.{◌≡◌, ◌∙◌}
use mathlib.Core.List.{[]}
use Prim.Native.Nat.{ℕ}
use borrow.Author.Rules.{rules}
use lib.ListN.{get_or}
use Rattle.line_end_table.proofs.Table.{in_row, made_at}
use Rattle.line_end_table.proofs.read_ends.Goals as goal

pub returns : goal.returns
returns c =
    let read = c.from_fn.ensures.items in
    record {
      full = read.long;
      each = λ corner h.
          made_at _ _ _ (λ (i e : ℕ). e ≡ get_or (get_or c.lay_out.new.ends i []) c.args.goal 0) (λ i y q k. search rules) 100 read corner h 0
          ∙ in_row c.lay_out.new.ends c.lay_out.ensures corner c.args.goal h c.requires;
    }
