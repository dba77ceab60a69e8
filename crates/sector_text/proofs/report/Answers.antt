-- `sector_text::report` meets its contract: an input too short to have costs, or what the sector call answers for its parts.
-- Assumes nothing.
use Rattle.std.proofs.Common.{◌≡◌, false, [], replicate, ◌∙◌}
use Rattle.sector.specs.Sector.{sector_answer, sector_sheet}
use Rattle.sector_text.specs.Text.{rendered}
use Rattle.sector_text.proofs.Laws.{printed_short, printed_answer}
use Rattle.sector_text.proofs.report.Goals as goal

pub returns-then-input-lt100 : goal.returns-then-input-lt100
unfolding rendered
returns-then-input-lt100 c =
    let e = printed_short c.args.input.now (replicate 100 0) c.if-input-lt100.true in
    let put = rw c.number.ensures at c.put_no.ensures in
    record { count = (put.0, put.1 ∙ rw e); text = put.2 ∙ rw e }

pub returns : goal.returns
returns c =
    let input = c.args.input.now in
    let parts = c.split_at.ensures in
    let costs = c.split_at.result.0.now in
    let step = c.split_at.result.1.now in
    let planned = c.plan_sector-answer in
    let sheet = planned.new.sheet in
    let answer : planned.result ≡ sector_answer costs step false [] (replicate 100 0) = planned.ensures.answer in
    let bytes : sheet ≡ sector_sheet costs step false [] (replicate 100 0) = planned.ensures.sheet in
    let e = printed_answer input planned.result sheet (rw (parts.front, parts.back) at answer) (rw (parts.front, parts.back) at bytes) in
    let put = c.render.ensures in
    record { count = (put.count.0, put.count.1 ∙ rw e); text = put.text ∙ rw e }
