-- `flow_build::point_cells` meets its contract: one byte more is by its look.
-- Assumes nothing.
use Rattle.std.proofs.Common.{◌≡◌, ℕ, List, get_or, ap, ◌∙◌, arith}
use Rattle.flow_byte.proofs.Sheets.{fill_more, fill_all, still_old}
use Rattle.flow_build.specs.Inner.{byte_after}
use Rattle.flow_build.proofs.point_cells.Goals as goal

-- the byte of cell k, by the two arrays and the old bytes
abbrev rule : List ℕ → List ℕ → List ℕ → ℕ → ℕ
rule best bits old k = byte_after (get_or old k 0) (get_or best k 0) (get_or bits k 0)

pub loop-i-preserved : goal.loop-i-preserved
loop-i-preserved c =
    let l = c.loop-i in
    let a = c.args in
    let old = a.sheet.now in
    let g = rule a.best.now a.bits.now old in
    let same = still_old g old l.i l.sheet l.invariant in
    let byte = c.byte_after.ensures ∙ ap (λ (b : ℕ). byte_after b (get_or a.best.now l.i 0) (get_or a.bits.now l.i 0)) same in
    fill_more g old l.i l.sheet _ (omega arith) byte l.invariant

pub returns : goal.returns
returns c =
    let l = c.loop-i in
    let a = c.args in
    let e : l.i ≡ 100 = omega arith in
    fill_all (rule a.best.now a.bits.now a.sheet.now) a.sheet.now 100 l.sheet (omega arith) (rw e at l.invariant)
