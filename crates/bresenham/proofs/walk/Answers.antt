-- `bresenham::walk` meets its contract: a step writes one cell more, and after the last of them the cells of the walk are written.
-- The difference grows by less than 20 at each of at most ten steps, so that no sum wraps.
-- Assumes nothing.
use Rattle.std.proofs.Common.{◌≡◌, ℕ, ◌+◌, ◌-◌, ◌≤◌, Bool, sym, ap, ◌∙◌, arith}
use Rattle.fields.specs.declared.FieldCell.{FieldCell}
use Rattle.fields.specs.declared.CellList.{CellList}
use Rattle.fields.specs.Cell.{index_of}
use Rattle.line_nearest.specs.Line.{distance, toward, offset_at, cell_on_axes}
use Rattle.line_nearest.proofs.Offset.{State, start, at_step, up, level}
use Rattle.line_nearest.proofs.Walks.{cells_many}
use Rattle.bresenham.specs.Inner.{major_of, minor_of}
use Rattle.bresenham.proofs.Places.{none_written, one_more_law}
use Rattle.bresenham.proofs.Drawn.{major_in, minor_in, walk_drawn}
use Rattle.bresenham.proofs.walk.Invariants.{walked_at, index_at}
use Rattle.bresenham.proofs.walk.Goals as goal
use Rattle.bresenham.proofs.walk.Goals.{then-difference-span, else-difference-span}

pub loop-k-init : goal.loop-k-init
loop-k-init c =
    let a = c.args in
    let m = c.major.result - c.major-start.result in
    let room = major_in a.steep a.to c.requires.1 in
    let near = minor_in a.steep a.from c.requires.0 in
    let far = minor_in a.steep a.to c.requires.1 in
    record {
      small = omega arith;
      put = ap (λ (l : CellList 10). l.cells) c.none-drawn.ensures ∙ sym (none_written m (index_at a.steep a.from a.to) (omega arith) a.back);
      state = start c.abs_diff-rise.result m;
    }

-- where the coordinates of both ends are known
module _
    (steep : Bool) (s t : FieldCell) {first last near far : ℕ}
    (is_first : first ≡ major_of steep s) (is_last : last ≡ major_of steep t) (is_near : near ≡ minor_of steep s) (is_far : far ≡ minor_of steep t) where
  -- the index is that of the definition's cell
  index : (rise k offset difference minor x : ℕ) → rise ≡ distance near far → State rise (last - first) k offset difference → k ≤ last - first
      → minor ≡ toward near far offset → x ≡ index_of (cell_on_axes steep (first + k) minor) → x ≡ index_at steep s t k
  index rise k offset difference minor x e h room m i =
      let aside = at_step rise (last - first) h room ∙ ap (λ (d : ℕ). offset_at d (last - first) k) e in
      rw (← is_first, ← is_last, ← is_near, ← is_far)
      (i ∙ ap (λ (b : ℕ). index_of (cell_on_axes steep (first + k) b)) (m ∙ ap (toward near far) aside))

pub loop-k-preserved : goal.loop-k-preserved
loop-k-preserved c =
    let a = c.args in
    let l = c.loop-k in
    let m = c.major.result - c.major-start.result in
    let rise = c.abs_diff-rise.result in
    let s = l.invariant.state in
    let room = major_in a.steep a.to c.requires.1 in
    let near = minor_in a.steep a.from c.requires.0 in
    let far = minor_in a.steep a.to c.requires.1 in
    let i =
    index a.steep a.from a.to c.major-start.ensures c.major.ensures c.minor-near.ensures c.minor-far.ensures rise l.k l.offset l.difference
    c.moved.result c.index_on_axes.result c.abs_diff-rise.ensures s (omega arith) c.moved.ensures.0 c.index_on_axes.ensures in
    let one =
    one_more_law m (index_at a.steep a.from a.to) (omega arith) a.back l.k l.drawn.cells l.invariant.put c.list_place-place.result
    c.index_on_axes.result (omega arith) c.list_place-place.ensures.0 i in
    elim c.if-difference-span.branch [
      | then-difference-span w ↦ record {
        small = omega arith;
        put = one;
        state = rw (w.offset-is, w.difference-is) (up rise m s w.if-difference-span.true);
      }
      | else-difference-span w ↦ record {
        small = omega arith;
        put = one;
        state = rw (w.offset-is, w.difference-is) (level rise m s w.if-difference-span.false);
      }
    ]

pub returns : goal.returns
returns c =
    let a = c.args in
    let first = major_of a.steep a.from in
    let last = major_of a.steep a.to in
    let room = major_in a.steep a.to c.requires.1 in
    let put = rw (c.major.ensures, c.major-start.ensures) at c.loop-k.invariant.put in
    rw (c.major.ensures, c.major-start.ensures, cells_many first last (omega arith))
    (walk_drawn (last - first) (walked_at a.steep a.from a.to) (omega arith) a.back c.loop-k.k c.loop-k.drawn.cells put (omega arith))
