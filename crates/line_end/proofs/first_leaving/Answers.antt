-- `line_end::first_leaving` meets its contract. The invariant: the first that ends the line, of all columns, is the first of those from the present one on.
-- Assumes nothing.
use Rattle.std.proofs.Common.{◌≡◌, ℕ, zero, suc, ◌+◌, ◌-◌, ◌<◌, Bool, true, false, refl, sym, ◌∙◌, arith}
use borrow.Author.Tests.{lt-ltb, le-ltb}
use Rattle.line_end.specs.LineEnd.{leaves, first_ending}
use Rattle.line_end.proofs.first_leaving.Invariants.{ends}
use Rattle.line_end.proofs.first_leaving.Goals as goal

module _ (ends : ℕ → Bool) where
  stops : (n j : ℕ) → first_ending ends n j true ≡ j
  unfolding first_ending
  stops zero j = refl
  stops (suc n) j = refl

  none_left : (n j : ℕ) (b : Bool) → n ≡ 0 → first_ending ends n j b ≡ j
  unfolding first_ending
  none_left n j b e = rw e

  goes_on : (n j : ℕ) → j < n → first_ending ends (n - j) j false ≡ first_ending ends (n - (j + 1)) (j + 1) (ends (j + 1))
  unfolding first_ending
  goes_on n j h =
      let e : n - j ≡ suc (n - (j + 1)) = omega arith in
      let f : j + 1 ≡ suc j = omega arith in
      rw (e, f)

pub returns-then-nearest_row-behind : goal.returns-then-nearest_row-behind
returns-then-nearest_row-behind c =
    let a = c.args in
    let j = c.loop-j.j in
    let t : leaves a.rise a.span a.behind (a.span + j) ≡ true = lt-ltb _ _ (rw c.nearest_row.ensures at c.if-nearest_row-behind.true) in
    (sym (c.loop-j.invariant ∙ rw t (stops (ends a.rise a.span a.behind) (a.columns - j) j)), omega arith)

pub loop-j-preserved : goal.loop-j-preserved
loop-j-preserved c =
    let a = c.args in
    let j = c.loop-j.j in
    let t : leaves a.rise a.span a.behind (a.span + j) ≡ false = le-ltb _ _ (rw c.nearest_row.ensures at c.if-nearest_row-behind.false) in
    c.loop-j.invariant ∙ rw t (goes_on (ends a.rise a.span a.behind) a.columns j (omega arith))

pub returns : goal.returns
returns c =
    let a = c.args in
    let e : c.loop-j.j ≡ a.columns = omega arith in
    (sym (c.loop-j.invariant ∙ none_left (ends a.rise a.span a.behind) (a.columns - c.loop-j.j) c.loop-j.j _ (omega arith) ∙ e), omega arith)
