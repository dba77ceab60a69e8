-- `sector_text::put_no` meets its contract: `no`, a space, the number's digits and a line feed, stored one behind the other.
-- Assumes nothing.
use Rattle.std.proofs.Common.{◌≡◌, ℕ, ◌≤◌, List, [], ◌∷◌, length, drop, refl, arith, length-append}
use lib.ListN.{set}
use Rattle.print_text.specs.Rows.{decimal}
use Rattle.print_text.proofs.Laws.{sets_append}
use Rattle.sector_text.specs.Text.{no_text}
use Rattle.sector_text.proofs.put_no.Goals as goal

-- the three bytes before what stands behind them are set one after the other
begun : (l : List ℕ) → 3 ≤ length l → 110 ∷ 111 ∷ 32 ∷ drop 3 l ≡ set (set (set l 0 110) 1 111) 2 32
begun [] h = absurd (omega arith)
begun (a ∷ []) h = absurd (omega arith)
begun (a ∷ b ∷ []) h = absurd (omega arith)
begun (a ∷ b ∷ c ∷ l) h = refl

pub returns : goal.returns
unfolding no_text
returns c =
    let d = c.put_decimal-end.ensures in
    let a = c.args in
    let first = c.copy_from_slice.ensures.after in
    let all = begun a.out.now (omega arith) in (
      omega arith,
      omega (arith, length-append (decimal a.number) (10 ∷ [])),
      rw (d.text, d.count.1, first, all) (sets_append (set (set (set a.out.now 0 110) 1 111) 2 32) (decimal a.number) (10 ∷ []) 3),
    )
