-- What the call promises, of any answer that is the definition's.
--     promised     the answer, the rules of slanted and of straight rays, the two mirrors, and a refused answer
-- Assumes nothing.
use mathlib.Core.Path.{◌≡◌, refl, sym, ap, subst, ◌∙◌}
use mathlib.Core.Bool.{Bool, true, false, ◌&&◌}
use Rattle.fields.specs.declared.FieldCell.{FieldCell}
use Rattle.fields.specs.Cell.{Inside, inside}
use Rattle.line_end.specs.declared.LineEnd.{LineEnd}
use Rattle.line_end.specs.LineEnd.{line_end, line_end_answer}
use Rattle.line_end.specs.Away.{Straight, Slanted, HoldsSlanted, HoldsStraight, EndRefused}
use Rattle.line_end.specs.Mirror.{HoldsMirrored}
use Rattle.line_end.proofs.Slanted.{end_slanted}
use Rattle.line_end.proofs.Laws.{end_answered, end_straight}
use Rattle.line_end.proofs.Mirror.{mirrored_ends}

module _ (corner goal : FieldCell) (r : LineEnd) (e : r ≡ line_end_answer corner goal) where
  here : Inside corner → Inside goal → r.cell ≡ line_end corner goal
  here h k = ap (λ (l : LineEnd). l.cell) (e ∙ end_answered corner goal h k)

  slanted_held : HoldsSlanted corner goal r
  slanted_held s = subst (Slanted corner goal) (sym (here s.corner_in s.goal_in)) (end_slanted corner goal s)

  straight_held : HoldsStraight corner goal r
  straight_held h k = subst (Straight corner goal) (sym (here h k)) (end_straight corner goal h)

  zero_refused : (r.number ≡ 0 → ⊥) → EndRefused r
  unfolding line_end_answer
  zero_refused h = go (inside corner && inside goal) refl
    where
      go : (b : Bool) → (inside corner && inside goal) ≡ b → EndRefused r
      go true q = absurd (h (rw (e, q)))
      go false q = rw (e, q) (record { column = refl; row = refl })

  pub promised : (r ≡ line_end_answer corner goal)
      × (HoldsSlanted corner goal r × (HoldsStraight corner goal r × (HoldsMirrored corner goal r × ((r.number ≡ 0 → ⊥) → EndRefused r))))
  promised = (e, (slanted_held, (straight_held, (mirrored_ends corner goal r e, zero_refused))))
