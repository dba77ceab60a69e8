-- What a cell is before sight: one that was chosen, as the goal or a window cell, or else what its cost says.
--     unchosen                              a cell that is not chosen
--     chosen_word, wall_word, other_word    its word, by what it is
--     only_wall                             only walls have the flag
--     fails                                 a flag that none of the three words has
--     only_chosen                           a flag that neither of the other two has
-- Assumes nothing.
use mathlib.Core.Path.{◌≡◌, refl, sym, ap, ◌∙◌}
use mathlib.Core.Bool.{Bool, true, false, cond, true≢false}
use mathlib.Core.List.{List}
use Prim.Native.Nat.{ℕ, ◌<◌}
use lib.Dec.{eqb}
use lib.ListN.{length, get_or, length-map}
use borrow.Author.Tests.{eqb-true, eqb-false}
use Rattle.integration_field.specs.Word.{is_impassable}
use Rattle.integration_started.specs.Sight.{wall_or, walls}
use Rattle.integration_started.proofs.Words.{word_at}

pub walls_length : (costs : List ℕ) → length (walls costs) ≡ length costs
unfolding walls
walls_length costs = length-map costs wall_or

-- the word that chosen cells get
module _ (costs : List ℕ) (Chosen : ℕ → Type 0) (word : ℕ) where
  pub data Before (i x : ℕ) : Type 0 where
    chosen : Chosen i → x ≡ word → Before i x
    a_wall : (Chosen i → ⊥) → get_or costs i 0 ≡ 255 → x ≡ 0x200FFFF → Before i x
    an_other : (Chosen i → ⊥) → (get_or costs i 0 ≡ 255 → ⊥) → x ≡ 65535 → Before i x

  pub unchosen : (i : ℕ) → i < length costs → (Chosen i → ⊥) → Before i (get_or (walls costs) i 0)
  unchosen i h n = go (eqb (get_or costs i 0) 255) refl
    where
      word_by : (t : Bool) → eqb (get_or costs i 0) 255 ≡ t → get_or (walls costs) i 0 ≡ cond t 0x200FFFF 65535
      word_by t e = word_at costs i h ∙ ap (λ (b : Bool). cond b 0x200FFFF 65535) e

      go : (t : Bool) → eqb (get_or costs i 0) 255 ≡ t → Before i (get_or (walls costs) i 0)
      go true e = a_wall n (eqb-true (get_or costs i 0) 255 e) (word_by true e)
      go false e = an_other n (eqb-false (get_or costs i 0) 255 e) (word_by false e)

  pub chosen_word : (i x : ℕ) → Before i x → Chosen i → x ≡ word
  chosen_word i x (chosen q e) p = e
  chosen_word i x (a_wall n c e) p = absurd (n p)
  chosen_word i x (an_other n c e) p = absurd (n p)

  pub wall_word : (i x : ℕ) → Before i x → get_or costs i 0 ≡ 255 → (Chosen i → ⊥) → x ≡ 0x200FFFF
  wall_word i x (chosen q e) p n = absurd (n q)
  wall_word i x (a_wall n c e) p _ = e
  wall_word i x (an_other n c e) p _ = absurd (c p)

  pub other_word : (i x : ℕ) → Before i x → (get_or costs i 0 ≡ 255 → ⊥) → (Chosen i → ⊥) → x ≡ 65535
  other_word i x (chosen q e) p n = absurd (n q)
  other_word i x (a_wall n c e) p _ = absurd (p c)
  other_word i x (an_other n c e) p _ = e

  pub only_wall : is_impassable word ≡ false → (i x : ℕ) → Before i x → is_impassable x ≡ true → (get_or costs i 0 ≡ 255) × (Chosen i → ⊥)
  only_wall f i x (chosen q e) t = absurd (true≢false (sym t ∙ ap is_impassable e ∙ f))
  only_wall f i x (a_wall n c e) t = (c, n)
  only_wall f i x (an_other n c e) t = absurd (true≢false (sym t ∙ ap is_impassable e))

  pub fails : (f : ℕ → Bool) → f word ≡ false → f 0x200FFFF ≡ false → f 65535 ≡ false → (i x : ℕ) → Before i x → f x ≡ false
  fails f p q r i x (chosen _ e) = ap f e ∙ p
  fails f p q r i x (a_wall _ _ e) = ap f e ∙ q
  fails f p q r i x (an_other _ _ e) = ap f e ∙ r

  pub only_chosen : (f : ℕ → Bool) → f 0x200FFFF ≡ false → f 65535 ≡ false → (i x : ℕ) → Before i x → f x ≡ true → Chosen i
  only_chosen f q r i x (chosen c e) t = c
  only_chosen f q r i x (a_wall _ _ e) t = absurd (true≢false (sym t ∙ ap f e ∙ q))
  only_chosen f q r i x (an_other _ _ e) t = absurd (true≢false (sym t ∙ ap f e ∙ r))
