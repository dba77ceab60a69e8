-- The promises leave no choice.
--     walks_decide    two fields with the least walks of the same cells are equal
--     waves_decide    two counts of the same waves are equal
--     values_decide   whatever are waves of these cells leave what the counted ones leave
-- Assumes nothing.
use mathlib.Core.Path.{◌≡◌, sym, ap, ◌∙◌}
use mathlib.Core.Logic.{◌⊎◌, inl, inr}
use mathlib.Core.List.{List}
use Prim.Native.Nat.{ℕ, zero, suc, ◌≤◌}
use native.Mathlib.Omega.{arith}
use lib.ListN.{length, get_or}
use lib.Seq.{ext_get_or}
use Rattle.integration_waves.specs.Waves.{Waves}
use Rattle.integration_waves.proofs.Decided.{waves_decide_values}
use Rattle.integration_field.specs.Word.{low}
use Rattle.integration_field.specs.Walks.{grid}
use Rattle.integration_field.specs.Promise.{Walked, LeastWalks, value_at, OpenAt, Counted}

module _ (costs cells corners : List ℕ) where
  module _ (a b : List ℕ) (p : LeastWalks costs cells corners a) (q : LeastWalks costs cells corners b) where
    abbrev One : List ℕ → ℕ → Type 0
    One l x = (get_or l x 0 ≡ get_or cells x 0) ⊎ Walked costs cells corners x (get_or l x 0)

    same_at : (x : ℕ) → get_or a x 0 ≡ get_or b x 0
    same_at x = go (p.attained x) (q.attained x)
      where
        under : Walked costs cells corners x (get_or b x 0) → low (get_or a x 0) ≤ get_or b x 0
        under w = p.none_below w.moves x (get_or b x 0) w.walk

        over : Walked costs cells corners x (get_or a x 0) → low (get_or b x 0) ≤ get_or a x 0
        over w = q.none_below w.moves x (get_or a x 0) w.walk

        go : One a x → One b x → get_or a x 0 ≡ get_or b x 0
        go (inl e) (inl f) = e ∙ sym f
        go (inl e) (inr w) = absurd (omega (arith, ap low e, w.lower, under w))
        go (inr w) (inl e) = absurd (omega (arith, ap low e, w.lower, over w))
        go (inr v) (inr w) = omega (arith, v.lower, w.lower, under w, over v)

    pub walks_decide : length a ≡ length b → a ≡ b
    walks_decide e = ext_get_or 0 a b e (λ x h. same_at x)

  no_more : (a b : List ℕ) (n m : ℕ) → Counted costs cells corners a n → Counted costs cells corners b m → n ≤ m
  no_more a b zero m p q = omega arith
  no_more a b (suc n) m p q = ((q.exact (suc n)).0 ((p.exact (suc n)).1 (omega arith, omega arith))).1

  pub waves_decide : (a b : List ℕ) (n m : ℕ) → Counted costs cells corners a n → Counted costs cells corners b m → n ≡ m
  waves_decide a b n m p q = omega (arith, no_more a b n m p q, no_more b a m n q p)

  pub values_decide : (a : List ℕ) (n : ℕ) (u : ℕ → ℕ → ℕ) → Counted costs cells corners a n → Waves (grid costs cells corners) (OpenAt costs cells corners) u
      → (k x : ℕ) → u k x ≡ value_at costs cells corners k x
  values_decide a n u p w = waves_decide_values (grid costs cells corners) (OpenAt costs cells corners) u (value_at costs cells corners) w p.are_waves
