-- `settle` stops at the first wave that changes no cell, wherever it is told that there is one.
--     settled       what it answers: the cells of wave n, where each wave up to n changes a cell and the next changes none
--     settle_any    whatever proof it is given
-- Assumes nothing.
use mathlib.Core.Path.{◌≡◌, refl, sym, ap, ◌∙◌}
use mathlib.Core.Bool.{Bool, true, false}
use mathlib.Core.List.{List, []}
use Prim.Native.Nat.{ℕ, zero, suc, ◌+◌, ◌<◌}
use native.Mathlib.Nat.{zero-add, suc-add, add-suc, le_refl}
use native.Mathlib.Omega.{arith}
use Rattle.integration_field.specs.Wave.{Wave, next, wave_at}
use Rattle.integration_field.specs.Rest.{Rests, sum_of_words, comes_to_rest}
use Rattle.integration_field.specs.Build.{Built, is_empty, settle, build}

module _ (costs : List ℕ) where
  pub settle_none : (w : Wave) (h : Rests costs zero w) → settle costs zero w h ≡ record { cells = w.cells; waves = 0 }
  unfolding settle
  settle_none w h = refl

  pub settle_stop : (n : ℕ) (w : Wave) (h : Rests costs (suc n) w) → is_empty (next costs w).changed ≡ true
      → settle costs (suc n) w h ≡ record { cells = w.cells; waves = 0 }
  unfolding settle
  settle_stop n w h e = rw (e, settle)

  pub settle_more : (n : ℕ) (w : Wave) (h : Rests costs (suc n) w) → is_empty (next costs w).changed ≡ false
      → settle costs (suc n) w h ≡ record { cells = (settle costs n (next costs w) h).cells; waves = suc (settle costs n (next costs w) h).waves }
  unfolding settle
  settle_more n w h e = rw (e, settle)

  pub empty_is : (l : List ℕ) → l ≡ [] → is_empty l ≡ true
  unfolding is_empty
  empty_is l e = rw e

  -- the answer is the same for every proof that waves come to rest
  pub settle_any : (n m : ℕ) (w : Wave) (h : Rests costs n w) (k : Rests costs m w) → settle costs n w h ≡ settle costs m w k
  settle_any zero zero w h k = settle_none w h ∙ sym (settle_none w k)
  settle_any zero (suc m) w h k = settle_none w h ∙ sym (settle_stop m w k (empty_is (next costs w).changed h))
  settle_any (suc n) zero w h k = settle_stop n w h (empty_is (next costs w).changed k) ∙ sym (settle_none w k)
  settle_any (suc n) (suc m) w h k = go (is_empty (next costs w).changed) refl (settle_any n m (next costs w) h k)
    where
      go : (b : Bool) → is_empty (next costs w).changed ≡ b → settle costs n (next costs w) h ≡ settle costs m (next costs w) k
          → settle costs (suc n) w h ≡ settle costs (suc m) w k
      go true e ih = settle_stop n w h e ∙ sym (settle_stop m w k e)
      go false e ih = settle_more n w h e ∙ ap (λ (r : Built). record { cells = r.cells; waves = suc r.waves }) ih ∙ sym (settle_more m w k e)

  module _ (cells corners : List ℕ) where
    abbrev at : ℕ → Wave
    at = wave_at costs cells corners

    pub next_wave : (k : ℕ) → next costs (at k) ≡ at (suc k)
    unfolding wave_at
    next_wave k = refl

    -- what settling from wave k on comes to
    pub record Settled (k : ℕ) (b : Built) : Type 0 where
      pub is : b.cells ≡ (at (b.waves + k)).cells
      pub each : (i : ℕ) → i < b.waves → is_empty (at (suc (i + k))).changed ≡ false
      pub still : is_empty (at (suc (b.waves + k))).changed ≡ true

    at_once : (k : ℕ) (w : Wave) → w ≡ at k → is_empty (next costs w).changed ≡ true → Settled k (record { cells = w.cells; waves = 0 })
    at_once k w e h = record {
      is = rw zero-add (ap (λ (u : Wave). u.cells) e);
      each = λ i l. absurd (omega arith);
      still = rw (zero-add, ← next_wave k, ← e) h;
    }

    settled_from : (n k : ℕ) (w : Wave) (h : Rests costs n w) → w ≡ at k → Settled k (settle costs n w h)
    settled_from zero k w h e = rw (settle_none w h) (at_once k w e (empty_is (next costs w).changed h))
    settled_from (suc n) k w h e = go (is_empty (next costs w).changed) refl (settled_from n (suc k) (next costs w) h (ap (next costs) e ∙ next_wave k))
      where
        r : Built
        r = settle costs n (next costs w) h

        go : (b : Bool) → is_empty (next costs w).changed ≡ b → Settled (suc k) r → Settled k (settle costs (suc n) w h)
        go true q s = rw (settle_stop n w h q) (at_once k w e q)
        go false q s =
            let first : is_empty (at (suc k)).changed ≡ false = rw (← next_wave k, ← e) q in
            rw (settle_more n w h q) (record {
              is = rw (suc-add, ← add-suc) s.is;
              each = λ i. elim i as (λ m. m < suc r.waves → is_empty (at (suc (m + k))).changed ≡ false) [
                | zero ↦ λ l. rw zero-add first
                | suc j ↦ λ l. rw (suc-add, ← add-suc) (s.each j (omega arith))
              ];
              still = rw (suc-add, ← add-suc) s.still;
            })

    -- the answer is that of any number of waves that is enough
    pub settle_build : (n : ℕ) (h : Rests costs n (record { cells = cells; changed = corners }))
        → settle costs n (record { cells = cells; changed = corners }) h ≡ build costs cells corners
    unfolding build
    settle_build n h = settle_any n (sum_of_words cells) (record { cells = cells; changed = corners }) h (comes_to_rest costs (sum_of_words cells) _ (le_refl (sum_of_words cells)))

    pub settled : Settled 0 (build costs cells corners)
    unfolding build wave_at
    settled = settled_from (sum_of_words cells) 0 (record { cells = cells; changed = corners }) (comes_to_rest costs (sum_of_words cells) _ (le_refl (sum_of_words cells))) refl
