-- It does not matter in which order a wave's cells are listed: where two lists have the same members, the waves from them are the same.
--     offers_same     the offers of both leave the same cells
--     settles_same    and the waves come to the same
-- Assumes nothing.
use mathlib.Core.Path.{◌≡◌, refl, sym, ap, subst, ◌∙◌}
use mathlib.Core.Bool.{Bool, true, false}
use mathlib.Core.List.{List, Memᴰ}
use Prim.Native.Nat.{ℕ, zero, suc, ◌≤◌}
use native.Mathlib.Omega.{arith}
use lib.ListN.{get_or}
use lib.Seq.{ext_get_or}
use Rattle.integration_field.specs.Word.{low, is_open}
use Rattle.integration_field.specs.Wave.{Wave, offered_by, changed_from, next}
use Rattle.integration_field.specs.Rest.{Rests}
use Rattle.integration_field.specs.Build.{Built, is_empty, settle}
use Rattle.integration_field.proofs.Offers.{Held, kept, written, Offer, offers_made, offers_taken}
use Rattle.integration_field.proofs.Settled.{settle_none, settle_stop, settle_more, settle_any}
use Rattle.integration_build.specs.Wavefront.{Settles}

-- each member of the one is a member of the other
abbrev pub MembersIn : List ℕ → List ℕ → Type 0
MembersIn is js = (x : ℕ) → Memᴰ x is → Memᴰ x js

-- ---- the offers

module _ (costs old cells : List ℕ) where
  -- what a list's offers wrote to an open cell is no lower than what another list's leave there, if that one has its members
  least : (is js : List ℕ) → MembersIn is js → (z s : ℕ) → is_open (get_or cells z 0) ≡ true → Offer costs old is z s
      → low (get_or (offered_by costs old js cells) z 0) ≤ s
  least is js m z s o f = omega (arith, f.sum, offers_taken costs old js cells f.origin z (m f.origin f.listed) f.neighbour o)

  module _ (is js : List ℕ) (there : MembersIn is js) (back : MembersIn js is) where
    same_at : (z a b : ℕ) → a ≡ get_or (offered_by costs old is cells) z 0 → b ≡ get_or (offered_by costs old js cells) z 0
        → Held (Offer costs old is z) (get_or cells z 0) a → Held (Offer costs old js z) (get_or cells z 0) b → a ≡ b
    same_at z a b p q (kept e) (kept f) = e ∙ sym f
    same_at z a b p q (written l o f) (kept e) = absurd (omega (arith, least is js there z a o f, ap low q, ap low e))
    same_at z a b p q (kept e) (written l o f) = absurd (omega (arith, least js is back z b o f, ap low p, ap low e))
    same_at z a b p q (written l o f) (written k u g) =
        omega (arith, least is js there z a o f, least js is back z b u g, ap low p, ap low q)

    pub offers_same : offered_by costs old is cells ≡ offered_by costs old js cells
    offers_same =
        let a = offers_made costs old is cells in
        let b = offers_made costs old js cells in
        ext_get_or 0 (offered_by costs old is cells) (offered_by costs old js cells) (a.size ∙ sym b.size)
        (λ z h. same_at z _ _ refl refl (a.cell z) (b.cell z))

-- ---- the waves

module _ (costs : List ℕ) where
  -- what waves come to is decided by the cells and the wave after
  rests_by : (n : ℕ) (w u : Wave) → next costs w ≡ next costs u → Rests costs n w → Rests costs n u
  rests_by zero w u e h = ap (λ (v : Wave). v.changed) (sym e) ∙ h
  rests_by (suc n) w u e h = subst (Rests costs n) e h

  settle_at : (n : ℕ) (w u : Wave) → w ≡ u → (h : Rests costs n w) (k : Rests costs n u) → settle costs n w h ≡ settle costs n u k
  settle_at n w u e h = subst (λ (v : Wave). (k : Rests costs n v) → settle costs n w h ≡ settle costs n v k) e (settle_any costs n n w h)

  settle_by : (n : ℕ) (w u : Wave) → w.cells ≡ u.cells → next costs w ≡ next costs u → (h : Rests costs n w) (k : Rests costs n u)
      → settle costs n w h ≡ settle costs n u k
  settle_by zero w u c e h k = settle_none costs w h ∙ ap (λ (x : List ℕ). record { cells = x; waves = 0 }) c ∙ sym (settle_none costs u k)
  settle_by (suc n) w u c e h k = go (is_empty (next costs u).changed) refl
    where
      same : is_empty (next costs w).changed ≡ is_empty (next costs u).changed
      same = ap (λ (v : Wave). is_empty v.changed) e

      go : (b : Bool) → is_empty (next costs u).changed ≡ b → settle costs (suc n) w h ≡ settle costs (suc n) u k
      go true q =
          settle_stop costs n w h (same ∙ q)
          ∙ ap (λ (x : List ℕ). record { cells = x; waves = 0 }) c
          ∙ sym (settle_stop costs n u k q)
      go false q =
          settle_more costs n w h (same ∙ q)
          ∙ ap (λ (r : Built). record { cells = r.cells; waves = suc r.waves }) (settle_at n (next costs w) (next costs u) e h k)
          ∙ sym (settle_more costs n u k q)

  module _ (cells is js : List ℕ) (there : MembersIn is js) (back : MembersIn js is) where
    next_same : next costs (record { cells = cells; changed = is }) ≡ next costs (record { cells = cells; changed = js })
    unfolding next
    next_same = ap (λ (x : List ℕ). record { cells = x; changed = changed_from 0 cells x }) (offers_same costs cells cells is js there back)

    pub settles_same : {falling waves : ℕ} {left : List ℕ} → Settles costs cells is falling left waves → Settles costs cells js falling left waves
    settles_same {falling} s = record {
      within = s.within;
      settled = λ h.
          let k = rests_by falling (record { cells = cells; changed = js }) (record { cells = cells; changed = is }) (sym next_same) h in
          s.settled k ∙ settle_by falling (record { cells = cells; changed = is }) (record { cells = cells; changed = js }) refl next_same k h;
    }
