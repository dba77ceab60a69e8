-- One wave of the recursion, and all of them.
--     settles_none       no wave is left
--     settles_empty      a wave from no cell changes none
--     settles_still      a wave that changes no cell is the last
--     settles_more       a wave that changes a cell, and then the waves from those cells
--     settles_on         where no wave is left to run, the count stays
--     settles_all        where none was counted before, the count is of all
--     corners_few        the corners of an accepted field have room
--     waves_ready        and so has the first wave
--     built_cells_law    any number of waves from 99 on gives the definition's cells and count
--     built_is           and the record with those cells is the built field
--     positions_ready    in which positions are sought
-- Assumes nothing.
use mathlib.Core.Path.{◌≡◌, refl, sym, ap, ap₂, subst, ◌∙◌}
use mathlib.Core.Bool.{false}
use mathlib.Core.List.{List, [], Memᴰ}
use Prim.Native.Nat.{ℕ, zero, suc, ◌+◌, ◌-◌, ◌≤◌}
use native.Mathlib.Nat.{pos_of_ne-zero}
use native.Mathlib.Decide.{ℕ_discrete}
use native.Mathlib.Numerals.{add-one}
use native.Mathlib.Omega.{arith}
use lib.ListN.{length, get_or}
use lib.Seq.{ext_get_or}
use Rattle.integration_field.specs.declared.IntegrationField.{IntegrationField}
use Rattle.fields.specs.declared.CellList.{CellList}
use Rattle.fields.specs.CellList.{held}
use Rattle.integration_field.specs.Listed.{padded, Indexes, list_of}
use Rattle.integration_field.specs.Wave.{offered_by, changed_from, next}
use Rattle.integration_field.specs.Rest.{none_changed}
use Rattle.integration_field.specs.Build.{Built, is_empty, build}
use Rattle.integration_field.specs.Answer.{Accepted}
use Rattle.integration_field.proofs.Lists.{padded_length, padded_list, padded_at, corners_length}
use Rattle.integration_field.proofs.Settled.{settle_none, settle_more, settle_any, settle_build}
use Rattle.integration_field.proofs.Least.{rests_within}
use Rattle.integration_field.proofs.Answers.{all_cells_law, all_below}
use Rattle.integration_build.proofs.Changed.{changed_member, member_changed, changed_first_member}
use Rattle.integration_build.proofs.Members.{settles_same}
use Rattle.integration_positions.specs.Inner.{BuiltFrom}
use Rattle.integration_build.specs.Without.{built_without}
use Rattle.integration_build.specs.Wavefront.{Settles, SettlesFrom}
use Rattle.integration_build.specs.Inner.{ChangedCells, WavesReady}

has_member : (l : List ℕ) (x : ℕ) → Memᴰ x l → is_empty l ≡ false
unfolding is_empty
has_member l x (Memᴰ.head e) = refl
has_member l x (Memᴰ.tail m) = refl

pub settles_empty : (costs cells : List ℕ) (wave : CellList 100) (falling : ℕ) → wave.count ≡ 0 → Settles costs cells (held wave) falling cells 0
unfolding next offered_by
settles_empty costs cells wave falling e =
    rw e (record { within = omega arith; settled = λ h. let q = none_changed costs 0 cells in sym (settle_any costs falling 0 _ h q ∙ settle_none costs _ q) })

module _ (costs cells wave : List ℕ) where
  pub settles_none : Settles costs cells wave 0 cells 0
  settles_none = record { within = omega arith; settled = λ h. sym (settle_none costs _ h) }

  -- a wave made: the cells that it left, and in the first places those that it changed
  module _ (new : List ℕ) (changed : CellList 100) (full : length cells ≡ 100) (made : new ≡ offered_by costs cells wave cells)
      (found : ChangedCells cells new changed) where
    pub settles_still : (falling : ℕ) → changed.count ≡ 0 → Settles costs cells wave falling new 0
    unfolding next
    settles_still falling e =
        let same : new ≡ cells = ext_get_or 0 new cells (found.full ∙ sym full)
        (λ x h. elim (ℕ_discrete (get_or new x 0) (get_or cells x 0)) [ yes q ↦ q | no d ↦ absurd (omega (arith, (found.listed x d).place_in)) ]) in
        let q : (next costs (record { cells = cells; changed = wave })).changed ≡ [] = ap (changed_from 0 cells) (sym made ∙ same) ∙ none_changed costs 0 cells in
        record {
          within = omega arith;
          settled = λ h. ap (λ (x : List ℕ). record { cells = x; waves = 0 }) same ∙ sym (settle_any costs falling 0 _ h q ∙ settle_none costs _ q);
        }

    pub settles_more : (falling : ℕ) (left : List ℕ) (waves : ℕ) → (falling ≡ 0 → ⊥) → (changed.count ≡ 0 → ⊥)
        → Settles costs new (held changed) (falling - 1) left waves
        → Settles costs cells wave falling left (waves + 1)
    unfolding next
    settles_more zero left waves f e s = absurd (f refl)
    settles_more (suc n) left waves f e s =
        let less : suc n - 1 ≡ n = omega arith in
        let after = offered_by costs cells wave cells in
        let same = settles_same costs new (held changed) (changed_from 0 cells new) (changed_member found full) (member_changed found full) s in
        let t : Settles costs after (changed_from 0 cells after) n left waves = rw (less, made) at same in
        let one = rw made at (changed_first_member found full (pos_of_ne-zero e)) in
        record {
          within = omega (arith, t.within);
          settled = λ h. rw (add-one waves, settle_more costs n _ h (has_member (changed_from 0 cells after) (get_or changed.cells 0 0) one))
              (ap (λ (b : Built). record { cells = b.cells; waves = suc b.waves }) (t.settled h));
        }

module _ {costs cells wave : List ℕ} {falling : ℕ} {left : List ℕ} where
  pub settles_on : {counted : ℕ} → Settles costs cells wave falling left 0 → SettlesFrom costs cells wave counted falling left counted
  settles_on {counted} s = record { more = 0; counted_on = omega arith; settles = s }

  pub settles_all : {waves : ℕ} → SettlesFrom costs cells wave 0 falling left waves → Settles costs cells wave falling left waves
  settles_all {waves} s = let e : s.more ≡ waves = omega arith in subst (λ (n : ℕ). Settles costs cells wave falling left n) e s.settles

module _ (costs : List ℕ) (f : IntegrationField) (long : length f.los_corners ≡ 100) (a : Accepted costs f) where
  pub corners_few : length (list_of f) ≤ 100
  corners_few = omega (arith, corners_length f long a.count_in, a.count_in)

  places_in : Indexes 100 (padded (list_of f)) (length (list_of f))
  places_in = record {
    full = padded_length (list_of f) corners_few;
    count_in = corners_few;
    cells_in = λ i h. rw (padded_at (list_of f) i h) (all_below (list_of f) a.corners_in i h);
  }

  -- wave 0; and any number of waves from 99 on is enough
  module _ (wave : CellList 100) (first : wave ≡ record { cells = padded (list_of f); count = length (list_of f) }) (full : length f.field ≡ 100) where
    pub waves_ready : WavesReady f.field wave
    waves_ready = rw first (record { full = full; wave_in = places_in })

    pub built_cells_law : {m : ℕ} {left : List ℕ} {waves : ℕ} → Settles costs f.field (held wave) m left waves → 99 ≤ m
        → record { cells = left; waves = waves } ≡ build costs f.field (list_of f)
    built_cells_law {m} {left} {waves} s h =
        let enough = rests_within costs f.field (list_of f) full (all_cells_law (list_of f) a.corners_in) m h in
        let same : held wave ≡ list_of f = ap (λ (w : CellList 100). held w) first ∙ padded_list (list_of f) in
        let t : Settles costs f.field (list_of f) m left waves = rw same at s in
        t.settled enough ∙ settle_build costs f.field (list_of f) m enough

  -- the field with the cells that they leave, and its corners
  pub built_is : {left places : List ℕ} → left ≡ (build costs f.field (list_of f)).cells → places ≡ padded (list_of f)
      → record { field = left; los_corners = places; count = f.count; positions = f.positions } ≡ built_without costs f
  built_is {left} e cleared =
      ap₂ (λ (l : List ℕ) (n : ℕ). record { field = left; los_corners = l; count = n; positions = f.positions })
      cleared (sym (corners_length f long a.count_in))
      ∙ ap (λ (x : List ℕ). record { field = x; los_corners = padded (list_of f); count = length (list_of f); positions = f.positions }) e

  -- what positions are sought in
  pub positions_ready : length f.field ≡ 100 → (n : IntegrationField) → n ≡ built_without costs f → BuiltFrom costs f.field n.field n.los_corners n.count
  positions_ready full n e = rw e (record {
    full = full;
    listed = places_in;
    is_built = ap (λ (l : List ℕ). (build costs f.field l).cells) (sym (padded_list (list_of f)));
  })
