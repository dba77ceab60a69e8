-- A cell of a line, marked in a field.
--     kept_mark    one that is BLOCKED already is left as it is
--     new_mark     any other is marked and listed
-- Assumes nothing.
use mathlib.Core.Path.{◌≡◌, refl, ap, ap₂, ◌∙◌}
use mathlib.Core.Bool.{true, false}
use mathlib.Core.List.{List, [], ◌∷◌, ◌++◌}
use Prim.Native.Nat.{ℕ, ◌+◌, ◌<◌}
use native.Mathlib.Omega.{arith}
use lib.ListN.{length, get_or, set, length-append}
use Rattle.integration_field.specs.declared.IntegrationField.{IntegrationField}
use Rattle.integration_field.specs.Word.{is_blocked}
use Rattle.integration_field.specs.Listed.{list_of}
use Rattle.integration_field.proofs.Lists.{padded_push}
use Rattle.integration_started.specs.Sight.{marked}
use Rattle.integration_started.proofs.Room.{room_corner, room_listed}
use Rattle.integration_init.specs.Held.{sight_of, Applied}
use Rattle.integration_init.specs.Inner.{ToMark}
use Rattle.integration_init.proofs.Held.{applied_still}

module _ {f : IntegrationField} {n value : ℕ} (given : ToMark f n value) where
  pub kept_mark : is_blocked (get_or f.field n 0) ≡ true → Applied (marked value n) f f
  unfolding marked
  kept_mark e = rw e (applied_still given.ready)

  pub mark_room : is_blocked (get_or f.field n 0) ≡ false → f.count < 100
  mark_room e = omega (arith, given.ready.held.count_held, room_corner (sight_of f []) given.ready.room n given.cell_in e)

  pub new_mark : is_blocked (get_or f.field n 0) ≡ false
      → Applied (marked value n) f (record {
        field = set f.field n (value + 0x40000 + 0x4000000);
        los_corners = set f.los_corners f.count n;
        count = f.count + 1;
        positions = f.positions;
      })
  unfolding marked
  new_mark e queue =
      let l = list_of f in
      let h = given.ready.held in
      let room = mark_room e in
      let short : length l < 100 = omega (arith, h.count_held) in
      let sum : value + 0x40000 + 0x4000000 ≡ value + 0x4040000 = omega arith in
      let long : length (l ++ n ∷ []) ≡ length l + 1 = length-append l (n ∷ []) in
      rw e (record {
        room = λ r. room_listed (sight_of f queue) r value n given.cell_in given.value_in e;
        queued = refl;
        held = record {
          cells_held = ap (set f.field n) sum;
          corners_held = ap₂ (λ (x : List ℕ) (k : ℕ). set x k n) h.corners_held h.count_held ∙ padded_push l n short;
          count_held = omega (arith, h.count_held);
          no_positions_held = h.no_positions_held;
        };
      })
