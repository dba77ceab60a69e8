-- The first bytes of a flow field, as the program makes them.
--     bits_length          or-ing bits on keeps the length
--     bits_step, bits_end  window cell by window cell
--     new_made             flags, then each window cell's bits: the bytes of a new flow field, where no window cell comes twice
--     start_made           without window cells the flags alone
--     step_bytes           and what the first bytes are for a parsed step
-- Assumes nothing.
use mathlib.Core.Path.{◌≡◌, refl, sym, ap, ◌∙◌}
use mathlib.Core.Bool.{Bool, true, false, cond, ◌||◌}
use mathlib.Core.List.{List, [], ◌∷◌, map}
use Prim.Native.Nat.{ℕ, suc, ◌+◌, ◌<◌, ◌≤◌}
use native.Mathlib.Omega.{arith}
use lib.Dec.{eqb}
use lib.Bits.{bit_or, or_zero_r}
use lib.ListN.{length, get_or, set, drop, length-set}
use lib.Seq.{get_or-set_same, get_or-set_other, ext_get_or}
use borrow.Author.Tests.{eqb-true, eqb-false}
use Rattle.std.specs.Prelude.{Some, None}
use Rattle.std.proofs.lemmas.List.{at_drop_more, at_drop_all}
use Rattle.utilities.specs.Lists.{below}
use Rattle.route.specs.declared.PortalWindow.{PortalWindow}
use Rattle.route.specs.Step.{goal_of, is_window, window_cells, portal_of, route_step}
use Rattle.route.specs.Target.{to_goal, to_window, window_of, target_of, WindowIn}
use Rattle.flow_byte.specs.New.{start_of, window_bits, is_in, new_byte, new_bytes, flow_new}
use Rattle.flow_arrows.proofs.Fall.{in_among}
use Rattle.flow_new.specs.Inner.{start_bytes, with_bits, first_bytes}
use Rattle.utilities.proofs.Lists.{table_length, table_at}

module _ (portal : PortalWindow) (has : Bool) (previous : List ℕ) where
  abbrev bits : ℕ → ℕ
  bits = window_bits portal has previous

  abbrev ored : List ℕ → List ℕ → List ℕ
  ored = with_bits portal has previous

  -- what is left of the window from place i on: its first cell, and then the others
  pub bits_step : (ns sheet : List ℕ) (i : ℕ) → i < length ns
      → let n = get_or ns i 0 in ored (drop i ns) sheet ≡ ored (drop (i + 1) ns) (set sheet n (bit_or (get_or sheet n 0) (bits n)))
  unfolding with_bits
  bits_step ns sheet i h = at_drop_more (λ l. ored l sheet) ns i 0 h

  pub bits_end : (ns sheet : List ℕ) (i : ℕ) → length ns ≤ i → ored (drop i ns) sheet ≡ sheet
  unfolding with_bits
  bits_end ns sheet i h = at_drop_all (λ l. ored l sheet) ns i h

  pub bits_length : (ns sheet : List ℕ) → length (ored ns sheet) ≡ length sheet
  unfolding with_bits
  bits_length [] sheet = refl
  bits_length (n ∷ ns) sheet = bits_length ns (set sheet n (bit_or (get_or sheet n 0) (bits n))) ∙ length-set sheet n (bit_or (get_or sheet n 0) (bits n))

  -- the first of the cells does not come again
  not_again : (n : ℕ) (ns : List ℕ) → WindowIn (n ∷ ns) → (b : Bool) → is_in n ns ≡ b → b ≡ false
  not_again n ns w true e = let a = in_among n ns e in absurd (w.once 0 (suc a.0) (omega arith) (omega (arith, a.1)) (sym a.2))
  not_again n ns w false e = refl

  rest_in : (n : ℕ) (ns : List ℕ) → WindowIn (n ∷ ns) → WindowIn ns
  rest_in n ns w = record {
    inside = λ i h. w.inside (suc i) (omega arith);
    once = λ i j h k. w.once (suc i) (suc j) (omega arith) (omega arith);
    few = omega (arith, w.few);
  }

  bits_at : (ns sheet : List ℕ) → WindowIn ns → length sheet ≡ 100 → (i : ℕ) → get_or (ored ns sheet) i 0 ≡ bit_or (get_or sheet i 0) (cond (is_in i ns) (bits i) 0)
  unfolding with_bits
  bits_at [] sheet w full i = sym (or_zero_r (get_or sheet i 0))
  bits_at (n ∷ ns) sheet w full i = bits_at ns sheet' (rest_in n ns w) (length-set sheet n v ∙ full) i ∙ go (eqb n i) refl
    where
      v : ℕ
      v = bit_or (get_or sheet n 0) (bits n)

      sheet' : List ℕ
      sheet' = set sheet n v

      same : bit_or (get_or sheet' n 0) (cond (is_in n ns) (bits n) 0) ≡ bit_or (get_or sheet n 0) (bits n)
      same = rw (not_again n ns w (is_in n ns) refl, get_or-set_same sheet n v 0 (omega (arith, w.inside 0 (omega arith)))) (or_zero_r v)

      go : (b : Bool) → eqb n i ≡ b → bit_or (get_or sheet' i 0) (cond (is_in i ns) (bits i) 0) ≡ bit_or (get_or sheet i 0) (cond (b || is_in i ns) (bits i) 0)
      go true e = rw (← eqb-true n i e) same
      go false e = rw (get_or-set_other sheet n i v 0 (λ q. eqb-false n i e (sym q)))

  pub new_made : (window cells : List ℕ) → WindowIn window → ored window (start_bytes cells) ≡ new_bytes portal window cells has previous
  unfolding start_bytes new_bytes new_byte
  new_made window cells w =
      let start : ℕ → ℕ = λ i. start_of (get_or cells i 0) in
      let new : ℕ → ℕ = λ i. new_byte portal window (get_or cells i 0) has previous i in
      let full = bits_length window (start_bytes cells) ∙ table_length start 100 in
      ext_get_or 0 (ored window (start_bytes cells)) (map new (below 100)) (full ∙ sym (table_length new 100))
      (λ i h.
      bits_at window (start_bytes cells) w (table_length start 100) i
      ∙ ap (λ (x : ℕ). bit_or x (cond (is_in i window) (bits i) 0)) (table_at start 0 100 i (omega arith))
      ∙ sym (table_at new 0 100 i (omega arith)))

  -- without window cells the flags alone
  pub start_made : (cells : List ℕ) → start_bytes cells ≡ new_bytes portal [] cells has previous
  unfolding with_bits
  start_made cells = new_made [] cells no_cells
    where
      no_cells : WindowIn []
      no_cells = record { inside = λ i h. absurd (omega arith); once = λ i j h k. absurd (omega arith); few = omega arith }

-- the first bytes for a parsed step
pub step_bytes : (step cells : List ℕ) (has : Bool) (previous : List ℕ)
    → first_bytes (route_step step).portal (window_of (target_of step)) cells has previous ≡ flow_new step cells has previous
unfolding target_of
step_bytes step cells has previous = go (is_window step)
  where
    go : (b : Bool)
        → let window = window_of (cond b (to_window (window_cells step)) (to_goal (goal_of step))) in
        first_bytes (cond b (Some (portal_of step)) None) window cells has previous ≡ new_bytes (portal_of step) window cells has previous
    go true = refl
    go false = start_made (portal_of step) has previous cells
