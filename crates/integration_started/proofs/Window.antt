-- What each cell of a field started with a window is.
-- Assumes nothing.
use mathlib.Core.Path.{◌≡◌, refl, sym, ◌∙◌, subst}
use mathlib.Core.List.{List, [], ◌∷◌}
use mathlib.Core.Logic.{◌⊎◌, inl, inr, ⊎_elim}
use Prim.Native.Nat.{ℕ, zero, suc, ◌<◌}
use native.Mathlib.Omega.{arith}
use lib.ListN.{length, get_or, set, length-set}
use Rattle.integration_field.specs.Word.{is_los, is_goal}
use Rattle.integration_started.specs.Sight.{walls, with_portals}
use Rattle.integration_started.specs.StartedCell.{Among, WindowStarted}
use Rattle.utilities.proofs.Count.{Each, Once, at_set}
use Rattle.integration_started.proofs.Before.{walls_length, Before, chosen, unchosen, chosen_word, wall_word, other_word, only_wall, fails}

-- a word after window cells were put: 0x80000 in the window, else as before
data Put (window : List ℕ) (i was x : ℕ) : Type 0 where
  portal : Among i window → x ≡ 0x80000 → Put window i was x
  kept : (Among i window → ⊥) → x ≡ was → Put window i was x

portals_length : (ns cells : List ℕ) → length (with_portals ns cells) ≡ length cells
unfolding with_portals
portals_length [] cells = refl
portals_length (n ∷ ns) cells = portals_length ns (set cells n 0x80000) ∙ length-set cells n 0x80000

among_later : (i n : ℕ) (ns : List ℕ) → Among i ns → Among i (n ∷ ns)
among_later i n ns a = (suc a.0, omega (arith, a.1), a.2)

among_cases : (i n : ℕ) (ns : List ℕ) → Among i (n ∷ ns) → (n ≡ i) ⊎ Among i ns
among_cases i n ns a = go a.0 a.1 a.2
  where
    go : (j : ℕ) → j < length (n ∷ ns) → get_or (n ∷ ns) j 0 ≡ i → (n ≡ i) ⊎ Among i ns
    go zero h e = inl e
    go (suc j) h e = inr (j, omega arith, e)

put_at : (ns cells : List ℕ) (i : ℕ) → Each (λ n. n < length cells) ns → Put ns i (get_or cells i 0) (get_or (with_portals ns cells) i 0)
unfolding with_portals
put_at [] cells i h = kept (λ a. omega (arith, a.1)) refl
put_at (n ∷ ns) cells i h =
    go (get_or (with_portals ns (set cells n 0x80000)) i 0)
    (put_at ns (set cells n 0x80000) i (λ j k. omega (arith, h (suc j) (omega arith), length-set cells n 0x80000)))
  where
    go : (x : ℕ) → Put ns i (get_or (set cells n 0x80000) i 0) x → Put (n ∷ ns) i (get_or cells i 0) x
    go x (portal a e) = portal (among_later i n ns a) e
    go x (kept a e) =
        subst (Put (n ∷ ns) i (get_or cells i 0)) (sym e)
        (at_set (Put (n ∷ ns) i (get_or cells i 0)) cells n 0x80000 i (h 0 (omega arith))
        (λ q. portal (0, omega arith, sym q) refl)
        (λ q. kept (λ b. ⊎_elim (λ (c : n ≡ i). q (sym c)) (λ (c : Among i ns). a c) (among_cases i n ns b)) refl))

module _ (costs : List ℕ) (hundred : length costs ≡ 100) (window : List ℕ) (window_in : Each (λ n. n < 100) window) (window-once : Once window) where
  abbrev cells : List ℕ
  cells = with_portals window (walls costs)

  abbrev Is : ℕ → ℕ → Type 0
  Is = Before costs (λ i. Among i window) 0x80000

  is : (i : ℕ) → i < 100 → Is i (get_or cells i 0)
  is i h = go (get_or cells i 0) (put_at window (walls costs) i (λ j k. omega (arith, window_in j k, walls_length costs)))
    where
      go : (x : ℕ) → Put window i (get_or (walls costs) i 0) x → Is i x
      go x (portal a e) = chosen a e
      go x (kept a e) = subst (Is i) (sym e) (unchosen costs (λ i. Among i window) 0x80000 i (omega arith) a)

  pub window_started : WindowStarted costs window cells window
  window_started = record {
    full = portals_length window (walls costs) ∙ walls_length costs ∙ hundred;
    list = refl;
    corner_in = window_in;
    corner_once = window-once;
    portal_cell = λ i a. chosen_word costs _ _ i _ (is i (subst (λ (n : ℕ). n < 100) a.2 (window_in a.0 a.1))) a;
    wall_cell = λ i h. wall_word costs _ _ i _ (is i h);
    wall_only = λ i h. only_wall costs _ _ refl i _ (is i h);
    other_cell = λ i h. other_word costs _ _ i _ (is i h);
    no_sight = λ i h. fails costs _ _ is_los refl refl refl i _ (is i h);
    no_goal = λ i h. fails costs _ _ is_goal refl refl refl i _ (is i h);
  }
