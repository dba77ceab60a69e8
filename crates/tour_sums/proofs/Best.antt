-- The best of the first orders of a list.
--     passed_over, first_found, not_lower, lower_taken   an order beside the best so far
--     best_more      one order more is tried
--     best_first     among the first m orders: none counts, or the best stands at a place
-- Assumes nothing.
use mathlib.Core.Path.{◌≡◌, refl, sym, ap, ◌∙◌}
use mathlib.Core.Bool.{Bool, true, false, cond}
use Rattle.std.specs.Prelude.{Option, Some, None}
use mathlib.Core.Logic.{◌⊎◌, inl, inr, ⊎_elim}
use mathlib.Core.List.{List, [], ◌∷◌, ◌++◌}
use Prim.Native.Nat.{ℕ, zero, suc, ◌<◌, ◌≤◌}
use native.Mathlib.Omega.{arith}
use native.Mathlib.Decide.{dec_lt, ℕ_discrete}
use lib.ListN.{length, get_or, take}
use lib.Seq.{take-suc}
use borrow.Author.Tests.{lt-ltb, le-ltb}
use Rattle.tour_sums.specs.declared.Tour.{Tour}
use Rattle.tour_sums.specs.Tours.{tour_sum, tour_counts, no_tour, tour_of, better_tour, best_tour}

pub never : true ≡ false → ⊥
never e = let z : ◌≡◌ {A = ℕ} 0 1 = ap (λ (b : Bool). cond b 0 1) e in omega arith

module _ (square : List (List ℕ)) (order : List ℕ) where
  pub passed_over : (best : Option Tour) → tour_counts square order ≡ false → better_tour square best order ≡ best
  unfolding better_tour
  passed_over None counts = rw counts refl
  passed_over (Some best) counts = rw counts refl

  pub first_found : tour_counts square order ≡ true → better_tour square None order ≡ Some (tour_of square order)
  unfolding better_tour
  first_found counts = rw counts

  pub not_lower : (best : Tour) → tour_counts square order ≡ true → best.sum ≤ tour_sum square order → better_tour square (Some best) order ≡ Some best
  unfolding better_tour
  not_lower best counts at_most = rw (counts, le-ltb (tour_sum square order) best.sum at_most)

  pub lower_taken : (best : Tour) → tour_counts square order ≡ true → tour_sum square order < best.sum
      → better_tour square (Some best) order ≡ Some (tour_of square order)
  unfolding better_tour
  lower_taken best counts lower = rw (counts, lt-ltb (tour_sum square order) best.sum lower)

module _ (square : List (List ℕ)) where
  best_append : (best : Option Tour) (l : List (List ℕ)) (order : List ℕ)
      → best_tour square best (l ++ (order ∷ [])) ≡ better_tour square (best_tour square best l) order
  best_append best [] order = refl
  best_append best (first ∷ l) order = best_append (better_tour square best first) l order

  pub best_more : (l : List (List ℕ)) (m : ℕ) → m < length l
      → best_tour square no_tour (take (suc m) l) ≡ better_tour square (best_tour square no_tour (take m l)) (get_or l m [])
  best_more l m h = ap (best_tour square no_tour) (take-suc l m [] h) ∙ best_append no_tour (take m l) (get_or l m [])

module _ (square : List (List ℕ)) (l : List (List ℕ)) where
  -- order j of the list counts
  abbrev pub CountsAt : ℕ → Type 0
  CountsAt j = tour_counts square (get_or l j []) ≡ true

  abbrev pub sum_at : ℕ → ℕ
  sum_at j = tour_sum square (get_or l j [])

  -- none of the first m counts
  pub record NoneCounts (m : ℕ) (best : Option Tour) : Type 0 where
    pub is : best ≡ no_tour
    pub none_counts : (j : ℕ) → j < m → CountsAt j → ⊥

  -- order k is the best of the first m
  pub record At (m : ℕ) (best : Option Tour) : Type 0 where
    pub place : ℕ
    pub tried : place < m
    pub counts : CountsAt place
    pub is : best ≡ Some (tour_of square (get_or l place []))
    pub at_most : (j : ℕ) → j < m → CountsAt j → sum_at place ≤ sum_at j
    pub before : (j : ℕ) → j < place → CountsAt j → sum_at place < sum_at j

  last : {P : ℕ → Type 0} (m : ℕ) → ((j : ℕ) → j < m → P j) → P m → (j : ℕ) → j < suc m → P j
  last m known here j h = elim (ℕ_discrete j m) [ yes same ↦ rw same here | no other ↦ known j (omega arith) ]

  after_none : (m : ℕ) (best : Option Tour) (counts : Bool) → tour_counts square (get_or l m []) ≡ counts → NoneCounts m best
      → NoneCounts (suc m) (better_tour square best (get_or l m [])) ⊎ At (suc m) (better_tour square best (get_or l m []))
  after_none m best false e n = inl (
      record {
        is = passed_over square (get_or l m []) best e ∙ n.is;
        none_counts = last m n.none_counts (λ c. never (sym c ∙ e));
      }
      )
  after_none m best true e n = inr (
      record {
        place = m;
        tried = omega arith;
        counts = e;
        is = ap (λ (t : Option Tour). better_tour square t (get_or l m [])) n.is ∙ first_found square (get_or l m []) e;
        at_most = last {P = λ j. CountsAt j → sum_at m ≤ sum_at j} m (λ j h c. absurd (n.none_counts j h c)) (λ c. omega arith);
        before = λ j h c. absurd (n.none_counts j h c);
      }
      )

  after_at : (m : ℕ) (best : Option Tour) (counts : Bool) → tour_counts square (get_or l m []) ≡ counts → At m best → At (suc m) (better_tour square best (get_or l m []))
  after_at m best false e a =
      record {
        place = a.place;
        tried = omega (arith, a.tried);
        counts = a.counts;
        is = passed_over square (get_or l m []) best e ∙ a.is;
        at_most = last {P = λ j. CountsAt j → sum_at a.place ≤ sum_at j} m a.at_most (λ c. absurd (never (sym c ∙ e)));
        before = a.before;
      }
  after_at m best true e a = elim (dec_lt (sum_at m) (sum_at a.place)) [ yes lower ↦ taken lower | no higher ↦ kept (omega arith) ]
    where
      held : better_tour square best (get_or l m []) ≡ better_tour square (Some (tour_of square (get_or l a.place []))) (get_or l m [])
      held = ap (λ (t : Option Tour). better_tour square t (get_or l m [])) a.is

      taken : sum_at m < sum_at a.place → At (suc m) (better_tour square best (get_or l m []))
      taken lower =
          record {
            place = m;
            tried = omega arith;
            counts = e;
            is = held ∙ lower_taken square (get_or l m []) (tour_of square (get_or l a.place [])) e lower;
            at_most = last {P = λ j. CountsAt j → sum_at m ≤ sum_at j} m (λ j h c. omega (arith, a.at_most j h c)) (λ c. omega arith);
            before = λ j h c. omega (arith, a.at_most j h c);
          }

      kept : sum_at a.place ≤ sum_at m → At (suc m) (better_tour square best (get_or l m []))
      kept higher =
          record {
            place = a.place;
            tried = omega (arith, a.tried);
            counts = a.counts;
            is = held ∙ not_lower square (get_or l m []) (tour_of square (get_or l a.place [])) e higher;
            at_most = last {P = λ j. CountsAt j → sum_at a.place ≤ sum_at j} m a.at_most (λ c. higher);
            before = a.before;
          }

  abbrev pub Best : ℕ → Type 0
  Best m = NoneCounts m (best_tour square no_tour (take m l)) ⊎ At m (best_tour square no_tour (take m l))

  pub best_first : (m : ℕ) → m ≤ length l → Best m
  best_first zero h = inl (record { is = refl; none_counts = λ j b c. omega arith })
  best_first (suc m) h =
      rw (best_more square l m h) (
      ⊎_elim
      (λ n. after_none m (best_tour square no_tour (take m l)) (tour_counts square (get_or l m [])) refl n)
      (λ a. inr (after_at m (best_tour square no_tour (take m l)) (tour_counts square (get_or l m [])) refl a))
      (best_first m (omega arith))
      )
