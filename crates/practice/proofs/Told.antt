-- A practice floor, told by any sequence of values.
--     drawn                      the cost that a value's top byte gives
--     cells_drawn                costs that are each drawn from their value
--     made_at                    a cost that a call of the closure made
--     told                       the floor of a seed, by every sequence that keeps to the request's words
--     floor_made                 the same floor, made of an array of values
-- Assumes nothing.
use Rattle.std.proofs.Common.{◌≡◌, ℕ, zero, suc, ◌+◌, ◌%◌, ◌<◌, ◌≤◌, Bool, true, false, cond, ltb, leb, List, [], ◌∷◌, map, length, get_or, take, drop, set, sym, refl, ap, ◌∙◌, arith, length-drop, length-set, length-take-le, get_or-drop, get_or-set_other, get_or-take, get_or-set_same, ltb-false, ltb-true, leb-false, leb-true}
use mathlib.Core.Path.{subst}
use native.Mathlib.Decide.{ℕ_discrete}
use lib.ListN.{length-map}
use lib.Seq.{ext_get_or}
use denote.Param.Members.{Mut}
use Rattle.std.specs.Array.{IsFromFnResult, IsFromFnResultFrom}
use Rattle.std.specs.Fn.{Called}
use Rattle.practice.specs.declared.PracticeFloor.{PracticeFloor}
use Rattle.practice.specs.Values.{values_to, practice_value}
use Rattle.practice.specs.Floor.{top_byte, cost_of, drawn_costs, practice_goal, practice_floor}
use Rattle.practice.specs.Promise.{Generates, CellDrawn, DrawnBy, PracticeTold}
use Rattle.practice.proofs.Values.{values_length, values_before, generates, follows}

-- what a value's top byte gives
drawn : (value : ℕ) → CellDrawn value (cost_of value)
unfolding cost_of
drawn value = go (ltb (top_byte value) 128) (leb (top_byte value) 191) refl refl
  where
    go : (s t : Bool) → ltb (top_byte value) 128 ≡ s → leb (top_byte value) 191 ≡ t → CellDrawn value (cond s 1 (cond t 10 255))
    go true t e f = CellDrawn.free (ltb-true (top_byte value) 128 e)
    go false true e f = CellDrawn.dear (ltb-false (top_byte value) 128 e) (leb-true (top_byte value) 191 f)
    go false false e f = CellDrawn.wall (leb-false (top_byte value) 191 f)

map_at : (f : ℕ → ℕ) (l : List ℕ) (i : ℕ) → i < length l → get_or (map f l) i 0 ≡ f (get_or l i 0)
map_at f [] i h = absurd (omega arith)
map_at f (x ∷ l) zero h = refl
map_at f (x ∷ l) (suc i) h = map_at f l i (omega arith)

-- costs drawn cell by cell from an array of 156 values
module _ (values : List ℕ) (full : length values ≡ 156) where
  cells : List ℕ
  cells = drop 55 (take 155 values)

  cells_length : length cells ≡ 100
  unfolding cells
  cells_length = length-drop 55 (take 155 values) ∙ rw (length-take-le 155 values (omega (arith, full)))

  -- the costs drawn from the values that stand 55 places behind their own
  pub cells_drawn : (costs : List ℕ) → length costs ≡ 100 → ((i : ℕ) → i < 100 → get_or costs i 0 ≡ cost_of (get_or values (55 + i) 0))
      → costs ≡ map cost_of (drop 55 (take 155 values))
  unfolding cells
  cells_drawn costs hundred each =
      ext_get_or 0 costs (map cost_of cells) (hundred ∙ sym (length-map cells cost_of ∙ cells_length)) (λ i h.
      let k : i < 100 = omega (arith, hundred) in
      let place = get_or-drop 55 (take 155 values) i 0 ∙ get_or-take 155 values (55 + i) 0 (omega arith) in
      each i k ∙ sym (map_at cost_of cells i (omega (arith, cells_length)) ∙ ap cost_of place))

-- an array made by calls of a closure that stays the same: what holds of each call's answer holds of each place
module _ {F : Type 0} (g : Mut F (ℕ × Unit {0}) ℕ) (f : F) (ys : List ℕ) (h : ℕ → ℕ)
    (answers : (i y : ℕ) (q : F) → Called g f (i, tt) y q → (q ≡ f) × (y ≡ h i)) where
  made_from : (n i : ℕ) → IsFromFnResultFrom g f ys i n → (k : ℕ) → i ≤ k → k < i + n → get_or ys k 0 ≡ h k
  made_from zero i r k l m = absurd (omega arith)
  made_from (suc n) i r k l m =
      let a = answers i r.1 r.0 r.3 in
      elim (ℕ_discrete k i) [
        | yes e ↦ rw (e, r.2.1 0) a.1
        | no o ↦ made_from n (i + 1) (subst (λ (p : F). IsFromFnResultFrom g p ys (i + 1) n) a.0 r.4) k (omega arith) (omega arith)
      ]

  pub made_at : (n : ℕ) → IsFromFnResult g f ys n → (k : ℕ) → k < n → get_or ys k 0 ≡ h k
  made_at n m k l = made_from n 0 m.each k (omega arith) (omega arith)

module _ (seed : ℕ) where
  pub drawn_length : length (drawn_costs seed) ≡ 100
  unfolding drawn_costs
  drawn_length = length-map (drop 55 (values_to seed 154)) cost_of ∙ length-drop 55 (values_to seed 154) ∙ rw (values_length seed 154)

  pub goal_inside : practice_goal seed < 100
  unfolding practice_goal
  goal_inside = omega arith

  cell_drawn : (i : ℕ) → i < 100 → get_or (drawn_costs seed) i 0 ≡ cost_of (get_or (values_to seed 154) (55 + i) 0)
  unfolding drawn_costs
  cell_drawn i h =
      let values = values_to seed 154 in
      map_at cost_of (drop 55 values) i (omega (arith, length-drop 55 values, values_length seed 154)) ∙ ap cost_of (get_or-drop 55 values i 0)

  module _ (v : ℕ → ℕ) (g : Generates seed v) where
    goal_by : practice_goal seed ≡ v 155 % 100
    unfolding practice_goal practice_value
    goal_by = rw (follows seed v g 155 155 (omega arith))

    cell_by : (i : ℕ) → i < 100 → CellDrawn (v (i + 55)) (get_or (drawn_costs seed) i 0)
    cell_by i h =
        let k : 55 + i ≡ i + 55 = omega arith in
        rw (cell_drawn i h, k, follows seed v g 154 (i + 55) (omega arith)) (drawn (v (i + 55)))

    drawn_by : DrawnBy v (practice_floor seed)
    unfolding practice_floor
    drawn_by =
        record {
          goal = goal_by;
          goal_cell = get_or-set_same (drawn_costs seed) (practice_goal seed) 1 0 (omega (arith, drawn_length, goal_inside));
          cells = λ i h other. rw (get_or-set_other (drawn_costs seed) (practice_goal seed) i 1 0 other) (cell_by i h);
        }

  pub told : PracticeTold seed (practice_floor seed)
  unfolding practice_floor
  told =
      record {
        hundred = length-set (drawn_costs seed) (practice_goal seed) 1 ∙ drawn_length;
        goal_inside = goal_inside;
        some = generates seed;
        every = drawn_by;
      }

-- the floor made of an array of values and of the costs drawn from it
pub floor_made : (seed : ℕ) (values costs : List ℕ) → values ≡ values_to seed 155 → costs ≡ map cost_of (drop 55 (take 155 values))
    → ◌≡◌ {A = PracticeFloor} (record { costs = set costs (get_or values 155 0 % 100) 1; goal = get_or values 155 0 % 100 }) (practice_floor seed)
unfolding practice_floor practice_goal drawn_costs practice_value
floor_made seed values costs e f = rw (f, e, values_before seed 154)
