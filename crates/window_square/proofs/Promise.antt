-- What is promised of a square of window costs.
--     least_cost       from one window to another: the least walk
--     entry_at         the square's entry at row i, place j
--     square_told      all that is promised of the square
-- Assumes nothing.
use mathlib.Core.Path.{◌≡◌, refl, ap, subst, ◌∙◌}
use mathlib.Core.Bool.{Bool, true, false, cond, ◌&&◌}
use mathlib.Core.Logic.{◌⊎◌, inl, inr}
use mathlib.Core.List.{List, [], map, Memᴰ}
use Prim.Native.Nat.{ℕ, ◌/◌, ◌≤◌, ◌<◌}
use native.Mathlib.Omega.{arith}
use native.Mathlib.Decide.{dec_lt}
use lib.Dec.{ltb}
use lib.ListN.{length, get_or}
use borrow.Author.Tests.{lt-ltb, le-ltb, eqb-true}
use Rattle.utilities.specs.Lists.{below}
use Rattle.route.specs.Step.{first_of, boundary_byte, is_window, window_cells, step_number}
use Rattle.route.specs.Target.{Target, to_window, WindowIn, target_of, StepWindow}
use Rattle.route.proofs.Accepted.{accepted_window}
use Rattle.route.proofs.Targets.{target_window, target_in, window_told, named_edge}
use Rattle.step_list.specs.Steps.{steps_of, step_of}
use Rattle.step_list.proofs.Steps.{steps_count, step_of_law}
use Rattle.utilities.proofs.Lists.{table_length, table_at}
use Rattle.integration_field.specs.Word.{low}
use Rattle.integration_walks.proofs.Ground.{mem_among}
use Rattle.integration_walks.proofs.Promise.{demand3}
use Rattle.flow_arrows.specs.Arrows.{built_cost}
use Rattle.flow_arrows.specs.Promise.{built_cells}
use Rattle.flow_arrows.proofs.Fall.{end_word_law}
use Rattle.flow_arrows.proofs.CellBytes.{window_sector}
use Rattle.window_square.specs.Square.{least_built, window_cost, square_entry, cost_square}
use Rattle.window_square.specs.Promise.{WindowWalk, LeastCost, cost_at, WindowSquare}
use Rattle.window_square.specs.Inner.{WindowsReady}
use Rattle.window_square.proofs.Least.{least_small, least_most, least_met}
use Rattle.window_square.proofs.Walked.{walked_reached, reached_walked}

-- ---- a window

-- a step with a window that is not refused
pub record GoodWindow (step : List ℕ) : Type 0 where
  pub good : step_number step ≡ 0
  pub window : is_window step ≡ true

module _ {step : List ℕ} (g : GoodWindow step) where
  -- its cells, by the list and by rows and columns
  told : (x : ℕ) → Memᴰ x (window_cells step) → StepWindow step x
  told x m = (window_told step g.good x).0 (rw (target_window step g.window) m)

  listed : (x : ℕ) → StepWindow step x → Memᴰ x (window_cells step)
  listed x w = rw (target_window step g.window) at ((window_told step g.good x).1 w)

  -- its first cell is one
  first : StepWindow step (first_of step)
  first =
      let w = accepted_window step g.good g.window in
      record {
        mark = eqb-true _ 1 g.window;
        inside = w.first_in;
        is_on_edge = named_edge (boundary_byte step) (first_of step) w.first_on;
        from = omega arith;
        to = w.in_order;
      }

  inside : WindowIn (window_cells step)
  inside = rw (target_window step g.window) at (target_in step g.good)

-- ---- from window to window

module _ (costs : List ℕ) (full : length costs ≡ 100) (byte : (x : ℕ) → x < 100 → get_or costs x 0 ≤ 255) where
  module _ {from to : List ℕ} (f : GoodWindow from) (t : GoodWindow to) where
    abbrev target : Target
    target = to_window (window_cells to)

    abbrev built : List ℕ
    built = built_cells costs target

    abbrev cost : ℕ
    cost = least_built built (window_cells from)

    at_most : (x : ℕ) → StepWindow from x → cost ≤ built_cost built x
    at_most x w = least_most built (window_cells from) x (listed f x w)

    met : (x : ℕ) × StepWindow from x × (built_cost built x ≡ cost)
    met = let m = least_met built (window_cells from) (first_of from) (listed f _ (first f)) in (m.0, told f m.0 m.1, m.2)

    none_below : (k x s : ℕ) → StepWindow from x → WindowWalk costs target k x s → cost ≤ s
    none_below k x s w p = omega (arith, at_most x w, (demand3 costs target full (inside t)).least.none_below k x s p)

    walked : cost < 65535 → (k : ℕ) × (x : ℕ) × StepWindow from x × WindowWalk costs target k x cost
    walked h =
        let m = met in
        let w = reached_walked costs (window_cells to) full (inside t) byte m.0 m.1.inside (omega (arith, m.2)) in
        (w.0, m.0, m.1, subst (λ (s : ℕ). WindowWalk costs target w.0 m.0 s) m.2 w.1)

    ended : cost ≡ 65535 → (k x s : ℕ) → StepWindow from x → WindowWalk costs target k x s → ⊥
    ended e k x s w p = omega (arith, at_most x w, walked_reached costs (window_cells to) full (inside t) byte p)

    never : ((k x s : ℕ) → StepWindow from x → WindowWalk costs target k x s → ⊥) → cost ≡ 65535
    never n = go (dec_lt cost 65535)
      where
        go : Dec (cost < 65535) → cost ≡ 65535
        go (yes h) = let w = walked h in absurd (n w.0 w.1 cost w.2 w.3)
        go (no h) = omega (arith, least_small built (window_cells from))

    least : LeastCost costs from target cost
    least = record {
      demand3 = demand3 costs target full (inside t);
      at_most = at_most;
      met = met;
      none_below = none_below;
      walked = walked;
      unreached = (ended, never);
    }

    pub least_cost : LeastCost costs from (target_of to) (window_cost costs from to)
    unfolding window_cost
    least_cost = rw (target_window to t.window) least

  -- a window to itself
  pub own_cost : {step : List ℕ} → GoodWindow step → window_cost costs step step ≡ 0
  unfolding window_cost
  own_cost {step} g =
      let sector = window_sector costs (window_cells step) full (inside g) byte in
      let m = listed g (first_of step) (first g) in
      let cells = built_cells costs (to_window (window_cells step)) in
      let zero : built_cost cells (first_of step) ≡ 0 = ap low (end_word_law sector _ (mem_among _ _ m)) in
      rw (target_window step g.window) (omega (arith, zero, least_most cells (window_cells step) (first_of step) m))

-- ---- the square

module _ (costs : List ℕ) (steps : List (List ℕ)) where
  pub entry_at : (i j : ℕ) → i < 8 → j < 8 → cost_at (cost_square costs steps) i j ≡ square_entry costs steps i j
  unfolding cost_square
  entry_at i j h k =
      ap (λ (l : List ℕ). get_or l j 0) (table_at (λ (i : ℕ). map (square_entry costs steps i) (below 8)) [] 8 i h)
      ∙ table_at (square_entry costs steps i) 0 8 j k

  pub row_long : (i : ℕ) → i < 8 → length (get_or (cost_square costs steps) i []) ≡ 8
  unfolding cost_square
  row_long i h =
      ap length (table_at (λ (i : ℕ). map (square_entry costs steps i) (below 8)) [] 8 i h) ∙ table_length (square_entry costs steps i) 8

  pub rows_eight : length (cost_square costs steps) ≡ 8
  unfolding cost_square
  rows_eight = table_length (λ (i : ℕ). map (square_entry costs steps i) (below 8)) 8

  pub entry_used : (i j : ℕ) → i < length steps → j < length steps → square_entry costs steps i j ≡ window_cost costs (step_of steps i) (step_of steps j)
  entry_used i j h k = rw (lt-ltb i (length steps) h, lt-ltb j (length steps) k)

  pub entry_unused : (i j : ℕ) → (length steps ≤ i) ⊎ (length steps ≤ j) → square_entry costs steps i j ≡ 65535
  entry_unused i j (inl h) = rw (le-ltb i (length steps) h)
  entry_unused i j (inr h) = rw (le-ltb j (length steps) h) (none (ltb i (length steps)))
    where
      none : (b : Bool) → cond (b && false) (window_cost costs (step_of steps i) (step_of steps j)) 65535 ≡ 65535
      none true = refl
      none false = refl

pub square_told : (costs steps : List ℕ) → ((x : ℕ) → x < 100 → get_or costs x 0 ≤ 255) → WindowsReady costs steps
    → WindowSquare costs (steps_of steps) (cost_square costs (steps_of steps))
square_told costs steps byte r = record {
  rows = rows_eight costs (steps_of steps);
  places = row_long costs (steps_of steps);
  least = λ i j h k. rw (used i j h k) (least_cost costs r.costs_hundred byte (good i h) (good j k));
  own = λ i h. used i i h h ∙ own_cost costs r.costs_hundred byte (good i h);
  unused = λ i j h k u. entry_at costs (steps_of steps) i j h k ∙ entry_unused costs (steps_of steps) i j u;
}
  where
    good : (k : ℕ) → k < length (steps_of steps) → GoodWindow (step_of (steps_of steps) k)
    good k h =
        let l : k < length steps / 8 = omega (arith, steps_count steps) in
        rw (step_of_law steps k l) (record { good = r.each.accepted k l; window = r.each.windows k l })

    used : (i j : ℕ) → i < length (steps_of steps) → j < length (steps_of steps)
        → cost_at (cost_square costs (steps_of steps)) i j ≡ window_cost costs (step_of (steps_of steps) i) (step_of (steps_of steps) j)
    used i j h k =
        let n = steps_count steps in
        let f = r.few in
        entry_at costs (steps_of steps) i j (omega arith) (omega arith) ∙ entry_used costs (steps_of steps) i j h k
