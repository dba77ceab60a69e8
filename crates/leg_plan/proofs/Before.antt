-- The step before, in a list of steps that is not refused with 9 or 10.
--     first_goal       the first step has a goal
--     later_window     a later step has a window
--     sector_before    and across its boundary lies the sector of the step before
-- Assumes nothing.
use mathlib.Core.Path.{◌≡◌, sym, ap}
use mathlib.Core.Bool.{true, false, true≢false, not, ◌||◌}
use mathlib.Core.List.{List, [], ◌∷◌}
use Prim.Native.Nat.{ℕ, zero, suc, ◌<◌}
use native.Mathlib.Omega.{arith}
use lib.ListN.{length}
use borrow.Author.Tests.{eqb-true, not-false}
use Rattle.route.specs.Step.{sector_of, is_window, boundary_of}
use Rattle.std.specs.Prelude.{Option, Some, None}
use Rattle.sectors.specs.Floor.{across}
use Rattle.leg_plan.specs.Leg.{names_twice, some_goal, out_of_order, is_sector, disconnected_from, disconnected}
use Rattle.step_list.specs.Steps.{step_of}
use Rattle.leg_plan.specs.Promise.{sector_at}
use Rattle.step_list.proofs.Steps.{neither}

no_goal : (ss : List (List ℕ)) → some_goal ss ≡ false → (k : ℕ) → k < length ss → is_window (step_of ss k) ≡ true
no_goal [] e k h = absurd (omega arith)
no_goal (s ∷ ss) e zero h = not-false (is_window s) (neither (not (is_window s)) (some_goal ss) e).0
no_goal (s ∷ ss) e (suc k) h = no_goal ss (neither (not (is_window s)) (some_goal ss) e).1 k (omega arith)

-- the first has a goal
pub first_goal : (ss : List (List ℕ)) → out_of_order ss ≡ false → 0 < length ss → is_window (step_of ss 0) ≡ false
first_goal [] e h = absurd (omega arith)
first_goal (s ∷ ss) e h = (neither (is_window s) (some_goal ss) (neither (is_window s || some_goal ss) (names_twice (s ∷ ss)) e).0).0

pub later_window : (ss : List (List ℕ)) → out_of_order ss ≡ false → (k : ℕ) → suc k < length ss → is_window (step_of ss (suc k)) ≡ true
later_window [] e k h = absurd (omega arith)
later_window (s ∷ ss) e k h =
    let ordered = (neither (is_window s || some_goal ss) (names_twice (s ∷ ss)) e).0 in
    no_goal ss (neither (is_window s) (some_goal ss) ordered).1 k (omega arith)

is_sector_law : (s : ℕ) (a : Option ℕ) → is_sector s a ≡ true → a ≡ Some s
is_sector_law s (Some t) e = ap Some (eqb-true t s e)
is_sector_law s None e = absurd (true≢false (sym e))

from_before : (before : List ℕ) (ss : List (List ℕ)) → disconnected_from before ss ≡ false → (k : ℕ) → k < length ss
    → across (sector_at ss k) (boundary_of (step_of ss k)) ≡ Some (sector_at (before ∷ ss) k)
from_before before [] e k h = absurd (omega arith)
from_before before (s ∷ ss) e zero h =
    is_sector_law (sector_of before) (across (sector_of s) (boundary_of s))
    (not-false _ (neither (not (is_sector (sector_of before) (across (sector_of s) (boundary_of s)))) (disconnected_from s ss) e).0)
from_before before (s ∷ ss) e (suc k) h =
    from_before s ss (neither (not (is_sector (sector_of before) (across (sector_of s) (boundary_of s)))) (disconnected_from s ss) e).1 k (omega arith)

pub sector_before : (ss : List (List ℕ)) → disconnected ss ≡ false → (k : ℕ) → suc k < length ss
    → across (sector_at ss (suc k)) (boundary_of (step_of ss (suc k))) ≡ Some (sector_at ss k)
sector_before [] e k h = absurd (omega arith)
sector_before (s ∷ ss) e k h = from_before s ss e k (omega arith)
