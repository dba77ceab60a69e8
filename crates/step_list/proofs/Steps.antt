-- The steps of a list of bytes, from a place on.
--     steps_count, step_of_law                how many there are, and each by its place
--     from_start, from_here, from_done    all of them; one, and the rest; none
--     lent_step, behind                   a step, and the steps behind it, by the bytes as they are lent
--     sector_at_law, mark_at, boundary_at     a byte of a step, by its place in the list; `before_at` the sector of the step before
-- Assumes nothing.
use mathlib.Core.Path.{◌≡◌, refl, sym, ap, ◌∙◌}
use mathlib.Core.Bool.{Bool, true, false, true≢false, ◌||◌}
use mathlib.Core.List.{List, [], ◌∷◌}
use Prim.Native.Nat.{ℕ, zero, suc, ◌+◌, ◌-◌, ◌*◌, ◌/◌, ◌<◌, ◌≤◌}
use native.Mathlib.Omega.{arith}
use lib.ListN.{length, get_or, take, drop, length-take, length-drop}
use lib.Seq.{drop-drop, take_all, get_or-take, get_or-drop}
use Rattle.route.specs.Step.{sector_of, mark_of, boundary_byte}
use Rattle.step_list.specs.Steps.{steps_in, steps_of}
use Rattle.step_list.specs.Inner.{step_at}

pub neither : (a b : Bool) → (a || b) ≡ false → (a ≡ false) × (b ≡ false)
neither true b e = absurd (true≢false e)
neither false b e = (refl, e)

count_in : (n : ℕ) (bytes : List ℕ) → length (steps_in n bytes) ≡ n
unfolding steps_in
count_in zero bytes = refl
count_in (suc n) bytes = ap suc (count_in n (drop 8 bytes))

step_in : (n k : ℕ) (bytes : List ℕ) → k < n → get_or (steps_in n bytes) k [] ≡ step_at bytes k
unfolding steps_in
step_in zero k bytes h = absurd (omega arith)
step_in (suc n) zero bytes h = refl
step_in (suc n) (suc k) bytes h =
    let e : 8 + k * 8 ≡ suc k * 8 = omega arith in
    step_in n k (drop 8 bytes) (omega arith) ∙ ap (take 8) (drop-drop (k * 8) 8 bytes ∙ ap (λ (m : ℕ). drop m bytes) e)

abbrev pub steps_from : List ℕ → ℕ → List (List ℕ)
steps_from steps k = steps_in (length steps / 8 - k) (drop (k * 8) steps)

module _ (steps : List ℕ) where
  pub steps_count : length (steps_of steps) ≡ length steps / 8
  steps_count = count_in (length steps / 8) steps

  pub step_of_law : (k : ℕ) → k < length steps / 8 → get_or (steps_of steps) k [] ≡ step_at steps k
  step_of_law k h = step_in (length steps / 8) k steps h

  pub from_start : steps_from steps 0 ≡ steps_of steps
  from_start = let n : length steps / 8 - 0 ≡ length steps / 8 = omega arith in ap (λ (m : ℕ). steps_in m steps) n

  pub from_here : (k : ℕ) → k < length steps / 8 → steps_from steps k ≡ step_at steps k ∷ steps_from steps (k + 1)
  unfolding steps_in
  from_here k h =
      let n : length steps / 8 - k ≡ suc (length steps / 8 - (k + 1)) = omega arith in
      let e : k * 8 + 8 ≡ (k + 1) * 8 = omega arith in
      ap (λ (m : ℕ). steps_in m (drop (k * 8) steps)) n
      ∙ ap (λ (l : List ℕ). step_at steps k ∷ steps_in (length steps / 8 - (k + 1)) l) (drop-drop 8 (k * 8) steps ∙ ap (λ (m : ℕ). drop m steps) e)

  pub first_step : 8 ≤ length steps → steps_of steps ≡ step_at steps 0 ∷ steps_from steps 1
  first_step h = sym from_start ∙ from_here 0 (omega arith)

  pub from_done : (k : ℕ) → length steps / 8 ≤ k → steps_from steps k ≡ []
  unfolding steps_in
  from_done k h =
      let n : length steps / 8 - k ≡ 0 = omega arith in
      ap (λ (m : ℕ). steps_in m (drop (k * 8) steps)) n

  pub lent_step : (k : ℕ) → take (k * 8 + 8 - k * 8) (drop (k * 8) steps) ≡ step_at steps k
  lent_step k =
      let e : k * 8 + 8 - k * 8 ≡ 8 = omega arith in
      ap (λ (m : ℕ). take m (drop (k * 8) steps)) e

  pub step_long : (k : ℕ) → k < length steps / 8 → length (step_at steps k) ≡ 8
  step_long k h = simp (length-take, length-drop) (omega arith)

  -- the steps behind one, by the bytes behind it as they are lent
  pub behind : (k : ℕ) → k < length steps / 8 → steps_of (take (length steps - (k * 8 + 8)) (drop (k * 8 + 8) steps)) ≡ steps_from steps (k + 1)
  behind k h =
      let e : k * 8 + 8 ≡ (k + 1) * 8 = omega arith in
      let n : length (drop ((k + 1) * 8) steps) / 8 ≡ length steps / 8 - (k + 1) = rw length-drop (omega arith) in
      ap steps_of (take_all (length steps - (k * 8 + 8)) (drop (k * 8 + 8) steps) (omega (arith, length-drop (k * 8 + 8) steps))) ∙ rw (e, n)

  byte_at : (k j : ℕ) → j < 8 → get_or (step_at steps k) j 0 ≡ get_or steps (k * 8 + j) 0
  byte_at k j h = rw (get_or-take, get_or-drop)

  pub sector_at_law : (k : ℕ) → sector_of (step_at steps k) ≡ get_or steps (k * 8 + 0) 0
  sector_at_law k = byte_at k 0 (omega arith)

  pub mark_at : (k : ℕ) → mark_of (step_at steps k) ≡ get_or steps (k * 8 + 2) 0
  mark_at k = byte_at k 2 (omega arith)

  pub boundary_at : (k : ℕ) → boundary_byte (step_at steps k) ≡ get_or steps (k * 8 + 5) 0
  boundary_at k = byte_at k 5 (omega arith)

  pub before_at : (k : ℕ) → 1 ≤ k → sector_of (step_at steps (k - 1)) ≡ get_or steps (k * 8 - 8 + 0) 0
  before_at k h = let e : (k - 1) * 8 ≡ k * 8 - 8 = omega arith in sector_at_law (k - 1) ∙ rw e
