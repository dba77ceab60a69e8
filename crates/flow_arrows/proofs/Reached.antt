-- A look of which all that is seen is reached never ends early, so that it has gone through all eight directions, or has taken a goal or a portal.
--     found         one cell that it sees is lower: it comes to a lower cell, or takes one
--     takes_first   some of what it sees is a goal or a portal: it takes the first
--     ends_least    none of it is, and one cell is strictly the least: it comes to that cell
-- Two facts carry them, each kept by one more direction: what the look has found so far is a cell that it sees, at its value (`sound`), and of no
-- higher value than each cell that it has seen (`noted`).
-- Assumes nothing.
use mathlib.Core.Path.{◌≡◌, refl, ap, ◌∙◌}
use mathlib.Core.Bool.{true}
use mathlib.Core.Logic.{◌⊎◌, inl, inr, ⊎_elim}
use mathlib.Core.List.Memᴰ
use mathlib.Core.List.{List, [], ◌∷◌, Memᴰ}
use Prim.Native.Nat.{ℕ, ◌≤◌, ◌<◌}
use native.Mathlib.Omega.{arith}
use native.Mathlib.Decide.{ℕ_discrete}
use Rattle.utilities.specs.declared.CompassDir.{CompassDir}
use Rattle.utilities.specs.declared.CompassDir.TheVariants.{Zero}
use Rattle.utilities.specs.Compass.{all}
use Rattle.fields.proofs.Steps.{index_of_cell}
use Rattle.flow_byte.specs.Look.{Look, Looking, Taken, Ended, seen, look_at, look_along, look_around}
use Rattle.flow_arrows.proofs.Around.{Sees}
use Rattle.flow_arrows.proofs.Look as look

-- ---- the first of a list of directions of which something holds

pub data First (T : CompassDir → Type 0) : List CompassDir → CompassDir → Type 0 where
  here : {d : CompassDir} {ds : List CompassDir} → T d → First T (d ∷ ds) d
  later : {d e : CompassDir} {ds : List CompassDir} → (T e → ⊥) → First T ds d → First T (e ∷ ds) d

-- it holds of a first of them, or of none
pub first_or_none : (T : CompassDir → Type 0) → ((d : CompassDir) → Dec (T d)) → (ds : List CompassDir)
    → ((d : CompassDir) × First T ds d) ⊎ ((d : CompassDir) → Memᴰ d ds → T d → ⊥)
first_or_none T decide [] = inr (λ d m t. absurd (Memᴰ.not-nil m))
first_or_none T decide (c ∷ ds) = go (decide c) (first_or_none T decide ds)
  where
    go : Dec (T c) → ((d : CompassDir) × First T ds d) ⊎ ((d : CompassDir) → Memᴰ d ds → T d → ⊥)
        → ((d : CompassDir) × First T (c ∷ ds) d) ⊎ ((d : CompassDir) → Memᴰ d (c ∷ ds) → T d → ⊥)
    go (yes t) r = inl (c, here t)
    go (no u) (inl f) = inl (f.0, later u f.1)
    go (no u) (inr f) = inr (λ d m t. ⊎_elim (λ (q : d ≡ c). u (rw (← q) t)) (λ (k : Memᴰ d ds). f d k t) (Memᴰ.cases_cons m))

pub first_holds : {T : CompassDir → Type 0} {ds : List CompassDir} {d : CompassDir} → First T ds d → T d
first_holds (here t) = t
first_holds (later u f) = first_holds f

-- what holds of the same directions holds first of the same one
pub first_same : {T S : CompassDir → Type 0} → ((d : CompassDir) → T d → S d) → ((d : CompassDir) → S d → T d)
    → {ds : List CompassDir} {d : CompassDir} → First T ds d → First S ds d
first_same to from (here {d = d} t) = here (to d t)
first_same to from (later {e = e} u f) = later (λ t. u (from e t)) (first_same to from f)

-- ---- what a look comes to

-- a look has come to cell n, or takes it
abbrev pub LooksAt : List ℕ → ℕ → ℕ → Look → Type 0
LooksAt cells i n (Looking best value) = Sees cells i best n
LooksAt cells i n (Taken d) = Sees cells i d n
LooksAt cells i n (Ended best) = ⊥

module _ (cells : List ℕ) (i : ℕ) where
  abbrev the_value_at : ℕ → ℕ
  the_value_at = look.the_value_at cells i

  abbrev Takes : CompassDir → Type 0
  Takes = look.Takes cells i

  -- nothing yet, or a cell that the look sees, at its value
  abbrev Sound : Look → Type 0
  Sound (Looking best value) = ((best ≡ Zero) × (value ≡ 65535)) ⊎ ((n : ℕ) × Sees cells i best n × (the_value_at n ≡ value))
  Sound (Taken d) = Takes d
  Sound (Ended best) = ⊥

  -- the best so far is no more than m
  abbrev AtMost : ℕ → Look → Type 0
  AtMost m (Looking best value) = value ≤ m
  AtMost m (Taken d) = Unit
  AtMost m (Ended d) = Unit

  -- a cell of a value below b, or one that is taken
  abbrev pub Found : ℕ → Look → Type 0
  Found b (Looking best value) = (n : ℕ) × Sees cells i best n × (the_value_at n < b)
  Found b (Taken d) = Takes d
  Found b (Ended best) = ⊥

  module _ (h : i < 100) (reached : (d : CompassDir) (n : ℕ) → Sees cells i d n → the_value_at n < 65535) where
    sound : Sound (look_around cells i)
    unfolding look_around
    sound =
        look.along cells i h Sound (λ d best value p. record {
          left = λ f. p;
          taken = λ n s t. (n, s, t);
          ended = λ n s t v. absurd (omega (arith, reached d n s));
          better = λ n s t v. inr (n, s, refl);
        }) all (Looking Zero 65535) (inl (refl, refl))

    -- ---- what is seen is noted

    stays : (m : ℕ) (ds : List CompassDir) (l : Look) → AtMost m l → AtMost m (look_along cells i ds l)
    stays m =
        look.along cells i h (AtMost m)
        (λ d best value p. record { left = λ f. p; taken = λ n s t. tt; ended = λ n s t v. tt; better = λ n s t v. omega arith })

    noted_at : (m : ℕ) (l : Look) (d : CompassDir) → Sees cells i d m → AtMost (the_value_at m) (look_at cells i l d)
    noted_at m (Looking best value) d s =
        look.came cells i h (AtMost (the_value_at m)) d best value
        (record { left = λ f. (f m s).1; taken = λ n p t. tt; ended = λ n p t v. tt; better = λ n p t v. rw (look.one_cell cells i p s) (omega arith) })
    noted_at m (Taken e) d s = tt
    noted_at m (Ended e) d s = tt

    noted_along : (m : ℕ) (d : CompassDir) → Sees cells i d m → (ds : List CompassDir) → Memᴰ d ds → (l : Look)
        → AtMost (the_value_at m) (look_along cells i ds l)
    noted_along m d s [] k l = absurd (Memᴰ.not-nil k)
    noted_along m d s (e ∷ ds) k l =
        let next = look_at cells i l e in
        ⊎_elim (λ (q : d ≡ e). stays (the_value_at m) ds next (noted_at m l e (rw q at s))) (λ (j : Memᴰ d ds). noted_along m d s ds j next)
        (Memᴰ.cases_cons k)

    noted : (m : ℕ) (d : CompassDir) → Memᴰ d all → Sees cells i d m → AtMost (the_value_at m) (look_around cells i)
    unfolding look_around
    noted m d k s = noted_along m d s all k (Looking Zero 65535)

    -- ---- a lower cell, and one strictly least

    pub found : (b m : ℕ) (d : CompassDir) → Memᴰ d all → Sees cells i d m → the_value_at m < b → Found b (look_around cells i)
    found b m d k s v = go (look_around cells i) sound (noted m d k s)
      where
        go : (l : Look) → Sound l → AtMost (the_value_at m) l → Found b l
        go (Looking best value) (inl z) a = absurd (omega (arith, z.1, reached d m s))
        go (Looking best value) (inr p) a = (p.0, p.1, omega (arith, p.2))
        go (Taken e) p a = p
        go (Ended e) p a = p

    module _ (n : ℕ) (least : (d : CompassDir) (m : ℕ) → Sees cells i d m → (m ≡ n → ⊥) → the_value_at n < the_value_at m) where
      pub ends_least : (d : CompassDir) → Memᴰ d all → Sees cells i d n → ((d : CompassDir) → Takes d → ⊥) → LooksAt cells i n (look_around cells i)
      ends_least d k s none = go (look_around cells i) sound (noted n d k s)
        where
          go : (l : Look) → Sound l → AtMost (the_value_at n) l → LooksAt cells i n l
          go (Looking best value) (inl z) a = absurd (omega (arith, z.1, reached d n s))
          go (Looking best value) (inr p) a = elim (ℕ_discrete p.0 n) [
            | yes q ↦ rw (← q) p.1
            | no q ↦ absurd (omega (arith, least best p.0 p.1 q, p.2))
          ]
          go (Taken e) p a = absurd (none e p)
          go (Ended e) p a = absurd p

    -- ---- what is taken

    takes_at : (d best : CompassDir) (value n : ℕ) → Sees cells i d n → look.is_taken cells i n ≡ true → look_at cells i (Looking best value) d ≡ Taken d
    unfolding seen
    takes_at d best value n s t = rw (s.steps, index_of_cell n, s.no_wall, s.open_way, t)

    -- any other direction leaves it looking
    goes_on : (d best : CompassDir) (value : ℕ) → (Takes d → ⊥)
        → (next : CompassDir) × (at_next : ℕ) × (look_at cells i (Looking best value) d ≡ Looking next at_next)
    goes_on d best value none =
        look.came cells i h (λ l. (next : CompassDir) × (at_next : ℕ) × (l ≡ Looking next at_next)) d best value (record {
          left = λ f. (best, value, refl);
          taken = λ n s t. absurd (none (n, s, t));
          ended = λ n s t v. absurd (omega (arith, reached d n s));
          better = λ n s t v. (d, the_value_at n, refl);
        })

    stays_taken : (d : CompassDir) (ds : List CompassDir) → look_along cells i ds (Taken d) ≡ Taken d
    stays_taken d [] = refl
    stays_taken d (e ∷ ds) = stays_taken d ds

    takes_along : {ds : List CompassDir} {d : CompassDir} → First Takes ds d → (best : CompassDir) (value : ℕ)
        → look_along cells i ds (Looking best value) ≡ Taken d
    takes_along (here {d = d} {ds = es} t) best value =
        ap (look_along cells i es) (takes_at d best value t.0 t.1 t.2) ∙ stays_taken d es
    takes_along (later {e = e} {ds = es} none f) best value =
        let g = goes_on e best value none in
        ap (look_along cells i es) g.2 ∙ takes_along f g.0 g.1

    pub takes_first : {d : CompassDir} → First Takes all d → look_around cells i ≡ Taken d
    unfolding look_around
    takes_first f = takes_along f Zero 65535
