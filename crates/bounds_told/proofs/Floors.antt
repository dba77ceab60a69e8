-- Floors between two others: they have the same walls, so that they start the same field, and their built costs lie between.
--     started_same        the started field of a window is the same on floors with the same walls
--     not_dearer          where no cell costs more, none has a greater built cost
--     reached_too         what is reached on one such floor is reached on the other: the sum of a walk over at most 100 cells stays below 65535
--     wall_known, taken_known, portal_known   the flags of a built cell: a wall's, and a window cell's, whatever the costs
-- Assumes nothing.
use mathlib.Core.Path.{◌≡◌, refl, sym, ap, ◌∙◌}
use mathlib.Core.Bool.{Bool, true, false, cond, ◌||◌}
use mathlib.Core.Logic.{◌⊎◌, inl, inr}
use mathlib.Core.List.{List}
use Prim.Native.Nat.{ℕ, ◌+◌, ◌≤◌, ◌<◌}
use native.Mathlib.Omega.{arith}
use lib.Dec.{eqb}
use lib.ListN.{length, get_or}
use lib.Seq.{ext_get_or}
use borrow.Author.Tests.{eqb-true, eqb-false, eq-eqb, ne_eqb}
use Rattle.fields.proofs.Beside.{beside_below}
use Rattle.integration_waves.specs.Walks.{start, move}
use Rattle.route.specs.Target.{to_window}
use Rattle.integration_field.specs.Word.{low, is_goal, is_portal, is_impassable}
use Rattle.integration_field.specs.Walks.{MayEnter, Permitted}
use Rattle.integration_field.specs.Promise.{Walked, LeastWalks}
use Rattle.integration_field.specs.Diagonal.{wall_at}
use Rattle.integration_field.specs.Listed.{with_corners}
use Rattle.integration_field.proofs.Flags.{small_flag}
use Rattle.integration_started.specs.Sight.{walls, with_portals}
use Rattle.integration_started.specs.Started.{started_at, started}
use Rattle.integration_started.proofs.Before.{walls_length}
use Rattle.integration_started.proofs.Words.{word_at}
use Rattle.integration_walks.proofs.Ground.{mem_among}
use Rattle.flow_byte.specs.New.{is_in}
use Rattle.flow_arrows.proofs.Fall.{is_in_law, not_in, Sector, value, Plain, end_word_law, by_kind, spreads}
use Rattle.flow_arrows.proofs.CellBytes.{small_untaken}

-- ---- the same walls

module _ (a b : List ℕ) (a-full : length a ≡ 100) (b-full : length b ≡ 100)
    (to : (x : ℕ) → x < 100 → get_or a x 0 ≡ 255 → get_or b x 0 ≡ 255) (from : (x : ℕ) → x < 100 → get_or b x 0 ≡ 255 → get_or a x 0 ≡ 255) where
  same_wall : (x : ℕ) → x < 100 → eqb (get_or a x 0) 255 ≡ eqb (get_or b x 0) 255
  same_wall x h = go (eqb (get_or a x 0) 255) refl
    where
      go : (t : Bool) → eqb (get_or a x 0) 255 ≡ t → t ≡ eqb (get_or b x 0) 255
      go true e = sym (eq-eqb (get_or b x 0) 255 (to x h (eqb-true (get_or a x 0) 255 e)))
      go false e = sym (ne_eqb (get_or b x 0) 255 (λ q. eqb-false (get_or a x 0) 255 e (from x h q)))

  same_walls : walls a ≡ walls b
  same_walls =
      ext_get_or 0 (walls a) (walls b) (walls_length a ∙ a-full ∙ sym (walls_length b ∙ b-full))
      (λ i l. (let h : i < 100 = omega (arith, walls_length a) in
      word_at a i (omega arith) ∙ ap (λ (t : Bool). cond t 0x200FFFF 65535) (same_wall i h) ∙ sym (word_at b i (omega arith))))

  pub started_same : (window : List ℕ) → started a (to_window window) ≡ started b (to_window window)
  unfolding started started_at
  started_same window = ap (λ (w : List ℕ). with_corners (with_portals window w) window) same_walls

-- ---- costs that are nowhere higher

module _ (a b cells corners : List ℕ) (cheap : (x : ℕ) → x < 100 → get_or a x 0 ≤ get_or b x 0) where
  -- a walk over the dearer floor is one over the cheaper, and comes to no more
  cheaper : {k x s : ℕ} → Permitted b cells corners k x s → (t : ℕ) × Permitted a cells corners k x t × (t ≤ s)
  cheaper {s = s} (start c e) = (s, start c e, omega arith)
  cheaper {x = x} {s = s} (move {y = y} {t = t} w n m e) =
      let r = cheaper w in
      let l : r.0 + get_or a x 0 ≤ s = omega (arith, r.2, cheap x (beside_below y x n).1) in
      let may : MayEnter a cells corners x (r.0 + get_or a x 0)
      = record { no_wall = m.no_wall; not_in_sight = m.not_in_sight; below = omega (arith, l, m.below) } in
      (r.0 + get_or a x 0, move r.1 n may refl, l)

  pub not_dearer : (on-a on-b : List ℕ) → LeastWalks a cells corners on-a → LeastWalks b cells corners on-b
      → (x : ℕ) → low (get_or on-a x 0) ≤ low (get_or on-b x 0)
  not_dearer on-a on-b p q x = go (q.attained x) (p.attained x)
    where
      go : (get_or on-b x 0 ≡ get_or cells x 0) ⊎ Walked b cells corners x (get_or on-b x 0)
          → (get_or on-a x 0 ≡ get_or cells x 0) ⊎ Walked a cells corners x (get_or on-a x 0) → low (get_or on-a x 0) ≤ low (get_or on-b x 0)
      go (inl e) (inl f) = omega (arith, ap low e, ap low f)
      go (inl e) (inr w) = omega (arith, ap low e, w.lower)
      go (inr v) f =
          let r = cheaper v.walk in
          omega (arith, r.2, p.none_below v.moves x r.0 r.1, v.lower)

-- ---- the flags of a built cell

module _ {costs window cells corners built : List ℕ} (s : Sector costs window cells corners built) (x : ℕ) (h : x < 100) where
  pub wall_known : wall_at built x ≡ wall_at cells x
  wall_known =
      by_kind s x h
      (λ a e. ap is_impassable (e ∙ sym (s.started.end_cell x a)))
      (λ c a e. ap is_impassable (e ∙ sym (s.started.wall_cell x h c a)))
      (λ p l. small_flag (get_or built x 0) 25 (omega arith) ∙ sym (ap is_impassable (s.started.other_cell x h p.no_wall p.no_end)))

  pub taken_known : (is_goal (get_or built x 0) || is_portal (get_or built x 0)) ≡ is_in x window
  taken_known =
      by_kind s x h
      (λ a e. ap (λ (w : ℕ). is_goal w || is_portal w) e ∙ sym (is_in_law x window a))
      (λ c a e. ap (λ (w : ℕ). is_goal w || is_portal w) e ∙ sym (not_in x window a))
      (λ p l. small_untaken (get_or built x 0) l ∙ sym (not_in x window p.no_end))

  pub portal_known : is_portal (get_or built x 0) ≡ is_in x window
  portal_known =
      by_kind s x h
      (λ a e. ap is_portal e ∙ sym (is_in_law x window a))
      (λ c a e. ap is_portal e ∙ sym (not_in x window a))
      (λ p l. small_flag (get_or built x 0) 19 (omega arith) ∙ sym (not_in x window p.no_end))

-- ---- reached on one floor, reached on the other

module _ {a b window cells corners on-a on-b : List ℕ} (s : Sector a window cells corners on-a) (t : Sector b window cells corners on-b) where
  walked : {k x v : ℕ} → Permitted a cells corners k x v → value t x < 65535
  walked {x = x} (start c e) = omega (arith, ap low (end_word_law t x (mem_among x window (rw t.started.list at c))))
  walked {x = x} (move {y = y} w n m e) = spreads t y x n (walked w) (wall_known t x (beside_below y x n).1 ∙ m.no_wall)

  pub reached_too : (x : ℕ) → x < 100 → value s x < 65535 → value t x < 65535
  reached_too x h v =
      by_kind s x h
      (λ i e. omega (arith, ap low (end_word_law t x i)))
      (λ c i e. absurd (omega (arith, ap low e)))
      (λ p l. go p (s.least.attained x))
    where
      go : Plain s x → (get_or on-a x 0 ≡ get_or cells x 0) ⊎ Walked a cells corners x (get_or on-a x 0) → value t x < 65535
      go p (inl e) = absurd (omega (arith, ap low e, ap low (s.started.other_cell x h p.no_wall p.no_end)))
      go p (inr w) = walked w.walk
