-- The look in passes is the look of the definition.
--     noted_not, noted_yes             when a look goes by what it sees
--     after_not, after_noted, after_ended   what it comes to, by its key and bits
--     seen_held                        what a look makes of a neighbour, by the neighbour's key: one step, by the definition's cases
--     goes_on, stays                   the same of any look, where the step arrives and where it leaves the sector
--     on_cell, on_outside              the looks of all cells, of which one goes on
--     pass_on                          and of which all have gone on
--     new_looks                        before the first direction
--     held_byte_law, held_bytes_law, none_looks     the bytes
-- Assumes nothing.
use mathlib.Core.Path.{◌≡◌, refl, sym, subst, ap, ◌∙◌}
use mathlib.Core.Bool.{Bool, true, false, not, cond, ◌&&◌, ◌||◌}
use mathlib.Core.List.{List, map}
use Prim.Native.Nat.{ℕ, ◌+◌, ◌≤◌, ◌<◌}
use native.Mathlib.Omega.{arith}
use native.Mathlib.Decide.{ℕ_discrete}
use lib.Dec.{ltb, eqb}
use lib.Bits.{bit_or}
use lib.ListN.{length, get_or, set, replicate, length-set, length-replicate, get_or-replicate}
use lib.Seq.{get_or-set_same, get_or-set_other, set-get_or, ext_get_or}
use borrow.Author.Tests.{lt-ltb, le-ltb, eq-eqb, ne_eqb, ltb-true, ltb-false, eqb-false}
use Rattle.utilities.specs.declared.CompassDir.{CompassDir}
use Rattle.utilities.specs.declared.CompassDir.TheVariants.{North, East, South, West, NorthEast, SouthEast, SouthWest, NorthWest, Zero}
use Rattle.utilities.specs.Compass.{points}
use Rattle.utilities.specs.Lists.{below}
use Rattle.utilities.proofs.Lists.{table_length, table_at, table_same}
use Rattle.fields.specs.declared.FieldCell.{FieldCell}
use Rattle.std.specs.Prelude.{Option, Some, None}
use Rattle.fields.specs.Cell.{cell_at, index_of, stepped}
use Rattle.integration_field.specs.Word.{low, is_goal, is_portal}
use Rattle.integration_field.specs.Diagonal.{wall_at, passes_wall}
use Rattle.flow_bits.specs.Byte.{bits_of}
use Rattle.flow_byte.specs.Look.{Look, Looking, Taken, Ended, seen, seen_at, look_at, look_around, pointed, looked_byte, built_byte, flow_build}
use Rattle.flow_build.specs.Inner.{look_key, look_dir, LookHeld, LooksHeld, nothing_found, cell_key, seen_key, is_noted}
use Rattle.flow_build.specs.Inner.{key_after, bits_after, looked_to, LooksOn, is_kept, NoneLooks, held_byte, held_bytes}

-- ---- one key against another

and_false : (b : Bool) → (b && false) ≡ false
and_false true = refl
and_false false = refl

module _ (x key : ℕ) where
  noted_not : key ≤ x → is_noted x key ≡ false
  unfolding is_noted
  noted_not h = rw (le-ltb x key h) (and_false (not (eqb key 1)))

  noted_yes : (key ≡ 1 → ⊥) → x < key → is_noted x key ≡ true
  unfolding is_noted
  noted_yes f h = rw (ne_eqb key 1 f, lt-ltb x key h)

  noted_ended : key ≡ 1 → is_noted x key ≡ false
  unfolding is_noted
  noted_ended e = rw (eq-eqb key 1 e)

  -- what a look of the key and these bits comes to
  module _ (d bits : ℕ) where
    after_not : is_noted x key ≡ false → (key_after x key ≡ key) × (bits_after x key d bits ≡ bits)
    unfolding key_after bits_after
    after_not e = (rw e, rw e)

    after_noted : is_noted x key ≡ true → (x ≡ 1 → ⊥) → (key_after x key ≡ x) × (bits_after x key d bits ≡ d)
    unfolding key_after bits_after
    after_noted e f = (rw e, rw (e, ne_eqb x 1 f))

    after_ended : is_noted x key ≡ true → x ≡ 1 → (key_after x key ≡ 1) × (bits_after x key d bits ≡ bits)
    unfolding key_after bits_after
    after_ended e f = (rw e f, rw (e, eq-eqb x 1 f))

held : (l : Look) {key bits : ℕ} → (key ≡ look_key l) × (bits ≡ bits_of (look_dir l)) → key ≤ 65537 → LookHeld l key bits
held l e h = record { key_is = e.0; bits_are = e.1; key_in = h }

held_same : {l m : Look} {k k' b b' : ℕ} → m ≡ l → k' ≡ k → b' ≡ b → LookHeld l k b → LookHeld m k' b'
held_same p q r h = rw (p, q, r) h

-- ---- one neighbour

-- a look with a best direction and its value, which has a neighbour in direction d; its tests are w a wall, p a diagonal that passes one, t a goal
-- or a portal, and m is the neighbour's value
module _ (d best : CompassDir) (value m : ℕ) (small : value ≤ 65535) where
  abbrev key_by : Bool → Bool → Bool → ℕ
  key_by w p t = cond p 65537 (cond w 65537 (cond t 0 (cond (eqb m 65535) 1 (m + 2))))

  abbrev HeldBy : Look → ℕ → Type 0
  HeldBy l x = LookHeld l (key_after x (value + 2)) (bits_after x (value + 2) (bits_of d) (bits_of best))

  unmoved : (x : ℕ) → value + 2 ≤ x → HeldBy (Looking best value) x
  unmoved x h =
      let e = after_not x (value + 2) (bits_of d) (bits_of best) (noted_not x (value + 2) h) in
      held (Looking best value) e (omega (arith, e.0))

  compared : (m ≡ 65535 → ⊥) → (b : Bool) → ltb m value ≡ b → HeldBy (cond b (Looking d m) (Looking best value)) (m + 2)
  compared f true q =
      let h : m < value = ltb-true m value q in
      let e = after_noted (m + 2) (value + 2) (bits_of d) (bits_of best) (noted_yes (m + 2) (value + 2) (λ z. omega arith) (omega arith)) (λ z. omega arith) in
      held (Looking d m) e (omega (arith, e.0))
  compared f false q = let h : value ≤ m = ltb-false m value q in unmoved (m + 2) (omega arith)

  ends : (b : Bool) → eqb m 65535 ≡ b
      → HeldBy (cond b (Ended best) (cond (ltb m value) (Looking d m) (Looking best value))) (cond b 1 (m + 2))
  ends true q =
      let e = after_ended 1 (value + 2) (bits_of d) (bits_of best) (noted_yes 1 (value + 2) (λ z. omega arith) (omega arith)) refl in
      held (Ended best) e (omega (arith, e.0))
  ends false q = compared (eqb-false m 65535 q) (ltb m value) refl

  by_tests : (w p t : Bool)
      → HeldBy (cond (w || p) (Looking best value)
      (cond t (Taken d) (cond (eqb m 65535) (Ended best) (cond (ltb m value) (Looking d m) (Looking best value))))) (key_by w p t)
  by_tests true true t = unmoved 65537 (omega arith)
  by_tests true false t = unmoved 65537 (omega arith)
  by_tests false true t = unmoved 65537 (omega arith)
  by_tests false false true =
      let e = after_noted 0 (value + 2) (bits_of d) (bits_of best) (noted_yes 0 (value + 2) (λ z. omega arith) (omega arith)) (λ z. omega arith) in
      held (Taken d) e (omega (arith, e.0))
  by_tests false false false = ends (eqb m 65535) refl

seen_held : (cells : List ℕ) (i n : ℕ) (d best : CompassDir) (value : ℕ) → value ≤ 65535 → let x = seen_key cells i n in
    LookHeld (seen cells i d n best value) (key_after x (value + 2)) (bits_after x (value + 2) (bits_of d) (bits_of best))
unfolding seen seen_key cell_key
seen_held cells i n d best value h =
    let y = get_or cells n 0 in
    by_tests d best value (low y) h (wall_at cells n) (passes_wall cells i n) (is_goal y || is_portal y)

-- ---- one cell

module _ (cells : List ℕ) (i : ℕ) (d : CompassDir) where
  goes_on : (c : FieldCell) → stepped (cell_at i) d ≡ Some c → (l : Look) {key bits : ℕ} → LookHeld l key bits → let x = seen_key cells i (index_of c) in
      LookHeld (look_at cells i l d) (key_after x key) (bits_after x key (bits_of d) bits)
  goes_on c e (Looking best value) {key} {bits} h =
      let x = seen_key cells i (index_of c) in
      held_same
      (ap (λ (s : Option FieldCell). seen_at cells i d s best value) e)
      (ap (key_after x) h.key_is)
      (ap (λ (k : ℕ). bits_after x k (bits_of d) bits) h.key_is ∙ ap (bits_after x (value + 2) (bits_of d)) h.bits_are)
      (seen_held cells i (index_of c) d best value (omega (arith, h.key_is, h.key_in)))
  goes_on c e (Taken t) {key} {bits} h =
      let x = seen_key cells i (index_of c) in
      let s = after_not x key (bits_of d) bits (noted_not x key (omega (arith, h.key_is))) in
      held_same refl s.0 s.1 h
  goes_on c e (Ended t) {key} {bits} h =
      let x = seen_key cells i (index_of c) in
      let s = after_not x key (bits_of d) bits (noted_ended x key h.key_is) in
      held_same refl s.0 s.1 h

  stays : stepped (cell_at i) d ≡ None → (l : Look) {key bits : ℕ} → LookHeld l key bits → LookHeld (look_at cells i l d) key bits
  stays e (Looking best value) h = held_same (ap (λ (s : Option FieldCell). seen_at cells i d s best value) e) refl refl h
  stays e (Taken t) h = h
  stays e (Ended t) h = h

-- ---- all cells

module _ (cells : List ℕ) (d : CompassDir) (looks : ℕ → Look) (k n : ℕ) where
  looked_in : k < n → looked_to cells d n looks k ≡ look_at cells k (looks k) d
  looked_in h = rw (lt-ltb k n h)

  looked_out : n ≤ k → looked_to cells d n looks k ≡ looks k
  looked_out h = rw (le-ltb k n h)

module _ (cells : List ℕ) (i : ℕ) (h : i < 100) (d : CompassDir) (keys bits : List ℕ) where
  -- the look of cell i goes on to a key and bits
  put : (key bit : ℕ) → ((l : Look) → LookHeld l (get_or keys i 0) (get_or bits i 0) → LookHeld (look_at cells i l d) key bit)
      → LooksOn cells d i (i + 1) keys bits (set keys i key) (set bits i bit)
  put key bit f looks all = record {
    keys_full = length-set keys i key ∙ all.keys_full;
    bits_full = length-set bits i bit ∙ all.bits_full;
    each = λ k j. at k j (ℕ_discrete k i);
  }
    where
      here : LookHeld (looked_to cells d (i + 1) looks i) (get_or (set keys i key) i 0) (get_or (set bits i bit) i 0)
      here =
          held_same
          (looked_in cells d looks i (i + 1) (omega arith))
          (get_or-set_same keys i key 0 (omega (arith, all.keys_full)))
          (get_or-set_same bits i bit 0 (omega (arith, all.bits_full)))
          (f (looks i) (held_same (sym (looked_out cells d looks i i (omega arith))) refl refl (all.each i h)))

      same : (k : ℕ) → (k ≡ i → ⊥) → (b : Bool) → ltb k i ≡ b → looked_to cells d (i + 1) looks k ≡ looked_to cells d i looks k
      same k f true q =
          let j : k < i = ltb-true k i q in
          looked_in cells d looks k (i + 1) (omega arith) ∙ sym (looked_in cells d looks k i j)
      same k f false q =
          let j : i ≤ k = ltb-false k i q in
          looked_out cells d looks k (i + 1) (omega arith) ∙ sym (looked_out cells d looks k i j)

      at : (k : ℕ) → k < 100 → Dec (k ≡ i) → LookHeld (looked_to cells d (i + 1) looks k) (get_or (set keys i key) k 0) (get_or (set bits i bit) k 0)
      at k j (yes e) =
          subst (λ (z : ℕ). LookHeld (looked_to cells d (i + 1) looks z) (get_or (set keys i key) z 0) (get_or (set bits i bit) z 0)) (sym e) here
      at k j (no e) =
          held_same (same k e (ltb k i) refl) (get_or-set_other keys i k key 0 e) (get_or-set_other bits i k bit 0 e) (all.each k j)

  pub on_cell : (c : FieldCell) → stepped (cell_at i) d ≡ Some c → let x = seen_key cells i (index_of c) in
      LooksOn cells d i (i + 1) keys bits (set keys i (key_after x (get_or keys i 0))) (set bits i (bits_after x (get_or keys i 0) (bits_of d) (get_or bits i 0)))
  on_cell c e = put _ _ (λ l p. goes_on cells i d c e l p)

  pub on_outside : stepped (cell_at i) d ≡ None → LooksOn cells d i (i + 1) keys bits keys bits
  on_outside e looks all =
      let on = put (get_or keys i 0) (get_or bits i 0) (λ l p. stays cells i d e l p) looks all in
      rw (set-get_or keys i 0, set-get_or bits i 0) at on

module _ (cells : List ℕ) (d : CompassDir) {keys bits keys' bits' : List ℕ} {looks : ℕ → Look} where
  pub pass_on : LooksOn cells d 0 100 keys bits keys' bits' → LooksHeld looks keys bits → LooksHeld (λ k. look_at cells k (looks k) d) keys' bits'
  pass_on on all = record {
    keys_full = last.keys_full;
    bits_full = last.bits_full;
    each = λ k h. held_same (sym (looked_in cells d looks k 100 h)) refl refl (last.each k h);
  }
    where
      first : LooksHeld (looked_to cells d 0 looks) keys bits
      first = record {
        keys_full = all.keys_full;
        bits_full = all.bits_full;
        each = λ k h. held_same (looked_out cells d looks k 0 (omega arith)) refl refl (all.each k h);
      }

      last : LooksHeld (looked_to cells d 100 looks) keys' bits'
      last = on looks first

-- one after the other
pub on_to : (cells : List ℕ) (d : CompassDir) (m n p : ℕ) {k b k' b' : List ℕ} → n ≡ p → LooksOn cells d m n k b k' b' → LooksOn cells d m p k b k' b'
on_to cells d m n p {k} {b} {k'} {b'} e f looks h = subst (λ (z : ℕ). LooksHeld (looked_to cells d z looks) k' b') e (f looks h)

pub then_on : (cells : List ℕ) (d : CompassDir) (m n p q : ℕ) {k b k' b' k'' b'' : List ℕ} → p ≡ q
    → LooksOn cells d m n k b k' b' → LooksOn cells d n p k' b' k'' b'' → LooksOn cells d m q k b k'' b''
then_on cells d m n p q e f g = on_to cells d m p q e (λ looks h. g looks (f looks h))

pub new_looks : LooksHeld nothing_found (replicate 100 65537) (replicate 100 0)
new_looks = record {
  keys_full = length-replicate {A = ℕ} 100 65537;
  bits_full = length-replicate {A = ℕ} 100 0;
  each = λ k h.
      let e = get_or-replicate {A = ℕ} 100 k 65537 0 h in
      held (Looking Zero 65535) (e, get_or-replicate {A = ℕ} 100 k 0 0 h) (omega (arith, e));
}

-- ---- the bytes

-- a direction's bits say whether it points anywhere
dir_byte : (d : CompassDir) → cond (eqb (bits_of d) 0) 0xE0 (bit_or 0x10 (bits_of d)) ≡ cond (points d) (0x10 + bits_of d) 0xE0
dir_byte North = refl
dir_byte East = refl
dir_byte South = refl
dir_byte West = refl
dir_byte NorthEast = refl
dir_byte SouthEast = refl
dir_byte SouthWest = refl
dir_byte NorthWest = refl
dir_byte Zero = refl

pub held_byte_law : (byte : ℕ) (l : Look) {key bits : ℕ} → LookHeld l key bits → held_byte byte key bits ≡ looked_byte byte l
unfolding held_byte pointed
held_byte_law byte (Looking best value) {key} h =
    rw (h.bits_are, ne_eqb key 1 (λ z. omega (arith, h.key_is))) (ap (bit_or byte) (dir_byte best))
held_byte_law byte (Taken d) h = rw (h.key_is, h.bits_are) (ap (bit_or byte) (dir_byte d))
held_byte_law byte (Ended best) h = rw (h.key_is, h.bits_are) (ap (bit_or (bit_or byte 0xE0)) (dir_byte best))

pub held_bytes_law : (cells keys bits sheet : List ℕ) → LooksHeld (look_around cells) keys bits → held_bytes keys bits sheet ≡ flow_build cells sheet
unfolding flow_build built_byte
held_bytes_law cells keys bits sheet all =
    table_same _ _ 100
    (λ i h. let byte = get_or sheet i 0 in ap (cond (is_kept byte) byte) (held_byte_law byte (look_around cells i) (all.each i h)))

-- one cell more that keeps its byte
pub kept_more : (sheet : List ℕ) (i : ℕ) → ((k : ℕ) → k < i → is_kept (get_or sheet k 0) ≡ true) → is_kept (get_or sheet i 0) ≡ true
    → (k : ℕ) → k < i + 1 → is_kept (get_or sheet k 0) ≡ true
kept_more sheet i f e k h = go (ℕ_discrete k i)
  where
    go : Dec (k ≡ i) → is_kept (get_or sheet k 0) ≡ true
    go (yes q) = subst (λ (z : ℕ). is_kept (get_or sheet z 0) ≡ true) (sym q) e
    go (no q) = f k (omega arith)

pub none_looks : (cells sheet : List ℕ) → length sheet ≡ 100 → NoneLooks sheet → sheet ≡ flow_build cells sheet
unfolding flow_build built_byte
none_looks cells sheet full none =
    let new : ℕ → ℕ = λ i. built_byte cells i (get_or sheet i 0) in
    ext_get_or 0 sheet (map new (below 100)) (full ∙ sym (table_length new 100))
    (λ i h. rw (none i (omega (arith, full))) at (sym (table_at new 0 100 i (omega (arith, full)))))
