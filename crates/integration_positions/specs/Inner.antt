-- How positions are handed on (02, "Job 10"): the forms that the code goes by. A reader of the promises needs none of them.
-- Assumes nothing.
use Rattle.std.specs.Prelude.{◌≡◌, Bool, not, cond, ◌&&◌, ℕ, suc, ◌-◌, ◌≤◌, ◌<◌, eqb, length, get_or, set, take, Option, Some, None}
use mathlib.Core.List.{List, [], ◌∷◌, map, Memᴰ}
use Rattle.utilities.specs.declared.CompassDir.{CompassDir}
use Rattle.utilities.specs.Lists.{below}
use Rattle.utilities.specs.Count.{count}
use Rattle.fields.specs.declared.FieldCell.{FieldCell}
use Rattle.fields.specs.Cell.{index_of, stepped}
use Rattle.fields.specs.Neighbours.{BesideAt}
use Rattle.integration_field.specs.Word.{low}
use Rattle.integration_field.specs.Listed.{Indexes, no_positions}
use Rattle.integration_field.specs.Build.{build}
use Rattle.integration_field.specs.Position.{is_unplaced}
use Rattle.integration_field.specs.Promise.{WalkFrom}

-- ---- moves that keep the built costs exact

-- the value that a neighbour has if a move from it into a cell of this cost comes to the cell's built cost; 65536, which no cell holds, where building
-- left the cell as it was
unfoldable pub entered_from : ℕ → ℕ → ℕ → ℕ
entered_from cost before built = cond (eqb built before) 65536 (built - cost)

-- where building changed a cell, a walk paid its cost
abbrev pub Lowered : List ℕ → List ℕ → List ℕ → Type 0
Lowered costs before built = (x : ℕ) → x < 100 → (get_or built x 0 ≡ get_or before x 0 → ⊥) → get_or costs x 0 ≤ get_or built x 0

-- ---- one cell after the other

-- a cell has a position
abbrev pub is_placed : ℕ → Bool
is_placed p = not (eqb p 255)

-- the positions so far, and the cells that have one, in the order in which they got it: the first `queued` places of the queue
pub record Placing : Type 0 where
  pub places : List ℕ
  pub queue : List ℕ
  pub queued : ℕ

abbrev pub placing : List ℕ → List ℕ → ℕ → Placing
placing places queue queued = record { places = places; queue = queue; queued = queued }

-- each cell that has a position is queued, so that there is room for one that has none
pub record QueueRoom (s : Placing) : Type 0 where
  pub full : length s.places ≡ 100
  pub counted : count is_placed s.places ≡ s.queued
  pub indexes : Indexes 101 s.queue s.queued

-- what was queued and placed stays so
pub record Grown (s t : Placing) : Type 0 where
  pub more : s.queued ≤ t.queued
  pub queue_kept : (j : ℕ) → j < s.queued → get_or t.queue j 0 ≡ get_or s.queue j 0
  pub places_kept : (z : ℕ) → (get_or s.places z 0 ≡ 255 → ⊥) → get_or t.places z 0 ≡ get_or s.places z 0

-- a cell takes a position: it has none, and a move from this value arrives at its built cost
abbrev pub is_taken : ℕ → ℕ → ℕ → Bool
is_taken p entered value = eqb p 255 && eqb entered value

-- cell x takes a position; it stands behind the queue in either case, and counts where it took one
unfoldable pub placed_at : List ℕ → ℕ → ℕ → ℕ → Placing → Placing
placed_at entered value p x s =
    let b = is_taken (get_or s.places x 0) (get_or entered x 0) value in
    placing (cond b (set s.places x p) s.places) (set s.queue s.queued x) (cond b (suc s.queued) s.queued)

-- the cell where a step arrives takes a position, if there is such a cell
abbrev pub placed_to : List ℕ → ℕ → ℕ → Option FieldCell → Placing → Placing
placed_to entered value p (Some c) s = placed_at entered value p (index_of c) s
placed_to entered value p None s = s

-- the neighbours of a cell take a position, in each of these directions in turn
unfoldable pub placed_around : List ℕ → ℕ → ℕ → FieldCell → List CompassDir → Placing → Placing
placed_around entered value p c [] s = s
placed_around entered value p c (d ∷ ds) s = placed_around entered value p c ds (placed_to entered value p (stepped c d) s)

-- the position that a cell keeps: none where it was wall, in sight or flagged GOAL before building
abbrev pub kept_of : ℕ → ℕ → ℕ
kept_of before p = cond (is_unplaced before) 255 p

-- ---- what the code has in its arrays meanwhile

-- a cell's entry: the value from which it is entered; 65537, from which no move is made, where it has a position
abbrev pub entry_of : ℕ → ℕ → ℕ
entry_of entered p = cond (eqb p 255) entered 65537

-- The code's entries and queue stand for the positions so far. `entered` are the entries before the first corner.
pub record StandsFor (entered entries queue : List ℕ) (queued : ℕ) (s : Placing) : Type 0 where
  pub room : QueueRoom s
  pub full : length entries ≡ 100
  pub same_queue : queue ≡ s.queue
  pub same_queued : queued ≡ s.queued
  pub entry_at : (x : ℕ) → x < 100 → get_or entries x 0 ≡ entry_of (get_or entered x 0) (get_or s.places x 0)

-- they stand for some positions, and so there is room
pub record HasRoom (entries queue : List ℕ) (queued : ℕ) : Type 0 where
  pub entered : List ℕ
  pub state : Placing
  pub stands : StandsFor entered entries queue queued state

-- what the functions that place cells are given
pub record PlaceReady (entries queue : List ℕ) (queued value index : ℕ) : Type 0 where
  pub inside : index < 100
  pub value_in : value ≤ 65536
  pub room : HasRoom entries queue queued

pub record FloodReady (entries queue : List ℕ) (gone queued position : ℕ) : Type 0 where
  pub small : position < 255
  pub behind : gone ≤ queued
  pub room : HasRoom entries queue queued

pub record CornerReady (entries queue : List ℕ) (queued position corner : ℕ) : Type 0 where
  pub inside : corner < 100
  pub small : position < 255
  pub room : HasRoom entries queue queued

pub record CornersReady (entries positions corners : List ℕ) (count : ℕ) : Type 0 where
  pub listed : Indexes 100 corners count
  pub full : length entries ≡ 100
  pub none_yet : positions ≡ no_positions

-- whichever positions they stand for before a step of the code, behind it they stand for those that `step` leaves, for any position p
abbrev pub StepsTo : List ℕ → List ℕ → ℕ → List ℕ → List ℕ → ℕ → (List ℕ → ℕ → Placing → Placing) → Type 0
StepsTo entries queue queued entries-then queue-then queued-then step =
    (entered : List ℕ) (p : ℕ) (s : Placing) → p < 255 → StandsFor entered entries queue queued s
    → StandsFor entered entries-then queue-then queued-then (step entered p s)

-- The code's array of positions: those of the first `gone` cells of the queue are written, and no cell without a position has one there.
pub record Written (gone : ℕ) (positions : List ℕ) (s : Placing) : Type 0 where
  pub full : length positions ≡ 100
  pub written : (j : ℕ) → j < gone → get_or positions (get_or s.queue j 0) 0 ≡ get_or s.places (get_or s.queue j 0) 0
  pub unwritten : (x : ℕ) → x < 100 → get_or s.places x 0 ≡ 255 → get_or positions x 0 ≡ 255

-- ---- what holds while positions are handed on

-- what positions are sought for: a field's costs, its cells before building and after, and the corners that it was built from
pub record BuiltFrom (costs before built corners : List ℕ) (count : ℕ) : Type 0 where
  pub full : length before ≡ 100
  pub listed : Indexes 100 corners count
  pub is_built : built ≡ (build costs before (take count corners)).cells

-- the field that is meant: `built` are its cells after building, and `entered` the values from which moves arrive at built costs
pub record BuiltOn (costs before corners built entered : List ℕ) : Type 0 where
  pub full : length before ≡ 100
  pub corners_in : (x : ℕ) → Memᴰ x corners → x < 100
  pub few_corners : length corners ≤ 100
  pub is_built : built ≡ (build costs before corners).cells
  pub is_entered : entered ≡ map (λ x. entered_from (get_or costs x 0) (get_or before x 0) (get_or built x 0)) (below 100)

module _ (costs before corners built entered : List ℕ) where
  -- a walk from the corner at position p arrives at the cell's built cost
  pub record Mine (x p : ℕ) : Type 0 where
    pub is_corner_of : p < length corners
    pub walk : WalkFrom costs before corners p x (low (get_or built x 0))

  -- The first `gone` cells of the queue have been gone around from; those behind them hold position i, and no cell holds a later one.
  pub record Flood (i gone : ℕ) (s : Placing) : Type 0 where
    pub behind : gone ≤ s.queued
    pub listed : (x : ℕ) → x < 100 → (get_or s.places x 0 ≡ 255 → ⊥) → (j : ℕ) × (j < s.queued) × (get_or s.queue j 0 ≡ x)
    pub queued_placed : (j : ℕ) → j < s.queued → get_or s.places (get_or s.queue j 0) 0 ≡ 255 → ⊥
    pub mine : (x : ℕ) → x < 100 → (get_or s.places x 0 ≡ 255 → ⊥) → Mine x (get_or s.places x 0)
    pub no_later : (x : ℕ) → x < 100 → (get_or s.places x 0 ≡ 255 → ⊥) → get_or s.places x 0 ≤ i
    pub recent : (j : ℕ) → gone ≤ j → j < s.queued → get_or s.places (get_or s.queue j 0) 0 ≡ i
    pub closed : (j x : ℕ) → j < gone → BesideAt (get_or s.queue j 0) x → get_or entered x 0 ≡ low (get_or built (get_or s.queue j 0) 0)
        → get_or s.places x 0 ≤ get_or s.places (get_or s.queue j 0) 0

  -- position i was handed on from s, and t is what the code's arrays hold then
  pub record FloodedOn (i : ℕ) (entries : List ℕ) (s t : Placing) : Type 0 where
    pub stands : StandsFor entered entries t.queue t.queued t
    pub grown : Grown s t
    pub flood : Flood i t.queued t

  -- the corners before position i that building left alone have their own position or an earlier one
  abbrev pub Sources : ℕ → List ℕ → Type 0
  Sources i places = (j : ℕ) → j < i → get_or entered (get_or corners j 0) 0 ≡ 65536 → get_or places (get_or corners j 0) 0 ≤ j

  -- the positions before i were handed on
  pub record Gone (i : ℕ) (s : Placing) : Type 0 where
    pub flood : Flood i s.queued s
    pub sources : Sources i s.places

  -- the positions before i were handed on, and s is what the code's arrays hold
  pub record GoneOn (i : ℕ) (entries : List ℕ) (s : Placing) : Type 0 where
    pub stands : StandsFor entered entries s.queue s.queued s
    pub gone : Gone i s

  -- three facts that decide the positions
  pub record Decided (places : List ℕ) : Type 0 where
    pub decided_full : length places ≡ 100
    pub decided_mine : (x : ℕ) → x < 100 → (get_or places x 0 ≡ 255 → ⊥) → Mine x (get_or places x 0)
    pub decided_closed : (y x : ℕ) → y < 100 → (get_or places y 0 ≡ 255 → ⊥) → BesideAt y x → get_or entered x 0 ≡ low (get_or built y 0)
        → get_or places x 0 ≤ get_or places y 0
    pub decided_sources : Sources (length corners) places
