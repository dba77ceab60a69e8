-- What holds while a wave's offers are made (01, "Integration: build"). A reader of the promises needs none of it.
-- Assumes nothing.
use Rattle.std.specs.Prelude.{◌≡◌, List, ℕ, ◌+◌, ◌<◌, ◌≤◌, length, get_or}
use Rattle.fields.specs.declared.CellList.{CellList}
use Rattle.integration_field.specs.Word.{low}
use Rattle.integration_field.specs.Listed.{Indexes}

-- a cell's word is no longer the one before the wave
abbrev pub Differs : List ℕ → List ℕ → ℕ → Type 0
Differs before cells x = get_or cells x 0 ≡ get_or before x 0 → ⊥

-- a value is no lower than that which some cell held before the wave
pub record NotBelowAll (before : List ℕ) (value : ℕ) : Type 0 where
  pub cell : ℕ
  pub cell_in : cell < 100
  pub no_lower : low (get_or before cell 0) ≤ value

-- the word of cell x has a lower value than before the wave, which some cell offered
pub record Fallen (before : List ℕ) (x word : ℕ) : Type 0 where
  pub lower : low word < low (get_or before x 0)
  pub is_offered_by : NotBelowAll before (low word)

-- cell x is listed
pub record StandsIn (next : CellList 100) (x : ℕ) : Type 0 where
  pub place : ℕ
  pub place_in : place < next.count
  pub there : get_or next.cells place 0 ≡ x

-- The list holds the cells whose word is no longer the one before the wave, each once; each of them has a lower value than before, which some cell
-- offered.
pub record ChangedCells (before cells : List ℕ) (next : CellList 100) : Type 0 where
  pub full : length cells ≡ 100
  pub indexes : Indexes 100 next.cells next.count
  pub once : (i j : ℕ) → i < j → j < next.count → get_or next.cells i 0 ≡ get_or next.cells j 0 → ⊥
  pub differs : (i : ℕ) → i < next.count → Differs before cells (get_or next.cells i 0)
  pub listed : (x : ℕ) → Differs before cells x → StandsIn next x
  pub lowered : (x : ℕ) → Differs before cells x → Fallen before x (get_or cells x 0)

-- what a cell is given that a sum is offered to
pub record RelaxReady (before cells : List ℕ) (next : CellList 100) (index sum : ℕ) : Type 0 where
  pub inside : index < 100
  pub not_below : NotBelowAll before sum
  pub changed : ChangedCells before cells next

-- what an offer of a value is given: the value is a cell's, and the cells that changed so far in this wave are listed
pub record OfferReady (before cells : List ℕ) (next : CellList 100) (value : ℕ) : Type 0 where
  pub value_in : value < 65536
  pub not_below : NotBelowAll before value
  pub changed : ChangedCells before cells next

-- what all waves are given: a hundred cells, and the first wave
pub record WavesReady (cells : List ℕ) (wavefront : CellList 100) : Type 0 where
  pub full : length cells ≡ 100
  pub wave_in : Indexes 100 wavefront.cells wavefront.count

-- what a wave is given: its cells, room for the next wave's, and a number of waves left that with those counted is at most 100
pub record WaveReady (cells : List ℕ) (wavefront next : CellList 100) (waves falling : ℕ) : Type 0 where
  pub full : length cells ≡ 100
  pub wave_in : Indexes 100 wavefront.cells wavefront.count
  pub room : length next.cells ≡ 100
  pub at_most : waves + falling ≤ 100
