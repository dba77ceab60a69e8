-- Lists in arrays with a count (01, under the table: places of a list beyond its count hold 0).
-- Assumes nothing.
use Rattle.std.specs.Prelude.{◌≡◌, List, ℕ, ◌<◌, ◌≤◌, length, get_or, take, replicate}
use Rattle.utilities.specs.Padded.{padded as paddedTo}
use Rattle.integration_field.specs.declared.IntegrationField.{IntegrationField}

-- the list, and zeros behind it to 100 places
abbrev pub padded : List ℕ → List ℕ
padded l = paddedTo 100 0 l

-- an array of this many places, with indexes of cells in those below its count
pub record Indexes (places : ℕ) (cells : List ℕ) (count : ℕ) : Type 0 where
  pub full : length cells ≡ places
  pub count_in : count ≤ places
  pub cells_in : (i : ℕ) → i < count → get_or cells i 0 < 100

-- the listed corners of a field
abbrev pub list_of : IntegrationField → List ℕ
list_of f = take f.count f.los_corners

-- no cell has a position before building (02, "Job 10")
abbrev pub no_positions : List ℕ
no_positions = replicate 100 255

-- a field of these cells, with these corners, before building
abbrev pub with_corners : List ℕ → List ℕ → IntegrationField
with_corners cells corners = record { field = cells; los_corners = padded corners; count = length corners; positions = no_positions }

-- the field of a refused answer
abbrev pub zero_field : IntegrationField
zero_field = record { field = replicate 100 0; los_corners = replicate 100 0; count = 0; positions = replicate 100 0 }
