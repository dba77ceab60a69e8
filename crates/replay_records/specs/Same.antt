-- What it is for a field to agree with recorded bytes.
-- Assumes nothing.
use Rattle.std.specs.Prelude.{◌≡◌, List, ℕ, ◌+◌, ◌*◌, ◌<◌, get_or}
use Rattle.integration_field.specs.declared.IntegrationField.{IntegrationField}

-- the number of 32 bits at a place, its lowest byte first
abbrev pub word_at : List ℕ → ℕ → ℕ
word_at bytes at = get_or bytes at 0 + 256 * get_or bytes (at + 1) 0 + 65536 * get_or bytes (at + 2) 0 + 16777216 * get_or bytes (at + 3) 0

-- the first positions, corners and cells of a field are those that stand after its count, a byte, a byte and four bytes each
abbrev pub SameFirst : ℕ → List ℕ → List ℕ → List ℕ → List ℕ → Type 0
SameFirst n positions corners cells bytes =
    (i : ℕ) → i < n
    → (get_or positions i 0 ≡ get_or bytes (1 + i) 0)
    × ((get_or corners i 0 ≡ get_or bytes (101 + i) 0) × (get_or cells i 0 ≡ word_at bytes (201 + 4 * i)))

-- a field is the one that stands as count, positions, corners and cells
abbrev pub SameField : IntegrationField → List ℕ → Type 0
SameField field bytes = (field.count ≡ get_or bytes 0 0) × SameFirst 100 field.positions field.los_corners field.field bytes
